-- How far the words go with each accepted list, and the place of a usage fault.
use Rattle.std.proofs.Common.{◌≡◌, ℕ, zero, suc, ◌+◌, ◌<◌, ◌≤◌, max, Bool, true, false, cond, List, [], ◌∷◌, ◌++◌, length, get_or, take, drop, map, length-drop, refl, sym, ap, ◌∙◌, arith, lit≤, ⊎_elim, codes}
use Rattle.std.proofs.lemmas.Bool.{and_parts, and_from, or_cases, or_left, or_right, false≢true, cases_lt, cond-true, false_from_ne_true}
use Rattle.std.proofs.lemmas.List.Sums.{common_prefix_len-le, common_prefix_len-drop_yes, common_prefix_len-drop_no}
use Rattle.std.proofs.lemmas.List.{length-map, get_or-map, at_drop_more}
use Rattle.std.specs.Prelude.{String}
use Rattle.std.specs.String.{string_bytes}
use Rattle.std.specs.Cmp.Lexicographic.{pointwise}
use Rattle.std.specs.List.{common_prefix_len}
use Rattle.rh_args.specs.declared.form.WordForm.{WordForm}
use Rattle.rh_args.specs.declared.form.WordForm.TheVariants.{Opt, Check, Prove, Audit, Run, Gen, Workers, Steps, File, Argument, Count}
use Rattle.rh_args.specs.declared.shape.Shape.{Shape}
use Rattle.rh_args.specs.declared.shape.Shape.TheVariants as shapes
use Rattle.rh_args.specs.Numbers.{digits_up_to, argument, number_after}
use Rattle.rh_args.specs.Forms.{fits, forms_of, all_shapes, is_shaped, is_accepted, farthest, IsUsagePlace, texts}

-- a word of each form
example : WordForm → List ℕ
example Opt = codes "opt"
example Check = codes "check"
example Prove = codes "prove"
example Audit = codes "audit"
example Run = codes "run"
example Gen = codes "gen"
example Workers = codes "--workers=1"
example Steps = codes "--steps=1"
example File = codes "a"
example Argument = codes "0"
example Count = codes "0"

fits-example : (form : WordForm) → fits form (example form) ≡ true
unfolding example digits_up_to argument number_after
fits-example Opt = refl
fits-example Check = refl
fits-example Prove = refl
fits-example Audit = refl
fits-example Run = refl
fits-example Gen = refl
fits-example Workers = refl
fits-example Steps = refl
fits-example File = refl
fits-example Argument = refl
fits-example Count = refl

-- a list whose every word fits
abbrev all_fit : List WordForm → List (List ℕ) → Bool
all_fit forms words = pointwise fits forms words

whole_front : (forms : List WordForm) (words : List (List ℕ)) → all_fit forms words ≡ true → (common_prefix_len fits forms words ≡ length forms) × (common_prefix_len fits forms words ≡ length words)
whole_front [] [] e = (refl, refl)
whole_front [] (w ∷ ws) e = absurd (false≢true e)
whole_front (f ∷ fs) [] e = absurd (false≢true e)
whole_front (f ∷ fs) (w ∷ ws) e =
    let parts = and_parts (fits f w) (all_fit fs ws) e in
    let rest = whole_front fs ws parts.1 in
    let is_front : cond (fits f w) (1 + common_prefix_len fits fs ws) 0 ≡ 1 + common_prefix_len fits fs ws = cond-true (fits f w) _ _ parts.0 in
    (omega arith, omega arith)

-- how many words from the first on fit
abbrev pub front : List WordForm → List (List ℕ) → ℕ
front forms words = common_prefix_len fits forms words

all_fit-examples : (forms : List WordForm) → all_fit forms (map example forms) ≡ true
all_fit-examples [] = refl
all_fit-examples (f ∷ fs) = and_from _ _ (fits-example f) (all_fit-examples fs)

front_step : (t : Bool) (n m : ℕ) → suc n ≤ cond t (1 + m) 0 → (t ≡ true) × (n ≤ m)
front_step true n m h = (refl, omega arith)
front_step false n m h = absurd (omega arith)

-- what fits so far can go on to the end of the list
fill : (forms : List WordForm) (words : List (List ℕ)) (n : ℕ) → n ≤ front forms words → (more : List (List ℕ)) × (all_fit forms (take n words ++ more) ≡ true)
fill forms words zero h = (map example forms, all_fit-examples forms)
fill [] words (suc n) h = absurd (omega arith)
fill (f ∷ fs) [] (suc n) h = absurd (omega arith)
fill (f ∷ fs) (w ∷ ws) (suc n) h =
    let step = front_step (fits f w) n (front fs ws) h in
    let rest = fill fs ws n step.1 in
    (rest.0, and_from _ _ step.0 rest.1)

front_more : (t : Bool) (n m : ℕ) → t ≡ true → n ≤ m → suc n ≤ cond t (1 + m) 0
front_more true n m e h = omega arith
front_more false n m e h = absurd (false≢true e)

-- words with which a fitting list begins fit so far
reach : (forms : List WordForm) (words more : List (List ℕ)) (n : ℕ) → n ≤ length words → all_fit forms (take n words ++ more) ≡ true → n ≤ front forms words
reach forms words more zero h e = omega arith
reach forms [] more (suc n) h e = absurd (omega arith)
reach [] (w ∷ ws) more (suc n) h e = absurd (false≢true e)
reach (f ∷ fs) (w ∷ ws) more (suc n) h e =
    let parts = and_parts _ _ e in
    front_more (fits f w) n (front fs ws) parts.0 (reach fs ws more n (omega arith) parts.1)

-- a list fits where all its words do and there are no others
pub fits_whole : (forms : List WordForm) (words : List (List ℕ)) → front forms words ≡ length forms → front forms words ≡ length words → all_fit forms words ≡ true
fits_whole [] [] e d = refl
fits_whole [] (w ∷ ws) e d = absurd (omega arith)
fits_whole (f ∷ fs) [] e d = absurd (omega arith)
fits_whole (f ∷ fs) (w ∷ ws) e d =
    let low : suc (length fs) ≤ cond (fits f w) (1 + front fs ws) 0 = omega arith in
    let step = front_step (fits f w) (length fs) (front fs ws) low in
    let is_front : cond (fits f w) (1 + front fs ws) 0 ≡ 1 + front fs ws = rw step.0 refl in
    and_from _ _ step.0 (fits_whole fs ws (omega arith) (omega arith))

front-le : (forms : List WordForm) (words : List (List ℕ)) → front forms words ≤ length words
front-le forms words = (common_prefix_len-le fits forms words).1

farthest-le : (ss : List Shape) (words : List (List ℕ)) → farthest ss words ≤ length words
farthest-le [] words = omega arith
farthest-le (s ∷ ss) words = omega (arith, front-le (forms_of s) words, farthest-le ss words)

attained : (ss : List Shape) (words : List (List ℕ)) (n : ℕ) → 0 < length ss → n ≤ farthest ss words → (more : List (List ℕ)) × (is_shaped ss (take n words ++ more) ≡ true)
attained [] words n some h = absurd (omega arith)
attained (s ∷ []) words n some h =
    let rest = fill (forms_of s) words n (omega arith) in (rest.0, or_left _ _ rest.1)
attained (s ∷ t ∷ ss) words n some h =
    ⊎_elim
    (λ beyond. let rest = attained (t ∷ ss) words n (omega arith) (omega arith) in (rest.0, or_right _ _ rest.1))
    (λ within. let rest = fill (forms_of s) words n within in (rest.0, or_left _ _ rest.1))
    (cases_lt (front (forms_of s) words) n)

longest : (ss : List Shape) (words more : List (List ℕ)) (n : ℕ) → n ≤ length words → is_shaped ss (take n words ++ more) ≡ true → n ≤ farthest ss words
longest [] words more n h e = absurd (false≢true e)
longest (s ∷ ss) words more n h e =
    ⊎_elim
    (λ here. omega (arith, reach (forms_of s) words more n h here))
    (λ there. omega (arith, longest ss words more n h there))
    (or_cases _ _ e)

-- the farthest is the place of the fault
pub usage_place : (words : List (List ℕ)) (place : ℕ) → place ≡ farthest all_shapes words → IsUsagePlace words place
unfolding is_accepted
usage_place words place e = record {
  within = omega (arith, farthest-le all_shapes words);
  begins = attained all_shapes words place (omega arith) (omega arith);
  longest = λ n h begins. omega (arith, longest all_shapes words begins.0 n h begins.1);
}

-- the words go one further with a list, or no further
module _ {A : Type 0} (forms : List WordForm) (words : List (String A)) (n : ℕ) (d : WordForm) (s : String A) (t : List ℕ) (in_forms : n < length forms) (in_words : n < length words) (word_is : s ≡ get_or words n s) (text_is : t ≡ string_bytes s) where
  in_texts : n < length (texts words)
  in_texts = omega (arith, length-map words string_bytes)

  text_there : t ≡ get_or (texts words) n t
  text_there = text_is ∙ ap string_bytes word_is ∙ sym (get_or-map string_bytes words n s t in_words)

  test_there : fits (get_or forms n d) (get_or (texts words) n t) ≡ fits (get_or forms n d) t
  test_there = ap (fits (get_or forms n d)) (sym text_there)

  pub one_further : fits (get_or forms n d) t ≡ true → common_prefix_len fits (drop n forms) (drop n (texts words)) ≡ 1 + common_prefix_len fits (drop (n + 1) forms) (drop (n + 1) (texts words))
  one_further e = common_prefix_len-drop_yes fits forms (texts words) n d t in_forms in_texts (test_there ∙ e)

  pub no_further : fits (get_or forms n d) t ≡ false → common_prefix_len fits (drop n forms) (drop n (texts words)) ≡ 0
  no_further e = common_prefix_len-drop_no fits forms (texts words) n d t in_forms in_texts (test_there ∙ e)

-- past the end of the words or of the list
pub at_end : {A : Type 0} (forms : List WordForm) (words : List (String A)) (n : ℕ) → length words ≤ n → common_prefix_len fits (drop n forms) (drop n (texts words)) ≡ 0
at_end forms words n past =
    omega (arith, front-le (drop n forms) (drop n (texts words)), length-drop n (texts words), length-map words string_bytes)

-- the search after one more shape
module _ (shapes : List Shape) (words : List (List ℕ)) (i : ℕ) (d : Shape) (below : i < length shapes) where
  pub shaped_here : pointwise fits (forms_of (get_or shapes i d)) words ≡ true → is_shaped (drop i shapes) words ≡ true
  shaped_here e = at_drop_more (λ ss. is_shaped ss words) shapes i d below ∙ or_left _ _ e

  pub shaped_later : pointwise fits (forms_of (get_or shapes i d)) words ≡ false → is_shaped (drop (i + 1) shapes) words ≡ is_shaped (drop i shapes) words
  shaped_later e = sym (at_drop_more (λ ss. is_shaped ss words) shapes i d below ∙ rw e refl)

  pub farthest_later : (place : ℕ) → max (max place (front (forms_of (get_or shapes i d)) words)) (farthest (drop (i + 1) shapes) words) ≡ max place (farthest (drop i shapes) words)
  farthest_later place =
      let more = at_drop_more (λ ss. farthest ss words) shapes i d below in omega arith

-- a list that stops short of its end or of the words' doesn't fit
pub fits_not : (forms : List WordForm) (words : List (List ℕ)) → (front forms words ≡ length forms → front forms words ≡ length words → ⊥) → pointwise fits forms words ≡ false
fits_not forms words h = false_from_ne_true _ (λ e. let w = whole_front forms words e in h w.0 w.1)

front-le-forms : (forms : List WordForm) (words : List (List ℕ)) → front forms words ≤ length forms
front-le-forms forms words = (common_prefix_len-le fits forms words).0

pub length-forms_of : (shape : Shape) → length (forms_of shape) ≤ 4
length-forms_of shapes.Opt = lit≤ tt
length-forms_of shapes.OptWorkers = lit≤ tt
length-forms_of shapes.Check = lit≤ tt
length-forms_of shapes.Prove = lit≤ tt
length-forms_of shapes.Audit = lit≤ tt
length-forms_of shapes.Run = lit≤ tt
length-forms_of shapes.RunSteps = lit≤ tt
length-forms_of shapes.Gen = lit≤ tt
length-forms_of shapes.GenWorkers = lit≤ tt
