-- The words of a list that fits, one by one.
use Rattle.std.proofs.Common.{◌≡◌, ℕ, suc, ◌<◌, true, List, [], ◌∷◌, length, get_or, refl, sym, ap, ◌∙◌, arith}
use Rattle.std.proofs.lemmas.Bool.{and_parts, false≢true}
use Rattle.std.proofs.lemmas.List.{get_or-map, length-map}
use Rattle.std.proofs.lemmas.Slice.Eq.{bytes_eq-Decides}
use Rattle.std.specs.Cmp.Lexicographic.{pointwise}
use Rattle.std.specs.Prelude.{String}
use Rattle.std.specs.Str.{bytes_eq}
use Rattle.std.specs.String.{string_bytes}
use Rattle.rh_args.specs.declared.form.WordForm.{WordForm}
use Rattle.rh_args.specs.Forms.{fits, texts}

length-fits : (forms : List WordForm) (xs : List (List ℕ)) → pointwise fits forms xs ≡ true → length xs ≡ length forms
length-fits [] [] e = refl
length-fits [] (x ∷ xs) e = absurd (false≢true e)
length-fits (f ∷ fs) [] e = absurd (false≢true e)
length-fits (f ∷ fs) (x ∷ xs) e = ap suc (length-fits fs xs (and_parts _ _ e).1)

-- what is read at a place of the words
pub word_at : {A : Type 0} (ws : List (String A)) (i : ℕ) (s : String A) (t : List ℕ) → i < length (texts ws) → s ≡ get_or ws i s → t ≡ string_bytes s → t ≡ get_or (texts ws) i []
word_at ws i s t h read told =
    told ∙ ap string_bytes read ∙ sym (get_or-map string_bytes ws i s [] (omega (arith, length-map ws string_bytes)))

-- the first word has the first form
first_fits : (f : WordForm) (fs : List WordForm) (xs : List (List ℕ)) → pointwise fits (f ∷ fs) xs ≡ true → fits f (get_or xs 0 []) ≡ true
first_fits f fs [] e = absurd (false≢true e)
first_fits f fs (x ∷ xs) e = (and_parts _ _ e).0

-- a word that equals a text
pub is_text : (text word : List ℕ) → bytes_eq word text ≡ true → word ≡ text
is_text text word = (bytes_eq-Decides word text).0

two : (xs : List (List ℕ)) → length xs ≡ 2 → xs ≡ get_or xs 0 [] ∷ get_or xs 1 [] ∷ []
two [] e = absurd (omega arith)
two (a ∷ []) e = absurd (omega arith)
two (a ∷ b ∷ []) e = refl
two (a ∷ b ∷ c ∷ xs) e = absurd (omega arith)

three : (xs : List (List ℕ)) → length xs ≡ 3 → xs ≡ get_or xs 0 [] ∷ get_or xs 1 [] ∷ get_or xs 2 [] ∷ []
three [] e = absurd (omega arith)
three (a ∷ []) e = absurd (omega arith)
three (a ∷ b ∷ []) e = absurd (omega arith)
three (a ∷ b ∷ c ∷ []) e = refl
three (a ∷ b ∷ c ∷ d ∷ xs) e = absurd (omega arith)

four : (xs : List (List ℕ)) → length xs ≡ 4 → xs ≡ get_or xs 0 [] ∷ get_or xs 1 [] ∷ get_or xs 2 [] ∷ get_or xs 3 [] ∷ []
four [] e = absurd (omega arith)
four (a ∷ []) e = absurd (omega arith)
four (a ∷ b ∷ []) e = absurd (omega arith)
four (a ∷ b ∷ c ∷ []) e = absurd (omega arith)
four (a ∷ b ∷ c ∷ d ∷ []) e = refl
four (a ∷ b ∷ c ∷ d ∷ x ∷ xs) e = absurd (omega arith)

-- the words of a list of two, three or four, with a verb in front
module _ {A : Type 0} (ws : List (String A)) (verb : List ℕ) (f : WordForm) (is_verb : (w : List ℕ) → fits f w ≡ true → w ≡ verb) where
  pub words_2 : (g : WordForm) (s : String A) (a : List ℕ) → pointwise fits (f ∷ g ∷ []) (texts ws) ≡ true → s ≡ get_or ws 1 s → a ≡ string_bytes s → texts ws ≡ verb ∷ a ∷ []
  words_2 g s a e read told =
      let len = length-fits (f ∷ g ∷ []) (texts ws) e in
      let v = is_verb _ (first_fits f (g ∷ []) (texts ws) e) in
      let at_1 = word_at ws 1 s a (omega arith) read told in
      two (texts ws) len ∙ cc

  pub words_3 : (g h : WordForm) (s t : String A) (a b : List ℕ) → pointwise fits (f ∷ g ∷ h ∷ []) (texts ws) ≡ true → s ≡ get_or ws 1 s → a ≡ string_bytes s → t ≡ get_or ws 2 t → b ≡ string_bytes t → texts ws ≡ verb ∷ a ∷ b ∷ []
  words_3 g h s t a b e read told read' told' =
      let len = length-fits (f ∷ g ∷ h ∷ []) (texts ws) e in
      let v = is_verb _ (first_fits f (g ∷ h ∷ []) (texts ws) e) in
      let at_1 = word_at ws 1 s a (omega arith) read told in
      let at_2 = word_at ws 2 t b (omega arith) read' told' in
      three (texts ws) len ∙ cc

  pub words_4 : (g h k : WordForm) (s t u : String A) (a b d : List ℕ) → pointwise fits (f ∷ g ∷ h ∷ k ∷ []) (texts ws) ≡ true → s ≡ get_or ws 1 s → a ≡ string_bytes s → t ≡ get_or ws 2 t → b ≡ string_bytes t → u ≡ get_or ws 3 u → d ≡ string_bytes u → texts ws ≡ verb ∷ a ∷ b ∷ d ∷ []
  words_4 g h k s t u a b d e read told read' told' read'' told'' =
      let len = length-fits (f ∷ g ∷ h ∷ k ∷ []) (texts ws) e in
      let v = is_verb _ (first_fits f (g ∷ h ∷ k ∷ []) (texts ws) e) in
      let at_1 = word_at ws 1 s a (omega arith) read told in
      let at_2 = word_at ws 2 t b (omega arith) read' told' in
      let at_3 = word_at ws 3 u d (omega arith) read'' told'' in
      four (texts ws) len ∙ cc
