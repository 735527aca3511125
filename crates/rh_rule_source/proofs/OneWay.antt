-- Words that spell a value and go on with others do so for one value only, and the others are the same.
use Rattle.std.proofs.Common.{◌≡◌, ℕ, List, [], ◌∷◌, ◌++◌, refl, sym, ap, ◌∙◌, append_assoc}
use Rattle.std.specs.List.{flat_map}
use Rattle.rh_rule_source.specs.declared.word.Word.{Word}
use Rattle.rh_rule_source.specs.declared.word.Word.TheVariants.{Fixed, Lower, Upper, Number}
use Rattle.rh_rule_source.specs.declared.word.Spelled.{Spelled}
use Rattle.rh_rule_source.specs.Grammar.{OPEN_PAREN, CLOSE_PAREN, LOWER, UPPER, NUMBER}
use Rattle.rh_rule_source.specs.Source.{separated}

-- the values are the same, and so is what stands after them
pub record Same {T : Type 0} (a b : T) (r s : List Word) : Type 0 where
  pub value : a ≡ b
  pub rest : r ≡ s

-- one value and one rest, whatever stands after
abbrev pub OneWay : {T : Type 0} → (T → List Word) → Type 0
OneWay {T = T} words = (a b : T) (r s : List Word) → words a ++ r ≡ words b ++ s → Same a b r s

-- one value and one rest, where what stands after is of a kind
abbrev pub OneWayBefore : {T : Type 0} → (List Word → Type 0) → (T → List Word) → Type 0
OneWayBefore {T = T} Behind words = (a b : T) (r s : List Word) → Behind r → Behind s → words a ++ r ≡ words b ++ s → Same a b r s

-- no value begins there
abbrev pub NoneBegins : {T : Type 0} → (T → List Word) → List Word → Type 0
NoneBegins {T = T} words r = (x : T) (ws : List Word) → r ≡ words x ++ ws → ⊥

-- the word does not stand there
abbrev pub NotThere : Word → List Word → Type 0
NotThere word r = (ws : List Word) → r ≡ word ∷ ws → ⊥

pub first_word : (u v : Word) (r s : List Word) → ◌≡◌ {A = List Word} (u ∷ r) (v ∷ s) → u ≡ v
first_word u v r s e = cc

pub other_words : (u v : Word) (r s : List Word) → ◌≡◌ {A = List Word} (u ∷ r) (v ∷ s) → r ≡ s
other_words u v r s e = cc

pub one_lower : (a b : Spelled) → ◌≡◌ {A = Word} (Lower a) (Lower b) → a ≡ b
one_lower a b e = cc

pub one_upper : (a b : Spelled) → ◌≡◌ {A = Word} (Upper a) (Upper b) → a ≡ b
one_upper a b e = cc

-- the class of a word, the same for all numbers
abbrev pub class_in : Word → ℕ
class_in (Fixed class) = class
class_in (Lower name) = LOWER
class_in (Upper name) = UPPER
class_in (Number number) = NUMBER

-- the class of the first word
abbrev pub first_class : List Word → ℕ
first_class [] = 255
first_class (word ∷ ws) = class_in word

-- what is known again from the class of its word is spelled in one way
pub from_word : {T : Type 0} (spell : T → Word) (back : ℕ → T) → ((x : T) → back (class_in (spell x)) ≡ x) → (a b : T) → spell a ≡ spell b → a ≡ b
from_word spell back known a b e = sym (known a) ∙ ap (λ w. back (class_in w)) e ∙ known b

-- two parts in front of a rest, one after the other
pub in_turn : (p q r p' q' s : List Word) → (p ++ q) ++ r ≡ (p' ++ q') ++ s → p ++ (q ++ r) ≡ p' ++ (q' ++ s)
in_turn p q r p' q' s e = sym (append_assoc p q r) ∙ e ∙ append_assoc p' q' s

-- a part, a word and a part
pub record ThreeSame {T U V : Type 0} (a b : T) (m n : U) (x y : V) (r s : List Word) : Type 0 where
  pub left : a ≡ b
  pub middle : m ≡ n
  pub right : x ≡ y
  pub rest : r ≡ s

pub one_joined : {T U V : Type 0} (before : T → List Word) (between : U → Word) (behind : V → List Word) → OneWay before → ((m n : U) → between m ≡ between n → m ≡ n) → OneWay behind
    → (a b : T) (m n : U) (x y : V) (r s : List Word) → (before a ++ between m ∷ behind x) ++ r ≡ (before b ++ between n ∷ behind y) ++ s → ThreeSame a b m n x y r s
one_joined before between behind one_before one_between one_behind a b m n x y r s e =
    let first = one_before a b (between m ∷ (behind x ++ r)) (between n ∷ (behind y ++ s))
    (in_turn (before a) (between m ∷ behind x) r (before b) (between n ∷ behind y) s e) in
    let last = one_behind x y r s (other_words (between m) (between n) _ _ first.rest) in
    record { left = first.value; middle = one_between m n (first_word _ _ _ _ first.rest); right = last.value; rest = last.rest }

module _ {T : Type 0} (words : T → List Word) (one : OneWay words) where
  pub one_bracketed : OneWay (λ (x : T). Fixed OPEN_PAREN ∷ (words x ++ Fixed CLOSE_PAREN ∷ []))
  one_bracketed a b r s e =
      let inside = one a b (Fixed CLOSE_PAREN ∷ r) (Fixed CLOSE_PAREN ∷ s)
      (in_turn (words a) (Fixed CLOSE_PAREN ∷ []) r (words b) (Fixed CLOSE_PAREN ∷ []) s (other_words (Fixed OPEN_PAREN) (Fixed OPEN_PAREN) _ _ e)) in
      record { value = inside.value; rest = other_words _ _ _ _ inside.rest }

  -- parts with a word before each
  more_parts : (between : Word) (xs ys : List T) (r s : List Word) → NotThere between r → NotThere between s
      → flat_map (λ y. between ∷ words y) xs ++ r ≡ flat_map (λ y. between ∷ words y) ys ++ s → Same xs ys r s
  more_parts between [] [] r s no_r no_s e = record { value = refl; rest = e }
  more_parts between [] (y ∷ ys) r s no_r no_s e = absurd (no_r _ e)
  more_parts between (x ∷ xs) [] r s no_r no_s e = absurd (no_s _ (sym e))
  more_parts between (x ∷ xs) (y ∷ ys) r s no_r no_s e =
      let behind = λ (parts : List T). flat_map (λ y. between ∷ words y) parts in
      let first = one x y (behind xs ++ r) (behind ys ++ s)
      (in_turn (words x) (behind xs) r (words y) (behind ys) s (other_words between between _ _ e)) in
      let others = more_parts between xs ys r s no_r no_s first.rest in
      record { value = λ i. first.value i ∷ others.value i; rest = others.rest }

  -- parts with a word between each and the next
  pub one_separated : (between : Word) (xs ys : List T) (r s : List Word) → NotThere between r → NotThere between s → NoneBegins words r → NoneBegins words s
      → separated words between xs ++ r ≡ separated words between ys ++ s → Same xs ys r s
  one_separated between [] [] r s no_r no_s none_r none_s e = record { value = refl; rest = e }
  one_separated between [] (y ∷ ys) r s no_r no_s none_r none_s e =
      absurd (none_r y _ (e ∙ append_assoc (words y) (flat_map (λ y. between ∷ words y) ys) s))
  one_separated between (x ∷ xs) [] r s no_r no_s none_r none_s e =
      absurd (none_s x _ (sym e ∙ append_assoc (words x) (flat_map (λ y. between ∷ words y) xs) r))
  one_separated between (x ∷ xs) (y ∷ ys) r s no_r no_s none_r none_s e =
      let behind = λ (parts : List T). flat_map (λ y. between ∷ words y) parts in
      let first = one x y (behind xs ++ r) (behind ys ++ s) (in_turn (words x) (behind xs) r (words y) (behind ys) s e) in
      let others = more_parts between xs ys r s no_r no_s first.rest in
      record { value = λ i. first.value i ∷ others.value i; rest = others.rest }

  -- parts one after another, up to the end
  pub one_repeated : NoneBegins words [] → (xs ys : List T) → flat_map words xs ≡ flat_map words ys → xs ≡ ys
  one_repeated none [] [] e = refl
  one_repeated none [] (y ∷ ys) e = absurd (none y _ e)
  one_repeated none (x ∷ xs) [] e = absurd (none x _ (sym e))
  one_repeated none (x ∷ xs) (y ∷ ys) e =
      let first = one x y (flat_map words xs) (flat_map words ys) e in
      let others = one_repeated none xs ys first.rest in
      λ i. first.value i ∷ others i
