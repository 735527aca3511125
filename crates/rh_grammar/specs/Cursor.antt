-- What is left of a text while its value is read.
use Rattle.std.specs.Prelude.{◌≡◌, ℕ, ◌<◌, length, List, [], ◌∷◌, ◌++◌, map, Option, Some, None}
use Rattle.std.specs.List.{flat_map}
use Rattle.rh_grammar.specs.declared.grammar.Symbol.{Symbol}
use Rattle.rh_grammar.specs.declared.grammar.Symbol.TheVariants.{Rule, Token}
use Rattle.rh_grammar.specs.declared.cursor.Cursor.{Cursor}
use Rattle.rh_grammar.specs.Derivation.{Rules, alternatives, alternative, Derives}

module _ {W : Type 0} (class_of : W → ℕ) (rules : Rules) where
  -- the symbols derive the words that are left, by the steps that are left
  abbrev pub Left : List Symbol → Cursor W → Type 0
  Left symbols cursor = Derives rules symbols cursor.steps.now (map class_of cursor.words.now)

  -- wherever the symbols come next, the words that are read are those of the value
  abbrev pub Reads : {T : Type 0} → List Symbol → (T → List W) → Cursor W → Cursor W → T → Type 0
  Reads symbols spell old new value =
      (rest : List Symbol) → Left (symbols ++ rest) old → (old.words.now ≡ spell value ++ new.words.now) × Left rest new

  -- there is such an alternative, and its symbols come next
  abbrev pub Replaces : List Symbol → Option (List Symbol) → Cursor W → Type 0
  Replaces rest None new = ⊥
  Replaces rest (Some to) new = Left (to ++ rest) new

-- wherever a nonterminal comes next, this alternative replaces it, and no word is read
abbrev pub Chooses : {W : Type 0} → (W → ℕ) → Cursor W → Cursor W → ℕ → Type 0
Chooses class_of old new number =
    (rules : Rules) (rule : ℕ) (rest : List Symbol) → Left class_of rules (Rule rule ∷ rest) old → (old.words.now ≡ new.words.now) × Replaces class_of rules rest (alternative rules rule number) new

-- the same of a number that the alternative is known to have
abbrev pub ChoosesAs : {W : Type 0} → (W → ℕ) → Cursor W → Cursor W → ℕ → Type 0
ChoosesAs class_of old new number =
    (k : ℕ) → number ≡ k → (rules : Rules) (rule : ℕ) (rest : List Symbol) → Left class_of rules (Rule rule ∷ rest) old → (old.words.now ≡ new.words.now) × Replaces class_of rules rest (alternative rules rule k) new

-- wherever a nonterminal comes next, the number is that of an alternative of it
abbrev pub ChoosesWithin : {W : Type 0} → (W → ℕ) → Cursor W → ℕ → Type 0
ChoosesWithin class_of old number =
    (rules : Rules) (rule : ℕ) (rest : List Symbol) → Left class_of rules (Rule rule ∷ rest) old → number < length (alternatives rules rule)

-- wherever a token comes next, the word is there and of its class
abbrev pub Takes : {W : Type 0} → (W → ℕ) → Cursor W → Cursor W → Option W → Type 0
Takes class_of old new None = (rules : Rules) (class : ℕ) (rest : List Symbol) → Left class_of rules (Token class ∷ rest) old → ⊥
Takes class_of old new (Some word) =
    (rules : Rules) (class : ℕ) (rest : List Symbol) → Left class_of rules (Token class ∷ rest) old → (class_of word ≡ class) × (old.words.now ≡ word ∷ new.words.now) × Left class_of rules rest new

-- Some parts came to a list. The words that were read are theirs, and the symbols come next.
pub record Listed {W T : Type 0} (class_of : W → ℕ) (rules : Rules) (rest : List Symbol) (spell : T → List W) (parts : List T) (old new : Cursor W) (all : List T) : Type 0 where
  pub more : List T
  pub all_are : all ≡ parts ++ more
  pub words_are : old.words.now ≡ flat_map spell more ++ new.words.now
  pub left : Left class_of rules rest new

-- wherever the nonterminal comes next, more parts are read and stand after those that were there
abbrev pub ReadsMore : {W T : Type 0} → (W → ℕ) → Rules → ℕ → (T → List W) → List T → Cursor W → Cursor W → List T → Type 0
ReadsMore class_of rules others spell parts old new all =
    (rest : List Symbol) → Left class_of rules (Rule others ∷ rest) old → Listed class_of rules rest spell parts old new all

-- the nonterminal is one more part and then itself, or nothing
abbrev pub IsRepeated : Rules → ℕ → List Symbol → Type 0
IsRepeated rules others part = alternatives rules others ≡ (part ++ Rule others ∷ []) ∷ [] ∷ []
