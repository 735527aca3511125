-- What is left of a text while its tree is built.
use Rattle.std.specs.Prelude.{◌≡◌, ℕ, ◌<◌, length, List, ◌∷◌, ◌++◌, map, Option, Some, None}
use Rattle.std.specs.List.{flat_map}
use Rattle.rh_grammar.specs.declared.grammar.Symbol.{Symbol}
use Rattle.rh_grammar.specs.declared.grammar.Symbol.TheVariants.{Rule, Token}
use Rattle.rh_grammar.specs.Derivation.{alternatives, alternative, Derives}
use Rattle.rh_rule_source.specs.declared.word.Word.{Word}
use Rattle.rh_rule_parse.specs.declared.cursor.Cursor.{Cursor}
use Rattle.rh_rule_source.specs.Words.{class_of, number_class}
use Rattle.rh_rule_source.specs.declared.word.Word.TheVariants.{Fixed, Number}
use Rattle.rh_rule_source.specs.Grammar.{productions, LOWER, UPPER}

-- the symbols derive the words that are left, by the alternatives that are left
abbrev pub Left : List Symbol → Cursor → Type 0
Left symbols cursor = Derives productions symbols cursor.productions.now (map class_of cursor.words.now)

-- wherever the symbols come next, the words that are read are those of the value
abbrev pub Reads : {T : Type 0} → List Symbol → (T → List Word) → Cursor → Cursor → T → Type 0
Reads symbols spell old new value =
    (rest : List Symbol) → Left (symbols ++ rest) old → (old.words.now ≡ spell value ++ new.words.now) × Left rest new

-- wherever more parts come next, they are read and stand after those that were there
abbrev pub ReadsMore : {T : Type 0} → ℕ → (T → List Word) → List T → Cursor → Cursor → List T → Type 0
ReadsMore others words parts old new all =
    (rest : List Symbol) → Left (Rule others ∷ rest) old → (flat_map words parts ++ old.words.now ≡ flat_map words all ++ new.words.now) × Left rest new

-- there is such an alternative, and its symbols come next
abbrev pub Replaces : List Symbol → Option (List Symbol) → Cursor → Type 0
Replaces rest None new = ⊥
Replaces rest (Some to) new = Left (to ++ rest) new

-- wherever the nonterminal comes next, this alternative replaces it, and no word is read
abbrev pub Chooses : Cursor → Cursor → ℕ → Type 0
Chooses old new number =
    (rule : ℕ) (rest : List Symbol) → Left (Rule rule ∷ rest) old → (old.words.now ≡ new.words.now) × Replaces rest (alternative productions rule number) new

-- the same of a number that the alternative is known to have
abbrev pub ChoosesAs : Cursor → Cursor → ℕ → Type 0
ChoosesAs old new number =
    (k : ℕ) → number ≡ k → (rule : ℕ) (rest : List Symbol) → Left (Rule rule ∷ rest) old → (old.words.now ≡ new.words.now) × Replaces rest (alternative productions rule k) new

-- wherever a nonterminal comes next, the number is that of an alternative of it
abbrev pub ChoosesWithin : Cursor → ℕ → Type 0
ChoosesWithin old number = (rule : ℕ) (rest : List Symbol) → Left (Rule rule ∷ rest) old → number < length (alternatives productions rule)

-- wherever a token comes next, the word is of its class
abbrev pub Takes : Cursor → Cursor → Word → Type 0
Takes old new word =
    (class : ℕ) (rest : List Symbol) → Left (Token class ∷ rest) old → (class_of word ≡ class) × (old.words.now ≡ word ∷ new.words.now) × Left rest new

-- wherever a sign or a word of the grammar comes next, it is read
abbrev pub Skips : Cursor → Cursor → Type 0
Skips old new =
    (class : ℕ) (rest : List Symbol) → Left (Token class ∷ rest) old → class < LOWER → (old.words.now ≡ Fixed class ∷ new.words.now) × Left rest new

-- wherever a number comes next, it is read
abbrev pub ReadsNumber : Cursor → Cursor → ℕ → Type 0
ReadsNumber old new number =
    (class : ℕ) (rest : List Symbol) → Left (Token class ∷ rest) old → UPPER < class → class < 255 → (old.words.now ≡ Number number ∷ new.words.now) × Left rest new × (number_class number ≡ class)
