-- What a cursor over the words of a program reads.
use Rattle.std.specs.Prelude.{◌≡◌, ℕ, ◌<◌, List, ◌∷◌, ◌++◌, Option, Some}
use Rattle.rh_text.specs.declared.sign.Sign.TheVariants.{Becomes}
use Rattle.rh_grammar.specs.declared.grammar.Symbol.{Symbol}
use Rattle.rh_grammar.specs.declared.grammar.Symbol.TheVariants.{Token, Rule}
use Rattle.rh_grammar.specs.declared.cursor.Cursor.{Cursor}
use Rattle.rh_grammar.specs.Cursor.{Left as LeftBy, Reads as ReadsBy}
use Rattle.rh_il_source.specs.declared.word.Word.{Word}
use Rattle.rh_il_source.specs.declared.word.Word.TheVariants.{Sign as SignWord, Name, Number}
use Rattle.rh_il_source.specs.declared.source.Line.{Line}
use Rattle.rh_il_source.specs.Grammar.{productions, name, other, locals}
use Rattle.rh_il_source.specs.Words.{class_of, number_class}
use Rattle.rh_il_source.specs.Fixed.{fixed_word}
use Rattle.rh_il_source.specs.Source.{line_words, locals_words}

-- the symbols derive what is left
abbrev pub Left : List Symbol → Cursor Word → Type 0
Left = LeftBy class_of productions

-- wherever the symbols come next, the words that are read are those of the value
abbrev pub Reads : {T : Type 0} → List Symbol → (T → List Word) → Cursor Word → Cursor Word → T → Type 0
Reads = ReadsBy class_of productions

-- wherever a sign or a reserved word comes next, it is read
abbrev pub Skips : Cursor Word → Cursor Word → Type 0
Skips old new =
    (class : ℕ) (rest : List Symbol) → Left (Token class ∷ rest) old → class < name → (old.words.now ≡ fixed_word class ∷ new.words.now) × Left rest new

-- wherever a number comes next, it is read
abbrev pub ReadsNumber : Cursor Word → Cursor Word → ℕ → Type 0
ReadsNumber old new number =
    (class : ℕ) (rest : List Symbol) → Left (Token class ∷ rest) old → name < class → class < other → (old.words.now ≡ Number number ∷ new.words.now) × Left rest new × (number_class number ≡ class)

-- wherever the symbols come next, the line has the words that are read after the variable, `:=` and the front
abbrev pub ReadsAssigned : List ℕ → List Word → List Symbol → Cursor Word → Cursor Word → Line → Type 0
ReadsAssigned to front symbols old new line =
    (rest : List Symbol) → Left (symbols ++ rest) old → (Name to ∷ SignWord Becomes ∷ (front ++ old.words.now) ≡ line_words line ++ new.words.now) × Left rest new

-- locals were read
pub record LocalsRead (rest : List Symbol) (vars : List (List ℕ)) (old new : Cursor Word) (all : List (List ℕ)) : Type 0 where
  pub names : List (List ℕ)
  pub all_are : all ≡ vars ++ names
  pub words_are : old.words.now ≡ locals_words names ++ new.words.now
  pub left : Left rest new

-- wherever locals come next, they are read and stand behind those that were there
abbrev pub ReadsLocals : List (List ℕ) → Cursor Word → Cursor Word → List (List ℕ) → Type 0
ReadsLocals vars old new all = (rest : List Symbol) → Left (Rule locals ∷ rest) old → LocalsRead rest vars old new all

-- the name that a word is, where it is one
abbrev pub IsNameIn : Option Word → List ℕ → Type 0
IsNameIn (Some (Name bytes)) found = found ≡ bytes
IsNameIn word found = Unit {0}

-- the number that a word is, where it is one
abbrev pub IsNumberIn : Option Word → ℕ → Type 0
IsNumberIn (Some (Number number)) found = found ≡ number
IsNumberIn word found = Unit {0}
