-- A word is told by its class, but for the bytes of a name and the value of a number; so a cursor reads what
-- must stand there.
use Rattle.std.proofs.Common.{◌≡◌, ℕ, ◌<◌, ◌≤◌, ◌^◌, cond, Bool, true, false, List, [], ◌∷◌, Option, Some, None, refl, sym, ap, ◌∙◌, arith}
use Rattle.std.specs.Prelude.{nat_lt}
use Rattle.rh_text.specs.declared.sign.Sign.{Sign}
use Rattle.rh_text.specs.declared.sign.Sign.TheVariants.{Becomes}
use Rattle.rh_text.specs.Words.{sign_number}
use Rattle.rh_text.proofs.SignNumbers.{sign_number-lt}
use Rattle.rh_il.specs.declared.keyword.Keyword.{Keyword}
use Rattle.rh_il.specs.declared.keyword.Keyword.TheVariants.{Skip}
use Rattle.rh_il_source.specs.declared.word.Word.{Word}
use Rattle.rh_il_source.specs.declared.word.Word.TheVariants.{Sign as SignWord, Keyword as KeywordWord, Name, Number, Other}
use Rattle.rh_grammar.specs.declared.grammar.Symbol.TheVariants.{Token}
use Rattle.rh_grammar.specs.declared.cursor.Cursor.{Cursor}
use Rattle.rh_grammar.specs.Cursor.{Takes}
use Rattle.rh_il_source.specs.Grammar.{productions, signs, name, index, size, least, other}
use Rattle.rh_il_source.specs.Words.{keyword_number, number_class, class_of}
use Rattle.rh_il_source.specs.Fixed.{fixed_word}
use Rattle.rh_il_source.specs.Reading.{Reads, Skips, ReadsNumber, IsNameIn, IsNumberIn}

keyword_within : (k : Keyword) → (signs ≤ keyword_number k) × (keyword_number k < name)
keyword_within Skip = (omega arith, omega arith)
keyword_within _ = (omega arith, omega arith)

-- the class of a number, by cases of its size
record Sized (n class : ℕ) : Type 0 where
  low : index ≤ class
  high : class ≤ least
  small : class ≡ index → nat_lt n (2 ^ 32) ≡ true

by_size : (small middle : Bool) (n : ℕ) → nat_lt n (2 ^ 32) ≡ small → Sized n (cond small index (cond middle size least))
by_size true middle n e = record { low = omega arith; high = omega arith; small = λ _. e }
by_size false true n e = record { low = omega arith; high = omega arith; small = λ h. absurd (omega arith) }
by_size false false n e = record { low = omega arith; high = omega arith; small = λ h. absurd (omega arith) }

sized : (n : ℕ) → Sized n (number_class n)
sized n = by_size (nat_lt n (2 ^ 32)) (nat_lt n (2 ^ 63)) n refl

sign_fixed : (sign : Sign) → SignWord sign ≡ fixed_word (sign_number sign)
sign_fixed Becomes = refl
sign_fixed _ = refl

keyword_fixed : (k : Keyword) → KeywordWord k ≡ fixed_word (keyword_number k)
keyword_fixed Skip = refl
keyword_fixed _ = refl

-- a word of a fixed class
word_fixed : (word : Word) → class_of word < name → word ≡ fixed_word (class_of word)
word_fixed (SignWord sign) lt = sign_fixed sign
word_fixed (KeywordWord k) lt = keyword_fixed k
word_fixed (Name bytes) lt = absurd (omega arith)
word_fixed (Number n) lt = absurd (omega (arith, (sized n).low))
word_fixed Other lt = absurd (omega arith)

-- a name is there
named : (word : Word) (found : List ℕ) → IsNameIn (Some word) found → class_of word ≡ name → word ≡ Name found
named (SignWord sign) found is e = absurd (omega (arith, sign_number-lt sign))
named (KeywordWord k) found is e = absurd (omega (arith, (keyword_within k).1))
named (Name bytes) found is e = ap (λ (b : List ℕ). Name b) (sym is)
named (Number n) found is e = absurd (omega (arith, (sized n).low))
named Other found is e = absurd (omega arith)

-- a number is there
numbered : (word : Word) (found : ℕ) → IsNumberIn (Some word) found → name < class_of word → class_of word < other → word ≡ Number found
numbered (SignWord sign) found is low high = absurd (omega (arith, sign_number-lt sign))
numbered (KeywordWord k) found is low high = absurd (omega (arith, (keyword_within k).1))
numbered (Name bytes) found is low high = absurd (omega arith)
numbered (Number n) found is low high = ap (λ (m : ℕ). Number m) (sym is)
numbered Other found is low high = absurd (omega arith)

-- a target has 32 bits
pub index_small : (n : ℕ) → number_class n ≡ index → nat_lt n (2 ^ 32) ≡ true
index_small n e = (sized n).small e

-- ---- what a cursor reads, by the word that it takes

module _ (old new : Cursor Word) where
  pub skips : (found : Option Word) → Takes class_of old new found → Skips old new
  skips None takes class rest left low = absurd (takes productions class rest left)
  skips (Some word) takes class rest left low =
      let t = takes productions class rest left in
      let same : word ≡ fixed_word class = word_fixed word (omega (arith, t.0)) ∙ ap fixed_word t.0 in
      (t.1 ∙ ap (λ (w : Word). w ∷ new.words.now) same, t.2)

  pub reads_name : (found : Option Word) (bytes : List ℕ) → Takes class_of old new found → IsNameIn found bytes → Reads (Token name ∷ []) (λ (b : List ℕ). Name b ∷ []) old new bytes
  reads_name None bytes takes is rest left = absurd (takes productions name rest left)
  reads_name (Some word) bytes takes is rest left =
      let t = takes productions name rest left in
      (t.1 ∙ ap (λ (w : Word). w ∷ new.words.now) (named word bytes is t.0), t.2)

  pub reads_number : (found : Option Word) (n : ℕ) → Takes class_of old new found → IsNumberIn found n → ReadsNumber old new n
  reads_number None n takes is class rest left low high = absurd (takes productions class rest left)
  reads_number (Some word) n takes is class rest left low high =
      let t = takes productions class rest left in
      let same = numbered word n is (omega (arith, t.0)) (omega (arith, t.0)) in
      (t.1 ∙ ap (λ (w : Word). w ∷ new.words.now) same, t.2, ap class_of (sym same) ∙ t.0)
