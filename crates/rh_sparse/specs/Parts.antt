-- The sparse system of a program.
use Rattle.std.specs.Prelude.{ℕ, ◌≡◌, ◌&&◌, Bool, List, length, not}
use Rattle.rh_layout.specs.Bits.{full_words}
use Rattle.rh_carry.specs.Carry.{IsBefore, carried_rows, carries, only, other_rows}
use Rattle.rh_rows.specs.declared.ground.Ground.{Ground}
use Rattle.rh_rows.specs.BitRows.{rows_of}
use Rattle.rh_rule.specs.declared.rule.Ruling.{Ruling}
use Rattle.rh_system.specs.declared.system.Row.{Row}
use Rattle.rh_system.specs.Bits.{BitSet, bits_in}
use Rattle.rh_system.specs.Rows.{supports}
use Rattle.rh_sparse.specs.Candidates.{has_row}

-- the rows of a program's instances
abbrev pub rows_in : Ground → List Row
rows_in facts = rows_of facts.file facts.rulings facts.program

-- the words with all bits of a program
abbrev pub full_in : Ground → List ℕ
full_in facts = full_words facts.file.schemas facts.program

-- the bits of the words are the candidates of a program
pub record AreCandidates (facts : Ground) (words : List ℕ) : Type 0 where
  pub as_many : length words ≡ length (full_in facts)
  pub has_rows : (bit : ℕ) → bits_in words bit ≡ has_row (rows_in facts) bit

-- the rulings are those on the rules that don't carry, and the words hold the bits that have rows by the rules that carry,
-- and those that have rows by the others
pub record AreSearched (facts : Ground) (others : List Ruling) (carried searched : List ℕ) : Type 0 where
  pub others_are : others ≡ only (λ rule. not (carries rule)) facts.file.rules facts.rulings
  pub as_many_carried : length carried ≡ length (full_in facts)
  pub as_many_searched : length searched ≡ length (full_in facts)
  pub carried_are : (bit : ℕ) → bits_in carried bit ≡ has_row (carried_rows facts.file facts.rulings facts.program) bit
  pub searched_are : (bit : ℕ) → bits_in searched bit ≡ has_row (other_rows facts.file facts.rulings facts.program) bit

-- a row by a rule that carries supports a bit where the bit is one of these and its fact is known on the edges before
abbrev pub AreCarried : Ground → Type 0
AreCarried facts = (set : BitSet) (bit : ℕ) (before : Bool) → IsBefore facts.file.schemas facts.program set bit before
    → supports (carried_rows facts.file facts.rulings facts.program) set bit ≡ (has_row (carried_rows facts.file facts.rulings facts.program) bit && before)
