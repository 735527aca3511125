-- What holds of bits and rows.
use Rattle.std.specs.Prelude.{ℕ, ◌≡◌, ◌↔◌, Contains, List}
use Rattle.std.specs.List.{All}
use Rattle.rh_il.specs.declared.program.Proc.{Proc}
use Rattle.rh_rule.specs.declared.rule.Ruling.{Ruling}
use Rattle.rh_rule.specs.declared.schema.Schema.{Schema}
use Rattle.rh_domain.specs.declared.fact.FactAt.{FactAt}
use Rattle.rh_layout.specs.Bits.{IsBitOf, full_words}
use Rattle.rh_rule.specs.RuleFiles.{IsRuleFile, Rules}
use Rattle.rh_ground.specs.Rows.{IsGreatest, IsRow}
use Rattle.rh_system.specs.Rows.{IsCovered, IsGreatest as HasGreatestBits}
use Rattle.rh_system.specs.declared.system.Row.{Row}
use Rattle.rh_rows.specs.Known.{known_in}
use Rattle.rh_rows.specs.BitRows.{HasBit, IsRowOf, bit_of, rows_of}

-- the bit that a layout gives a fact is the one that is computed from the fact's numbers
abbrev pub BitsAreComputed : Type 0
BitsAreComputed = (schemas : List Schema) (procs : List Proc) (bit : ℕ) (fact : FactAt) → IsBitOf schemas procs bit fact → bit ≡ bit_of schemas procs fact

-- the rows are those of the instances, and no others
abbrev pub RowsAreInstances : Type 0
RowsAreInstances = (file : Rules) (rulings : List Ruling) (procs : List Proc) (row : Row) → Contains (rows_of file rulings procs) row ↔ IsRowOf file rulings procs row

-- what a rule of a rule file concludes at a node is a fact of the program, and so are the premises
abbrev pub RowsHaveBits : Type 0
RowsHaveBits = (file : Rules) (rulings : List Ruling) (procs : List Proc) (conclusion : FactAt) (premises : List FactAt) → IsRuleFile file → IsRow file.rules rulings procs conclusion premises
    → HasBit file.schemas procs conclusion × All (HasBit file.schemas procs) premises

-- a bit that is none of the full words has no row
abbrev pub RowsAreCovered : Type 0
RowsAreCovered = (file : Rules) (rulings : List Ruling) (procs : List Proc) → IsRuleFile file → IsCovered (full_words file.schemas procs) (rows_of file rulings procs)

-- where words hold the greatest set of bits that the rows support, their facts are the greatest set of facts
abbrev pub GreatestIsKnown : Type 0
GreatestIsKnown = (file : Rules) (rulings : List Ruling) (procs : List Proc) (words : List ℕ) → IsRuleFile file → HasGreatestBits (rows_of file rulings procs) words
    → IsGreatest file.rules rulings procs (known_in file.schemas procs words)
