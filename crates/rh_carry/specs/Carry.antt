-- Rules that carry a fact past a statement: what they conclude is their one premise. So the rows of such a rule for a
-- bit have the bits of one fact as premises, and no instance is needed to know them.
use Rattle.std.specs.Prelude.{ℕ, ◌≡◌, ◌==◌, ◌&&◌, ◌||◌, Bool, true, false, List, [], ◌∷◌, if◌then◌else◌, map, not, slice_get}
use Rattle.std.specs.List.{list_all, list_any}
use Rattle.std.specs.Option.{option_map_or}
use Rattle.std.specs.Ordering.{int_eq}
use Rattle.rh_il.specs.declared.program.Proc.{Proc}
use Rattle.rh_rule.specs.declared.rule.Conclusion.{Conclusion}
use Rattle.rh_rule.specs.declared.rule.Conclusion.TheVariants.{Fact, Transform}
use Rattle.rh_rule.specs.declared.rule.FactUse.{FactUse}
use Rattle.rh_rule.specs.declared.rule.Rule.{Rule}
use Rattle.rh_rule.specs.declared.rule.RuleBase.{RuleBase}
use Rattle.rh_rule.specs.declared.rule.RuleBase.TheVariants.{Meta, Num, Wild}
use Rattle.rh_rule.specs.declared.rule.Ruling.{Ruling}
use Rattle.rh_rule.specs.declared.rule.Ruling.TheVariants.{Refused}
use Rattle.rh_rule.specs.declared.schema.Schema.{Schema}
use Rattle.rh_rule.specs.RuleFiles.{IsRuleFile, Rules}
use Rattle.rh_domain.specs.declared.fact.FactAt.{FactAt}
use Rattle.rh_ground.specs.Rows.{edges_before, on_edges}
use Rattle.rh_layout.specs.Bits.{IsBitOf}
use Rattle.rh_system.specs.declared.system.Row.{Row}
use Rattle.rh_system.specs.Bits.{BitSet}
use Rattle.rh_system.specs.Rows.{supports}
use Rattle.rh_rows.specs.BitRows.{bit_of, rows_of}

-- some row is one of the bit
abbrev pub has_row : List Row → ℕ → Bool
has_row rows bit = list_any (λ row. row.bit == bit) rows

-- ---- which rules carry

abbrev pub base_eq : RuleBase → RuleBase → Bool
base_eq (Meta a) (Meta b) = a == b
base_eq (Num a) (Num b) = int_eq a b
base_eq Wild Wild = true
base_eq _ _ = false

abbrev pub bases_eq : List RuleBase → List RuleBase → Bool
bases_eq [] [] = true
bases_eq [] (y ∷ ys) = false
bases_eq (x ∷ xs) [] = false
bases_eq (x ∷ xs) (y ∷ ys) = base_eq x y && bases_eq xs ys

-- the two uses are one
abbrev pub use_eq : FactUse → FactUse → Bool
use_eq a b = a.schema == b.schema && bases_eq a.args b.args

-- the one premise is what is concluded
abbrev pub is_only : List FactUse → FactUse → Bool
is_only [] concluded = false
is_only (premise ∷ []) concluded = use_eq premise concluded
is_only (premise ∷ other ∷ others) concluded = false

abbrev pub concludes_only : List FactUse → Conclusion → Bool
concludes_only premises (Fact concluded slot) = is_only premises concluded
concludes_only premises (Transform template) = false

-- the rule concludes its one premise
abbrev pub carries : Rule → Bool
carries rule = concludes_only rule.premises rule.conclusion

-- the rule carries, or doesn't, as is asked
abbrev pub is_asked : Bool → Rule → Bool
is_asked true rule = carries rule
is_asked false rule = not (carries rule)

-- ---- rulings on some of the rules

-- the ruling on a rule that passes; any other rule is refused
abbrev pub ruling_if : Bool → Ruling → Ruling
ruling_if passes ruling = if passes then ruling else Refused 0

-- the rulings on the rules that pass a test
abbrev pub only : (Rule → Bool) → List Rule → List Ruling → List Ruling
only passes [] rulings = []
only passes (rule ∷ rules) [] = []
only passes (rule ∷ rules) (ruling ∷ rulings) = ruling_if (passes rule) ruling ∷ only passes rules rulings

-- the rows of the rules that carry, and those of the others
abbrev pub carried_rows : Rules → List Ruling → List Proc → List Row
carried_rows file rulings procs = rows_of file (only carries file.rules rulings) procs

abbrev pub other_rows : Rules → List Ruling → List Proc → List Row
other_rows file rulings procs = rows_of file (only (λ rule. not (carries rule)) file.rules rulings) procs

-- ---- what the rules support

-- the bits of the fact on the edges that enter the node that its edge leaves
abbrev pub bits_before : List Schema → List Proc → FactAt → List ℕ
bits_before schemas procs at =
    option_map_or (λ (proc : Proc). map (bit_of schemas procs) (on_edges at.proc (edges_before proc at.edge.node) at.fact)) (slice_get procs at.proc) []

-- the answer tells of the fact of the bit whether the set has its bits on the edges before
abbrev pub IsBefore : List Schema → List Proc → BitSet → ℕ → Bool → Type 0
IsBefore schemas procs set bit answer = (at : FactAt) → IsBitOf schemas procs bit at → answer ≡ list_all set (bits_before schemas procs at)

-- the rows support a bit where those of the rules that carry do, or those of the others
abbrev pub SupportIsSplit : Type 0
SupportIsSplit = (file : Rules) (rulings : List Ruling) (procs : List Proc) (set : BitSet) (bit : ℕ)
    → supports (rows_of file rulings procs) set bit ≡ (supports (carried_rows file rulings procs) set bit || supports (other_rows file rulings procs) set bit)

-- the rows of the rules that carry support a bit where it is one of theirs and its fact is known on the edges before
abbrev pub SupportIsCarried : Type 0
SupportIsCarried = (file : Rules) (rulings : List Ruling) (procs : List Proc) (set : BitSet) (bit : ℕ) (before : Bool) → IsRuleFile file → IsBefore file.schemas procs set bit before
    → supports (carried_rows file rulings procs) set bit ≡ (has_row (carried_rows file rulings procs) bit && before)

-- a bit has a row where it has one by the rules that carry or by the others
abbrev pub RowsAreSplit : Type 0
RowsAreSplit = (file : Rules) (rulings : List Ruling) (procs : List Proc) (bit : ℕ)
    → has_row (rows_of file rulings procs) bit ≡ (has_row (carried_rows file rulings procs) bit || has_row (other_rows file rulings procs) bit)
