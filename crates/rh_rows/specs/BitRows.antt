-- The rows of a program's instances, over bits.
use Rattle.std.specs.Prelude.{ℕ, ◌≡◌, ◌+◌, ◌*◌, List, [], ◌∷◌, ◌++◌, length, map, take, slice_get, if◌then◌else◌}
use Rattle.std.specs.List.{flat_map, enumerate_from, position_or_len, range_with_len}
use Rattle.std.specs.Option.{option_map_or}
use Rattle.std.specs.Ordering.{int_eq}
use Rattle.rh_il.specs.declared.program.Edge.{Edge}
use Rattle.rh_il.specs.declared.program.Node.{Node}
use Rattle.rh_il.specs.declared.program.Node.TheVariants.{Entry, At}
use Rattle.rh_il.specs.declared.program.Proc.{Proc}
use Rattle.rh_il.specs.declared.program.Slot.{Slot}
use Rattle.rh_il.specs.declared.program.Slot.TheVariants.{Else}
use Rattle.rh_il.specs.Flow.{edges_behind}
use Rattle.rh_rule.specs.declared.rule.Arg.{Arg}
use Rattle.rh_rule.specs.declared.rule.Arg.TheVariants.{Var, Const}
use Rattle.rh_rule.specs.declared.rule.Conclusion.{Conclusion}
use Rattle.rh_rule.specs.declared.rule.Conclusion.TheVariants.{Fact, Transform}
use Rattle.rh_rule.specs.declared.rule.FactUse.{FactUse}
use Rattle.rh_rule.specs.declared.rule.Rule.{Rule}
use Rattle.rh_rule.specs.declared.rule.Ruling.{Ruling}
use Rattle.rh_rule.specs.declared.rule.Ruling.TheVariants.{Admitted, Refused}
use Rattle.rh_rule.specs.declared.schema.Param.{Param}
use Rattle.rh_rule.specs.declared.schema.Schema.{Schema}
use Rattle.rh_rule.specs.RuleFiles.{Rules}
use Rattle.rh_domain.specs.declared.domain.Domain.{Domain}
use Rattle.rh_domain.specs.declared.fact.FactAt.{FactAt}
use Rattle.rh_domain.specs.declared.fact.GroundFact.{GroundFact}
use Rattle.rh_domain.specs.Binding.{Binding, bindings, domain_of}
use Rattle.rh_domain.specs.Count.{binding_count, fact_count}
use Rattle.rh_layout.specs.Bits.{IsBitOf, count_on, width_of, word_count}
use Rattle.rh_ground.specs.Instance.{fact_under, is_instance}
use Rattle.rh_ground.specs.Rows.{IsRow, premises_at}
use Rattle.rh_system.specs.declared.system.Row.{Row}

-- ---- the bit of a fact on an edge

-- the number of an edge: after the entry's those of the earlier statements, and `then` before `else`
abbrev pub slot_number : Slot → ℕ
slot_number Else = 1
slot_number slot = 0

abbrev pub number_from : Proc → Node → Slot → ℕ
number_from proc Entry slot = 0
number_from proc (At number) slot = 1 + length (edges_behind (take number proc.body) 0) + slot_number slot

abbrev pub edge_number : Proc → Edge → ℕ
edge_number proc edge = number_from proc edge.node edge.slot

-- the number of an argument among those of its kind: the place where it stands
abbrev pub arg_number : Domain → Arg → ℕ
arg_number domain (Var number) = number
arg_number domain (Const number) = position_or_len (int_eq number) domain.constants

-- the number of arguments among the bindings of parameters
abbrev pub binding_number : Domain → List Param → List Arg → ℕ
binding_number domain [] args = 0
binding_number domain (param ∷ params) [] = 0
binding_number domain (param ∷ params) (arg ∷ args) = arg_number domain arg * binding_count domain params + binding_number domain params args

-- the number of a fact: those of the earlier schemas come before it
abbrev pub fact_number : Domain → List Schema → GroundFact → ℕ
fact_number domain schemas fact =
    fact_count domain (take fact.schema schemas) + option_map_or (λ schema. binding_number domain schema.params fact.args) (slice_get schemas fact.schema) 0

-- the bit of a fact on an edge of a procedure
abbrev pub bit_in : List Schema → List Proc → FactAt → Proc → ℕ
bit_in schemas procs fact proc =
    64 * (word_count schemas (take fact.proc procs) + edge_number proc fact.edge * width_of (count_on schemas proc)) + fact_number (domain_of proc) schemas fact.fact

abbrev pub bit_of : List Schema → List Proc → FactAt → ℕ
bit_of schemas procs fact = option_map_or (bit_in schemas procs fact) (slice_get procs fact.proc) 0

-- ---- the rows

-- the entry of a procedure and its statements
abbrev pub nodes_of : Proc → List Node
nodes_of proc = Entry ∷ map At (range_with_len 0 (length proc.body))

-- the row of a rule that concludes a fact on an edge that leaves the node
abbrev pub row_under : List Schema → List Proc → ℕ → Proc → Node → Rule → FactUse → Slot → Binding → Row
row_under schemas procs place proc node rule fact slot binding = record {
  bit = bit_of schemas procs (record { proc = place; edge = record { node = node; slot = slot }; fact = fact_under binding fact });
  premises = map (bit_of schemas procs) (premises_at place proc rule binding node);
}

-- there is one where the rule is about the node under the binding
abbrev pub rows_under : List Schema → List Proc → ℕ → Proc → Node → Rule → FactUse → Slot → Binding → List Row
rows_under schemas procs place proc node rule fact slot binding =
    if is_instance proc rule binding node then row_under schemas procs place proc node rule fact slot binding ∷ [] else []

-- the rows of one rule at a node, if it is admitted and concludes a fact
abbrev pub rows_by : List Schema → List Proc → ℕ → Proc → Node → Rule → Ruling → Conclusion → List Row
rows_by schemas procs place proc node rule Admitted (Fact fact slot) = flat_map (rows_under schemas procs place proc node rule fact slot) (bindings proc rule.params)
rows_by schemas procs place proc node rule Admitted (Transform template) = []
rows_by schemas procs place proc node rule (Refused obligation) conclusion = []

-- those of all rules
abbrev pub rows_at : List Schema → List Proc → ℕ → Proc → Node → List Rule → List Ruling → List Row
rows_at schemas procs place proc node [] rulings = []
rows_at schemas procs place proc node (rule ∷ rules) [] = []
rows_at schemas procs place proc node (rule ∷ rules) (ruling ∷ rulings) =
    rows_by schemas procs place proc node rule ruling rule.conclusion ++ rows_at schemas procs place proc node rules rulings

-- those of a procedure, node by node
abbrev pub rows_in : List Schema → List Proc → List Rule → List Ruling → ℕ → Proc → List Row
rows_in schemas procs rules rulings place proc = flat_map (λ node. rows_at schemas procs place proc node rules rulings) (nodes_of proc)

-- all rows, procedure by procedure
abbrev pub rows_of : Rules → List Ruling → List Proc → List Row
rows_of file rulings procs = flat_map (λ at. rows_in file.schemas procs file.rules rulings at.0 at.1) (enumerate_from 0 procs)

-- the row is that of an instance, with the bits of its facts
pub record IsRowOf (file : Rules) (rulings : List Ruling) (procs : List Proc) (row : Row) : Type 0 where
  pub conclusion : FactAt
  pub premises : List FactAt
  pub is : IsRow file.rules rulings procs conclusion premises
  pub bit_is : row.bit ≡ bit_of file.schemas procs conclusion
  pub premises_are : row.premises ≡ map (bit_of file.schemas procs) premises

-- the fact is one of the program, so it has a bit
abbrev pub HasBit : List Schema → List Proc → FactAt → Type 0
HasBit schemas procs fact = (bit : ℕ) × IsBitOf schemas procs bit fact
