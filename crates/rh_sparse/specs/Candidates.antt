-- Which bits of a program have a row, and which the instances of the rules conclude.
use Rattle.std.specs.Prelude.{ℕ, ◌≡◌, ◌*◌, ◌<◌, ◌==◌, Bool, false, ◌&&◌, ◌||◌, List, [], ◌∷◌, Some, length, slice_get}
use Rattle.std.specs.List.{list_any, range_with_len}
use Rattle.std.specs.Option.{option_map_or}
use Rattle.rh_il.specs.declared.program.Edge.{Edge}
use Rattle.rh_il.specs.declared.program.Proc.{Proc}
use Rattle.rh_il.specs.Flow.{edges_of}
use Rattle.rh_rule.specs.declared.rule.Conclusion.{Conclusion}
use Rattle.rh_rule.specs.declared.rule.Conclusion.TheVariants.{Fact, Transform}
use Rattle.rh_rule.specs.declared.rule.FactUse.{FactUse}
use Rattle.rh_rule.specs.declared.rule.Rule.{Rule}
use Rattle.rh_rule.specs.declared.rule.Ruling.{Ruling}
use Rattle.rh_rule.specs.declared.rule.Ruling.TheVariants.{Admitted, Refused}
use Rattle.rh_rule.specs.declared.schema.Schema.{Schema}
use Rattle.rh_rule.specs.RuleFiles.{Rules}
use Rattle.rh_domain.specs.declared.domain.Domain.{Domain}
use Rattle.rh_domain.specs.declared.fact.FactAt.{FactAt}
use Rattle.rh_domain.specs.Binding.{Binding, bindings, domain_of}
use Rattle.rh_domain.specs.Count.{IsSmall}
use Rattle.rh_layout.specs.declared.layout.Layout.{Layout}
use Rattle.rh_layout.specs.Layout.{IsLayoutOf}
use Rattle.rh_ground.specs.Instance.{fact_under, is_instance}
use Rattle.rh_system.specs.Bits.{BitSet, bits_in}
use Rattle.rh_rows.specs.Known.{known_by, slot_eq}
pub use Rattle.rh_carry.specs.Carry.{has_row}

-- the new words are as many as the old ones, with the bits of these and those that pass the test
pub record Marks (test : BitSet) (old new : List ℕ) : Type 0 where
  pub as_many : length new ≡ length old
  pub bits : (bit : ℕ) → bit < 64 * length old → bits_in new bit ≡ (bits_in old bit || test bit)

-- the edge has this number among those of the procedure at the place, for which the layout and the domain are made
pub record IsEdgeSite (schemas : List Schema) (procs : List Proc) (layout : Layout) (proc : Proc) (domain : Domain) (place number : ℕ) (edge : Edge) : Type 0 where
  pub laid : IsLayoutOf schemas procs layout
  pub proc_at : slice_get procs place ≡ Some proc
  pub domain_is : domain ≡ domain_of proc
  pub small : IsSmall domain
  pub edge_at : slice_get (edges_of proc) number ≡ Some edge

-- the fact is one of the program, and the bit is its own
abbrev pub is_bit_of : List Schema → List Proc → FactAt → ℕ → Bool
is_bit_of schemas procs fact bit = known_by schemas procs (λ own. own == bit) fact

-- what a use of a schema is on an edge of a procedure under a binding
abbrev pub fact_on : ℕ → Edge → FactUse → Binding → FactAt
fact_on place edge concluded binding = record { proc = place; edge = edge; fact = fact_under binding concluded }

-- an instance of the rule at the node that the edge leaves concludes the fact of the bit
abbrev pub some_concludes : List Schema → List Proc → ℕ → Proc → Edge → Rule → FactUse → ℕ → Bool
some_concludes schemas procs place proc edge rule concluded bit =
    list_any (λ binding. is_instance proc rule binding edge.node && is_bit_of schemas procs (fact_on place edge concluded binding) bit) (bindings proc rule.params)

-- the rule is admitted, concludes a fact on edges of the slot, and one of its instances concludes that of the bit
abbrev pub rule_concludes : List Schema → List Proc → ℕ → Proc → Edge → Rule → Ruling → Conclusion → ℕ → Bool
rule_concludes schemas procs place proc edge rule Admitted (Fact concluded slot) bit = slot_eq slot edge.slot && some_concludes schemas procs place proc edge rule concluded bit
rule_concludes schemas procs place proc edge rule Admitted (Transform template) bit = false
rule_concludes schemas procs place proc edge rule (Refused obligation) conclusion bit = false

-- some rule concludes the fact of the bit on the edge
abbrev pub rules_conclude : List Schema → List Proc → ℕ → Proc → Edge → List Rule → List Ruling → ℕ → Bool
rules_conclude schemas procs place proc edge [] rulings bit = false
rules_conclude schemas procs place proc edge (rule ∷ rules) [] bit = false
rules_conclude schemas procs place proc edge (rule ∷ rules) (ruling ∷ rulings) bit =
    rule_concludes schemas procs place proc edge rule ruling rule.conclusion bit || rules_conclude schemas procs place proc edge rules rulings bit

-- some rule of the file concludes it on the edge with a number of the procedure at a place
abbrev pub concluded_on : Rules → List Ruling → List Proc → ℕ → ℕ → ℕ → Bool
concluded_on file rulings procs place number bit =
    option_map_or (λ (proc : Proc). option_map_or (λ (edge : Edge). rules_conclude file.schemas procs place proc edge file.rules rulings bit) (slice_get (edges_of proc) number) false)
    (slice_get procs place) false

-- how many edges the procedure at a place has
abbrev pub edge_count : List Proc → ℕ → ℕ
edge_count procs place = option_map_or (λ (proc : Proc). length (edges_of proc)) (slice_get procs place) 0

-- on some edge of the procedure
abbrev pub concluded_in : Rules → List Ruling → List Proc → ℕ → ℕ → Bool
concluded_in file rulings procs place bit = list_any (λ number. concluded_on file rulings procs place number bit) (range_with_len 0 (edge_count procs place))

-- on some edge of some procedure
abbrev pub is_concluded : Rules → List Ruling → List Proc → ℕ → Bool
is_concluded file rulings procs bit = list_any (λ place. concluded_in file rulings procs place bit) (range_with_len 0 (length procs))
