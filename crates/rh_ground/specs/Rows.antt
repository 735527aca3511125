-- Which facts rest on which: the rows of a program's instances, and the greatest set that they support.
use Rattle.std.specs.Prelude.{ℕ, ◌≡◌, ◌↔◌, IsTrue, List, [], map}
use Rattle.std.specs.List.{All, flat_map}
use Rattle.rh_il.specs.declared.program.Edge.{Edge}
use Rattle.rh_il.specs.declared.program.Node.{Node}
use Rattle.rh_il.specs.declared.program.Node.TheVariants.{Entry, At}
use Rattle.rh_il.specs.declared.program.Proc.{Proc}
use Rattle.rh_il.specs.declared.program.Slot.{Slot}
use Rattle.rh_il.specs.Flow.{edges_into}
use Rattle.rh_rule.specs.declared.rule.Conclusion.TheVariants.{Fact}
use Rattle.rh_rule.specs.declared.rule.FactUse.{FactUse}
use Rattle.rh_rule.specs.declared.rule.Rule.{Rule}
use Rattle.rh_rule.specs.declared.rule.Ruling.{Ruling}
use Rattle.rh_rule.specs.declared.rule.Ruling.TheVariants.{Admitted}
use Rattle.std.specs.Prelude.{Some, slice_get}
use Rattle.rh_domain.specs.Binding.{Binding}
use Rattle.rh_domain.specs.Facts.{Known}
use Rattle.rh_domain.specs.declared.fact.FactAt.{FactAt}
use Rattle.rh_domain.specs.declared.fact.GroundFact.{GroundFact}
use Rattle.rh_ground.specs.Instance.{IsInstance, fact_under}

-- the edges that enter a node; none enters the entry
abbrev pub edges_before : Proc → Node → List Edge
edges_before proc Entry = []
edges_before proc (At number) = edges_into proc number

-- the fact on each of the edges
abbrev pub on_edges : ℕ → List Edge → GroundFact → List FactAt
on_edges place edges fact = map (λ edge. record { proc = place; edge = edge; fact = fact }) edges

-- the premises of a rule under a binding, on each edge that enters the node
abbrev pub premises_at : ℕ → Proc → Rule → Binding → Node → List FactAt
premises_at place proc rule binding node = flat_map (λ premise. on_edges place (edges_before proc node) (fact_under binding premise)) rule.premises

-- An instance of a proved propagation rule at a node of a procedure, which concludes a fact on an edge
-- that leaves the node.
pub record IsRow (rules : List Rule) (rulings : List Ruling) (procs : List Proc) (conclusion : FactAt) (premises : List FactAt) : Type 0 where
  pub number : ℕ
  pub rule : Rule
  pub proc : Proc
  pub binding : Binding
  pub node : Node
  pub fact : FactUse
  pub slot : Slot
  pub rule_at : slice_get rules number ≡ Some rule
  pub admitted : slice_get rulings number ≡ Some Admitted
  pub proc_at : slice_get procs conclusion.proc ≡ Some proc
  pub instance : IsInstance proc rule binding node
  pub concludes : rule.conclusion ≡ Fact fact slot
  pub conclusion_is : conclusion ≡ record { proc = conclusion.proc; edge = record { node = node; slot = slot }; fact = fact_under binding fact }
  pub premises_are : premises ≡ premises_at conclusion.proc proc rule binding node

-- each fact of the set has a row within the set
abbrev pub IsSupported : List Rule → List Ruling → List Proc → Known → Type 0
IsSupported rules rulings procs set =
    (fact : FactAt) → IsTrue (set fact) → (premises : List FactAt) × IsRow rules rulings procs fact premises × All (λ premise. IsTrue (set premise)) premises

-- the set has the facts of all supported sets, and no others
abbrev pub IsGreatest : List Rule → List Ruling → List Proc → Known → Type 0
IsGreatest rules rulings procs set =
    (fact : FactAt) → IsTrue (set fact) ↔ ((other : Known) × IsSupported rules rulings procs other × IsTrue (other fact))
