-- The facts whose bits are in a set, such as the bits that stand in words.
use Rattle.std.specs.Prelude.{ℕ, ◌==◌, Bool, true, false, ◌&&◌, List, slice_get}
use Rattle.std.specs.List.{list_any}
use Rattle.std.specs.Option.{option_map_or}
use Rattle.rh_il.specs.declared.program.Edge.{Edge}
use Rattle.rh_il.specs.declared.program.Node.{Node}
use Rattle.rh_il.specs.declared.program.Node.TheVariants.{Entry, At}
use Rattle.rh_il.specs.declared.program.Proc.{Proc}
use Rattle.rh_il.specs.declared.program.Slot.{Slot}
use Rattle.rh_il.specs.declared.program.Slot.TheVariants.{Out, Then, Else}
use Rattle.rh_il.specs.Flow.{edges_of}
use Rattle.rh_rule.specs.declared.schema.Schema.{Schema}
use Rattle.rh_domain.specs.declared.fact.FactAt.{FactAt}
use Rattle.rh_domain.specs.declared.fact.GroundFact.{GroundFact}
use Rattle.rh_domain.specs.Facts.{Known, all_facts}
use Rattle.rh_ground.specs.SameFact.{fact_eq}
use Rattle.rh_system.specs.Bits.{BitSet, bits_in}
use Rattle.rh_rows.specs.BitRows.{bit_of}

abbrev pub slot_eq : Slot → Slot → Bool
slot_eq Out Out = true
slot_eq Then Then = true
slot_eq Else Else = true
slot_eq _ _ = false

abbrev pub node_eq : Node → Node → Bool
node_eq Entry Entry = true
node_eq (At a) (At b) = a == b
node_eq _ _ = false

abbrev pub edge_eq : Edge → Edge → Bool
edge_eq a b = node_eq a.node b.node && slot_eq a.slot b.slot

-- the two are one fact on one edge of one procedure
abbrev pub fact_at_eq : FactAt → FactAt → Bool
fact_at_eq a b = a.proc == b.proc && (node_eq a.edge.node b.edge.node && (slot_eq a.edge.slot b.edge.slot && fact_eq a.fact b.fact))

-- the fact is one of the program
abbrev pub is_fact_of : List Schema → List Proc → FactAt → Bool
is_fact_of schemas procs fact = list_any (fact_at_eq fact) (all_facts schemas procs)

-- the facts of the program whose bits are in the set
abbrev pub known_by : List Schema → List Proc → BitSet → Known
known_by schemas procs set fact = is_fact_of schemas procs fact && set (bit_of schemas procs fact)

-- and those whose bits stand in the words
abbrev pub known_in : List Schema → List Proc → List ℕ → Known
known_in schemas procs words = known_by schemas procs (bits_in words)

-- whether a fact is known on the edge with a number, where a procedure has this edge
abbrev pub known_on : List Schema → List Proc → BitSet → ℕ → Proc → GroundFact → ℕ → Bool
known_on schemas procs set place proc fact edge =
    option_map_or (λ on. known_by schemas procs set (record { proc = place; edge = on; fact = fact })) (slice_get (edges_of proc) edge) false
