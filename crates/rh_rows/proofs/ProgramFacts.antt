-- The facts of a program are those that have bits.
use Rattle.std.proofs.Common.{ℕ, ◌≡◌, ◌+◌, ◌*◌, true, ◌&&◌, ◌==◌, List, take, Some, refl, ap, sym, ◌∙◌, subst, arith, eq-eqb}
use Rattle.std.specs.List.{enumerate_from}
use Rattle.std.specs.Prelude.{slice_get}
use Rattle.std.proofs.lemmas.Bool.{and_from, and_parts, eqb-true, false≢true}
use Rattle.rh_il.specs.declared.program.Node.{Node}
use Rattle.rh_il.specs.declared.program.Node.TheVariants.{Entry, At}
use Rattle.rh_il.specs.declared.program.Proc.{Proc}
use Rattle.rh_il.specs.declared.program.Slot.{Slot}
use Rattle.rh_il.specs.declared.program.Slot.TheVariants.{Out, Then, Else}
use Rattle.rh_il.specs.Flow.{edges_of}
use Rattle.rh_rule.specs.declared.schema.Schema.{Schema}
use Rattle.rh_domain.specs.declared.fact.FactAt.{FactAt}
use Rattle.rh_domain.specs.declared.fact.GroundFact.{GroundFact}
use Rattle.rh_domain.specs.Facts.{all_facts, facts_in, facts_of, facts_on}
use Rattle.rh_domain.proofs.FactNumbers.{numbered_at, numbered_of}
use Rattle.rh_ground.specs.SameFact.{fact_eq}
use Rattle.rh_ground.proofs.Members.{IsItem, item_of_flat_map, item_of_map}
use Rattle.rh_ground.proofs.SameFacts.{fact_eq-same, fact_eq-true}
use Rattle.rh_layout.specs.Bits.{count_on, width_of, word_count}
use Rattle.rh_rows.specs.BitRows.{HasBit}
use Rattle.rh_rows.specs.Known.{fact_at_eq, is_fact_of, node_eq, slot_eq}
use Rattle.rh_rows.proofs.Items.{in_flat_map, in_map, item_at, place_of, some_item, some_passes}

-- ---- facts that are the same

pub slot_eq-true : (a b : Slot) → slot_eq a b ≡ true → a ≡ b
slot_eq-true Out Out is = refl
slot_eq-true Then Then is = refl
slot_eq-true Else Else is = refl
slot_eq-true _ _ is = absurd (false≢true is)

pub slot_eq-same : (a : Slot) → slot_eq a a ≡ true
slot_eq-same Out = refl
slot_eq-same Then = refl
slot_eq-same Else = refl

pub node_eq-true : (a b : Node) → node_eq a b ≡ true → a ≡ b
node_eq-true Entry Entry is = refl
node_eq-true (At a) (At b) is = ap At (eqb-true a b is)
node_eq-true _ _ is = absurd (false≢true is)

pub node_eq-same : (a : Node) → node_eq a a ≡ true
node_eq-same Entry = refl
node_eq-same (At a) = eq-eqb a a refl

fact_at_eq-true : (a b : FactAt) → fact_at_eq a b ≡ true → a ≡ b
fact_at_eq-true a b is =
    let outer = and_parts (a.proc == b.proc) (node_eq a.edge.node b.edge.node && (slot_eq a.edge.slot b.edge.slot && fact_eq a.fact b.fact)) is in
    let middle = and_parts (node_eq a.edge.node b.edge.node) (slot_eq a.edge.slot b.edge.slot && fact_eq a.fact b.fact) outer.1 in
    let inner = and_parts (slot_eq a.edge.slot b.edge.slot) (fact_eq a.fact b.fact) middle.1 in
    let proc = eqb-true a.proc b.proc outer.0 in
    let node = node_eq-true a.edge.node b.edge.node middle.0 in
    let slot = slot_eq-true a.edge.slot b.edge.slot inner.0 in
    let fact = fact_eq-true a.fact b.fact inner.1 in
    λ i. record { proc = proc i; edge = record { node = node i; slot = slot i }; fact = fact i }

fact_at_eq-same : (a : FactAt) → fact_at_eq a a ≡ true
fact_at_eq-same a =
    and_from (a.proc == a.proc) _ (eq-eqb a.proc a.proc refl)
    (and_from (node_eq a.edge.node a.edge.node) _ (node_eq-same a.edge.node) (and_from (slot_eq a.edge.slot a.edge.slot) _ (slot_eq-same a.edge.slot) (fact_eq-same a.fact a.fact refl)))

-- ---- the facts of the program

module _ (schemas : List Schema) (procs : List Proc) where
  abbrev facts_of_proc : ℕ × Proc → List FactAt
  facts_of_proc at = facts_in schemas at.1 at.0

  pub fact_stands : (fact : FactAt) → HasBit schemas procs fact → IsItem fact (all_facts schemas procs)
  fact_stands fact has =
      let is = has.1 in
      let number : 0 + fact.proc ≡ fact.proc = omega arith in
      let edge = item_at (edges_of is.proc) fact.edge is.edge is.edge_at in
      let inner = item_at (facts_of schemas is.proc) fact.fact is.number is.fact_at in
      let on_edge = in_map (λ (f : GroundFact). record { proc = fact.proc; edge = fact.edge; fact = f }) fact.fact (facts_of schemas is.proc) inner in
      let in_proc = in_flat_map (facts_on schemas is.proc fact.proc) fact fact.edge (edges_of is.proc) edge on_edge in
      let stands = item_at (enumerate_from 0 procs) (fact.proc, is.proc) fact.proc (numbered_at 0 procs fact.proc is.proc is.proc_at ∙ ap (λ n. Some (n, is.proc)) number) in
      in_flat_map facts_of_proc fact (fact.proc, is.proc) (enumerate_from 0 procs) stands in_proc

  bit_of_item : (fact : FactAt) → IsItem fact (all_facts schemas procs) → HasBit schemas procs fact
  bit_of_item fact there =
      let outer = item_of_flat_map facts_of_proc fact (enumerate_from 0 procs) there in
      let place = outer.0.0 in
      let proc = outer.0.1 in
      let numbered = place_of (enumerate_from 0 procs) outer.0 outer.1 in
      let at = numbered_of 0 procs numbered.0 outer.0 numbered.1 in
      let same : place ≡ numbered.0 = (let is = at.1 in omega (arith, is)) in
      let on_edge = item_of_flat_map (facts_on schemas proc place) fact (edges_of proc) outer.2 in
      let edge = on_edge.0 in
      let inner = item_of_map (λ (f : GroundFact). record { proc = place; edge = edge; fact = f }) fact (facts_of schemas proc) on_edge.2 in
      let edge_place = place_of (edges_of proc) edge on_edge.1 in
      let fact_place = place_of (facts_of schemas proc) inner.0 inner.1 in
      subst (HasBit schemas procs) (sym inner.2) (
        64 * (word_count schemas (take place procs) + edge_place.0 * width_of (count_on schemas proc)) + fact_place.0,
        record { proc = proc; edge = edge_place.0; number = fact_place.0; proc_at = ap (slice_get procs) same ∙ at.0; edge_at = edge_place.1; fact_at = fact_place.1; bit_is = refl },
      )

  pub is_fact : (fact : FactAt) → HasBit schemas procs fact → is_fact_of schemas procs fact ≡ true
  is_fact fact has = some_passes (fact_at_eq fact) (all_facts schemas procs) fact (fact_stands fact has) (fact_at_eq-same fact)

  pub has_bit : (fact : FactAt) → is_fact_of schemas procs fact ≡ true → HasBit schemas procs fact
  has_bit fact is =
      let found = some_item (fact_at_eq fact) (all_facts schemas procs) is in
      subst (HasBit schemas procs) (sym (fact_at_eq-true fact found.0 found.2)) (bit_of_item found.0 found.1)
