-- The bits of a fact on the edges that enter the node that its edge leaves, by its number.
use Rattle.std.proofs.Common.{ℕ, zero, suc, ◌≡◌, ◌+◌, ◌*◌, ◌/◌, ◌<◌, ◌&&◌, Bool, true, false, List, [], ◌∷◌, filter, length, map, Option, Some, None, inl, inr, refl, ap, sym, ◌∙◌, subst, arith}
use Rattle.std.specs.List.{list_all}
use Rattle.std.specs.Option.{option_map_or}
use Rattle.std.specs.Prelude.{slice_get, if◌then◌else◌}
use Rattle.std.proofs.lemmas.List.Folds.{list_all-map}
use Rattle.std.proofs.lemmas.Option.{same_Some}
use Rattle.rh_list.proofs.AtPlace.{read_at}
use Rattle.rh_il.specs.declared.program.Edge.{Edge}
use Rattle.rh_il.specs.declared.program.Node.{Node}
use Rattle.rh_il.specs.declared.program.Node.TheVariants.{Entry, At}
use Rattle.rh_il.specs.declared.program.Proc.{Proc}
use Rattle.rh_il.specs.declared.program.Stmt.{Stmt}
use Rattle.rh_il.specs.declared.program.Stmt.TheVariants.{If, Return}
use Rattle.rh_il.specs.Flow.{edges_behind, edges_from, edges_of}
use Rattle.rh_rule.specs.declared.schema.Schema.{Schema}
use Rattle.rh_domain.specs.declared.fact.FactAt.{FactAt}
use Rattle.rh_domain.specs.declared.fact.GroundFact.{GroundFact}
use Rattle.rh_domain.specs.Facts.{facts_of}
use Rattle.rh_domain.proofs.Pieces.{get_side}
use Rattle.rh_ground.specs.Rows.{edges_before, on_edges}
use Rattle.rh_layout.specs.declared.laid.LaidProc.{LaidProc}
use Rattle.rh_layout.specs.declared.layout.Layout.{Layout}
use Rattle.rh_layout.specs.Bits.{IsBitOf}
use Rattle.rh_layout.specs.Entering.{AreEntering, entering_at, enters, numbers_before, places_from}
use Rattle.rh_layout.specs.Layout.{edge_with, place_in_edge}
use Rattle.rh_layout.proofs.FactBits.{bit_at_place, none_at_place, one_fact}
use Rattle.rh_layout.proofs.LaidWords.{IsIn}
use Rattle.rh_system.specs.Bits.{BitSet}
use Rattle.rh_rows.specs.BitRows.{bit_of}
use Rattle.rh_rows.proofs.BitNumbers.{bit_is}
use Rattle.rh_carry.specs.Carry.{bits_before}
use Rattle.rh_carry.specs.Known.{IsBeforeIn, bit_on, known_on_all, number_at}

-- ---- the edges that enter a node

-- a test of the places that pass, where it agrees with a test of the items
tested_with : {X : Type 0} (passes test : X → Bool) (other : ℕ → Bool) (whole : List X) → ((k : ℕ) (x : X) → slice_get whole k ≡ Some x → other k ≡ test x)
    → (n : ℕ) (xs : List X) → ((k : ℕ) → slice_get whole (n + k) ≡ slice_get xs k) → list_all other (places_from passes n xs) ≡ list_all test (filter passes xs)
tested_with passes test other whole agree n [] behind = refl
tested_with passes test other whole agree n (x ∷ xs) behind =
    let at : slice_get whole n ≡ Some x = (let same : n ≡ n + 0 = omega arith in ap (slice_get whole) same ∙ behind 0) in
    let rest = tested_with passes test other whole agree (n + 1) xs (λ k. let same : (n + 1) + k ≡ n + suc k = omega arith in ap (slice_get whole) same ∙ behind (suc k)) in
    elim (passes x) as (λ b. list_all other (if b then n ∷ places_from passes (n + 1) xs else places_from passes (n + 1) xs) ≡ list_all test (if b then x ∷ filter passes xs else filter passes xs)) [
      | true ↦ ap (λ b. b && list_all other (places_from passes (n + 1) xs)) (agree n x at) ∙ ap (λ b. test x && b) rest
      | false ↦ rest
    ]

from_node : (stmt : Stmt) (number i : ℕ) (x : Edge) → slice_get (edges_from stmt number) i ≡ Some x → x.node ≡ At number
from_node (If condition taken other) number zero x read = ap (λ (e : Edge). e.node) (sym (same_Some _ x read))
from_node (If condition taken other) number (suc zero) x read = ap (λ (e : Edge). e.node) (sym (same_Some _ x read))
from_node (If condition taken other) number (suc (suc i)) x read = absurd cc
from_node (Return value) number i x read = absurd cc
from_node stmt number zero x read = ap (λ (e : Edge). e.node) (sym (same_Some _ x read))
from_node stmt number (suc i) x read = absurd cc

behind_node : (body : List Stmt) (from i : ℕ) (x : Edge) → slice_get (edges_behind body from) i ≡ Some x → (later : ℕ) × (x.node ≡ At (from + later)) × (later < length body)
behind_node [] from i x read = absurd cc
behind_node (stmt ∷ body) from i x read =
    elim (get_side (edges_from stmt from) (edges_behind body (from + 1)) i x read) as (λ _. (later : ℕ) × (x.node ≡ At (from + later)) × (later < length (stmt ∷ body))) [
      | inl front ↦ (0, from_node stmt from i x front ∙ ap At (let same : from ≡ from + 0 = omega arith in same), omega arith)
      | inr back ↦
          let rest = behind_node body (from + 1) back.0 x back.2 in
          let below = rest.2 in
          (suc rest.0, rest.1 ∙ ap At (let same : (from + 1) + rest.0 ≡ from + suc rest.0 = omega arith in same), omega (arith, below))
    ]

-- the node that an edge leaves has a list of the edges that enter it
module _ (proc : Proc) (entering : List (List ℕ)) (are : AreEntering proc entering) where
  abbrev IsListed : Node → Type 0
  IsListed node = (numbers : List ℕ) × (entering_at entering node ≡ Some numbers) × (numbers ≡ numbers_before proc node)

  listed : (i : ℕ) (x : Edge) → slice_get (edges_of proc) i ≡ Some x → IsListed x.node
  listed zero x read = subst IsListed (ap (λ (e : Edge). e.node) (same_Some _ x read)) ([], refl, refl)
  listed (suc i) x read =
      let there = behind_node proc.body 0 i x read in
      let same : 0 + there.0 ≡ there.0 = omega arith in
      let below = there.2 in
      let many = are.many in
      let list = read_at entering there.0 (omega (arith, below, many)) in
      subst IsListed (sym (there.1 ∙ ap At same)) (list.0, list.1, are.each there.0 list.0 list.1)

-- ---- the bits of a fact

module _ (schemas : List Schema) (procs : List Proc) (layout : Layout) (bit place : ℕ) (laid : LaidProc) (here : IsIn schemas procs layout (bit / 64) place laid) (set : BitSet) where
  abbrev number : ℕ
  number = number_at laid bit

  module _ (fact : GroundFact) (read : slice_get (facts_of schemas here.proc) number ≡ Some fact) where
    abbrev on : Edge → FactAt
    on edge = record { proc = place; edge = edge; fact = fact }

    agrees : (k : ℕ) (edge : Edge) → slice_get (edges_of here.proc) k ≡ Some edge → set (bit_on laid number k) ≡ set (bit_of schemas procs (on edge))
    agrees k edge at =
        ap set (bit_is schemas procs (bit_on laid number k) (on edge) (record {
          proc = here.proc;
          edge = k;
          number = number;
          proc_at = here.proc_at;
          edge_at = at;
          fact_at = read;
          bit_is = λ i. 64 * (here.part.first_is i + k * here.part.width_is i) + number;
        }))

    all_before : (node : Node) → known_on_all laid set number (numbers_before here.proc node) ≡ list_all set (map (bit_of schemas procs) (on_edges place (edges_before here.proc node) fact))
    all_before Entry = refl
    all_before (At target) =
        tested_with (enters here.proc target) (λ edge. set (bit_of schemas procs (on edge))) (λ k. set (bit_on laid number k)) (edges_of here.proc) agrees 0 (edges_of here.proc)
        (λ k. let same : 0 + k ≡ k = omega arith in ap (slice_get (edges_of here.proc)) same)
        ∙ sym (list_all-map (λ (f : FactAt). set (bit_of schemas procs f)) on (edges_before here.proc (At target)))
        ∙ sym (list_all-map set (bit_of schemas procs) (on_edges place (edges_before here.proc (At target)) fact))

    told : (answer : Bool) → IsBeforeIn laid set bit answer → answer ≡ list_all set (bits_before schemas procs (on here.edge))
    told answer is =
        let list = listed here.proc laid.entering here.part.entering_are (edge_with laid (bit / 64)) here.edge here.is_at.edge_at in
        is here.edge list.0 here.edge_at list.1
        ∙ ap (known_on_all laid set number) list.2
        ∙ all_before here.edge.node
        ∙ sym (ap (λ found. list_all set (option_map_or (λ (proc : Proc). map (bit_of schemas procs) (on_edges place (edges_before proc here.edge.node) fact)) found [])) here.proc_at)

  pub is_before : (answer : Bool) → IsBeforeIn laid set bit answer → (at : FactAt) → IsBitOf schemas procs bit at → answer ≡ list_all set (bits_before schemas procs at)
  is_before answer is at own = by (slice_get (facts_of schemas here.proc) number) refl
    where
      by : (found : Option GroundFact) → slice_get (facts_of schemas here.proc) number ≡ found → answer ≡ list_all set (bits_before schemas procs at)
      by None read = absurd (none_at_place schemas procs bit place here.proc (edge_with laid (bit / 64)) (place_in_edge laid (bit / 64)) here.edge here.is_at read at own)
      by (Some fact) read =
          subst (λ (f : FactAt). answer ≡ list_all set (bits_before schemas procs f))
          (one_fact schemas procs bit (on fact read here.edge) at (bit_at_place schemas procs bit place here.proc (edge_with laid (bit / 64)) (place_in_edge laid (bit / 64)) here.edge fact here.is_at read) own)
          (told fact read answer is)
