-- The number of an edge is the place where a layout has it.
use Rattle.std.proofs.Common.{ℕ, zero, suc, ◌≡◌, ◌≢◌, ◌+◌, ◌<◌, ◌≤◌, Bool, true, false, cond, not, List, [], ◌∷◌, length, Option, Some, None, ap, sym, ◌∙◌, subst, arith}
use Rattle.std.specs.List.{position, position_or_len}
use Rattle.std.specs.Prelude.{nat_lt, slice_get, IfNone}
use Rattle.std.proofs.lemmas.Bool.{and_from, and_parts, lt-ltb}
use Rattle.std.proofs.lemmas.List.Quantifiers.{position-Some}
use Rattle.std.proofs.lemmas.Option.{same_Some, slice_get-get_or, slice_get_within}
use Rattle.rh_il.specs.declared.program.Edge.{Edge}
use Rattle.rh_il.specs.declared.program.Proc.{Proc}
use Rattle.rh_il.specs.Checks.{ProcPassed}
use Rattle.rh_il.specs.Flow.{edges_of}
use Rattle.rh_rule.specs.declared.rule.Arg.{Arg}
use Rattle.rh_rule.specs.declared.schema.Schema.{Schema}
use Rattle.rh_layout.specs.declared.laid.LaidProc.{LaidProc}
use Rattle.rh_layout.specs.declared.layout.Layout.{Layout}
use Rattle.rh_domain.specs.declared.fact.FactAt.{FactAt}
use Rattle.rh_layout.specs.Bits.{IsBitOf}
use Rattle.rh_layout.specs.Layout.{IsBitOn, IsLayoutOf}
use Rattle.rh_layout.proofs.FlowEdges.{edges_few}
use Rattle.rh_rows.specs.Known.{edge_eq, node_eq, slot_eq}
use Rattle.rh_rows.proofs.ProgramFacts.{node_eq-same, node_eq-true, slot_eq-same, slot_eq-true}

edge_eq-true : (a b : Edge) → edge_eq a b ≡ true → a ≡ b
edge_eq-true a b is =
    let parts = and_parts (node_eq a.node b.node) (slot_eq a.slot b.slot) is in
    let node = node_eq-true a.node b.node parts.0 in
    let slot = slot_eq-true a.slot b.slot parts.1 in
    λ i. record { node = node i; slot = slot i }

edge_eq-same : (a : Edge) → edge_eq a a ≡ true
edge_eq-same a = and_from (node_eq a.node a.node) (slot_eq a.slot a.slot) (node_eq-same a.node) (slot_eq-same a.slot)

-- nothing passes a test before the first that does
first_before : {X : Type 0} (test : X → Bool) (xs : List X) (i : ℕ) (x : X) → slice_get xs i ≡ Some x → test x ≡ true → position_or_len test xs ≤ i
first_before test [] i x read is = absurd cc
first_before test (y ∷ ys) zero x read is =
    let none = ap (λ b. cond (not b) (1 + position_or_len test ys) 0) (ap test (same_Some y x read) ∙ is) in omega (arith, none)
first_before test (y ∷ ys) (suc i) x read is =
    let rest = first_before test ys i x read is in
    elim (test y) as (λ b. cond (not b) (1 + position_or_len test ys) 0 ≤ suc i) [ true ↦ omega arith | false ↦ omega (arith, rest) ]

-- where an edge is found it stands, and where it is not it stands nowhere
pub edge_found : (edges : List Edge) (edge : Edge) (place : ℕ) → position (λ other. edge_eq other edge) edges ≡ Some place → slice_get edges place ≡ Some edge
edge_found edges edge place is =
    let first = position-Some (λ other. edge_eq other edge) edges place edge is in
    slice_get-get_or edges place edge first.0 ∙ ap Some (edge_eq-true _ edge first.1)

pub edge_missed : (edges : List Edge) (edge : Edge) → position (λ other. edge_eq other edge) edges ≡ None → (place : ℕ) → slice_get edges place ≢ Some edge
edge_missed edges edge none place read =
    let first = first_before (λ other. edge_eq other edge) edges place edge read (edge_eq-same edge) in
    let inside = slice_get_within edges place edge read in
    let count = position_or_len (λ other. edge_eq other edge) edges in
    let below : nat_lt count (length edges) ≡ true = lt-ltb count (length edges) (omega (arith, first, inside)) in
    let there : None ≡ Some count = sym none ∙ ap (λ b. cond b (Some count) None) below in
    absurd cc

module _ (schemas : List Schema) (procs : List Proc) (layout : Layout) (place : ℕ) (laid : LaidProc) (is : IsLayoutOf schemas procs layout) (read : slice_get layout.procs place ≡ Some laid) (edge : Edge) where
  pub found_on : (number : ℕ) → position (λ other. edge_eq other edge) laid.edges ≡ Some number → (proc : Proc) → slice_get procs place ≡ Some proc → slice_get (edges_of proc) number ≡ Some edge
  found_on number found proc at = ap (λ edges. slice_get edges number) (sym (is.laid place proc laid at read).edges_are) ∙ edge_found laid.edges edge number found

  pub missed_on : position (λ other. edge_eq other edge) laid.edges ≡ None → (proc : Proc) (number : ℕ) → slice_get procs place ≡ Some proc → slice_get (edges_of proc) number ≢ Some edge
  missed_on none proc number at there = edge_missed laid.edges edge none number (ap (λ edges. slice_get edges number) (is.laid place proc laid at read).edges_are ∙ there)

  pub number_below : (number : ℕ) → position (λ other. edge_eq other edge) laid.edges ≡ Some number → (proc : Proc) → slice_get procs place ≡ Some proc → ProcPassed proc → number < 2050
  number_below number found proc at passed =
      let inside = slice_get_within (edges_of proc) number edge (found_on number found proc at) in
      let few = edges_few proc 1024 passed.body in
      omega (arith, inside, few)

pub none_told : {X : Type 0} {P : Type 0} (result : Option X) → P → IfNone result P
none_told None told = told
none_told (Some x) told = tt

-- a fact on the edge with a number has the bit that it has on the edge
pub bit_on : (schemas : List Schema) (procs : List Proc) (at : FactAt) (number : ℕ) → ((proc : Proc) → slice_get procs at.proc ≡ Some proc → slice_get (edges_of proc) number ≡ Some at.edge)
    → (bit : ℕ) → IsBitOf schemas procs bit at → IsBitOn schemas procs at.proc number at.fact bit
bit_on schemas procs at number stands bit is = record { shape = is.proc; shape_at = is.proc_at; on = at.edge; on_at = stands is.proc is.proc_at; is = is }

-- where a layout has no bit of it there, it has none
pub no_bit : (layout : Layout) (given schemas : List Schema) (procs : List Proc) (at : FactAt) (args : List Arg) (number : ℕ) (result : Option ℕ) → given ≡ schemas → args ≡ at.fact.args → IsLayoutOf schemas procs layout
    → ((proc : Proc) → slice_get procs at.proc ≡ Some proc → slice_get (edges_of proc) number ≡ Some at.edge)
    → IfNone result ((others : List Proc) → IsLayoutOf given others layout → (bit : ℕ) → ¬ IsBitOn given others at.proc number (record { schema = at.fact.schema; args = args }) bit)
    → IfNone result ((bit : ℕ) → ¬ IsBitOf schemas procs bit at)
no_bit layout given schemas procs at args number (Some bit) same args_same laid stands none = tt
no_bit layout given schemas procs at args number None same args_same laid stands none = λ bit is.
    let told = subst (λ (s : List Schema). IsLayoutOf s procs layout → IsBitOn s procs at.proc number (record { schema = at.fact.schema; args = args }) bit → ⊥) same (λ there. none procs there bit) in
    told laid (subst (λ (a : List Arg). IsBitOn schemas procs at.proc number (record { schema = at.fact.schema; args = a }) bit) (sym args_same) (bit_on schemas procs at number stands bit is))
