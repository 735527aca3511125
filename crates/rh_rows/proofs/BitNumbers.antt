-- The numbers of edges, arguments, bindings and facts are the places where they stand.
use Rattle.std.proofs.Common.{ℕ, ℤ, zero, suc, ◌≡◌, ◌+◌, ◌*◌, true, false, cond, List, [], ◌∷◌, ◌++◌, length, take, Some, inl, inr, refl, ap, sym, ◌∙◌, arith}
use Rattle.std.specs.List.{position_or_len}
use Rattle.std.specs.Option.{option_map_or}
use Rattle.std.specs.Ordering.{int_eq}
use Rattle.std.specs.Prelude.{not, slice_get}
use Rattle.std.proofs.Math.ListN.{length-append}
use Rattle.std.proofs.lemmas.Option.{same_Some}
use Rattle.rh_il.specs.declared.program.Edge.{Edge}
use Rattle.rh_il.specs.declared.program.Node.TheVariants.{At}
use Rattle.rh_il.specs.declared.program.Proc.{Proc}
use Rattle.rh_il.specs.declared.program.Slot.TheVariants.{Out}
use Rattle.rh_il.specs.declared.program.Stmt.{Stmt}
use Rattle.rh_il.specs.declared.program.Stmt.TheVariants.{If, Return}
use Rattle.rh_il.specs.Flow.{edges_behind, edges_from, edges_of}
use Rattle.rh_rule.specs.declared.rule.Arg.{Arg}
use Rattle.rh_rule.specs.declared.rule.Arg.TheVariants.{Var, Const}
use Rattle.rh_rule.specs.declared.schema.Kind.{Kind}
use Rattle.rh_rule.specs.declared.schema.Kind.TheVariants.{Var as AVar, Const as AConst}
use Rattle.rh_rule.specs.declared.schema.Param.{Param}
use Rattle.rh_rule.specs.declared.schema.Schema.{Schema}
use Rattle.rh_domain.specs.declared.fact.FactAt.{FactAt}
use Rattle.rh_domain.specs.declared.fact.GroundFact.{GroundFact}
use Rattle.rh_domain.specs.Binding.{Binding, args_in, bindings_in, domain_of}
use Rattle.rh_domain.specs.Constants.{constants_of}
use Rattle.rh_domain.specs.Count.{binding_count, fact_count}
use Rattle.rh_domain.specs.Facts.{facts_of}
use Rattle.rh_domain.proofs.FactNumbers.{fact_stands}
use Rattle.rh_domain.proofs.Joined.{apart}
use Rattle.rh_domain.proofs.Numbered.{const_of, no_var_among, var_of}
use Rattle.rh_domain.proofs.Pieces.{get_side}
use Rattle.rh_ground.proofs.SameArgs.{arg_eq-same, arg_eq-true}
use Rattle.rh_layout.proofs.Rising.{constants_apart}
use Rattle.rh_layout.specs.Bits.{IsBitOf, count_on, width_of, word_count}
use Rattle.rh_rows.specs.BitRows.{arg_number, binding_number, bit_in, bit_of, edge_number, fact_number, number_from, slot_number}

-- ---- edges

from_number : (stmt : Stmt) (number i : ℕ) (x : Edge) → slice_get (edges_from stmt number) i ≡ Some x → (x.node ≡ At number) × (slot_number x.slot ≡ i)
from_number (If condition taken other) number zero x read = let same = same_Some _ x read in (ap (λ (e : Edge). e.node) (sym same), ap (λ (e : Edge). slot_number e.slot) (sym same))
from_number (If condition taken other) number (suc zero) x read = let same = same_Some _ x read in (ap (λ (e : Edge). e.node) (sym same), ap (λ (e : Edge). slot_number e.slot) (sym same))
from_number (If condition taken other) number (suc (suc i)) x read = absurd cc
from_number (Return value) number i x read = absurd cc
from_number stmt number zero x read =
    let same = same_Some (record { node = At number; slot = Out }) x read in (ap (λ (e : Edge). e.node) (sym same), ap (λ (e : Edge). slot_number e.slot) (sym same))
from_number stmt number (suc i) x read = absurd cc

-- an edge of a list of statements leaves one of them, and stands after those of the statements before it
behind_number : (body : List Stmt) (from i : ℕ) (x : Edge) → slice_get (edges_behind body from) i ≡ Some x
    → (later : ℕ) × (x.node ≡ At (from + later)) × (length (edges_behind (take later body) from) + slot_number x.slot ≡ i)
behind_number [] from i x read = absurd cc
behind_number (stmt ∷ body) from i x read =
    elim (get_side (edges_from stmt from) (edges_behind body (from + 1)) i x read)
    as (λ _. (later : ℕ) × (x.node ≡ At (from + later)) × (length (edges_behind (take later (stmt ∷ body)) from) + slot_number x.slot ≡ i)) [
      | inl front ↦
          let here = from_number stmt from i x front in
          let slot = here.1 in
          (0, here.0 ∙ ap At (let same : from ≡ from + 0 = omega arith in same), omega (arith, slot))
      | inr back ↦
          let rest = behind_number body (from + 1) back.0 x back.2 in
          let size : length (edges_from stmt from ++ edges_behind (take rest.0 body) (from + 1)) ≡ length (edges_from stmt from) + length (edges_behind (take rest.0 body) (from + 1)) =
          length-append (edges_from stmt from) (edges_behind (take rest.0 body) (from + 1)) in
          let whole = back.1 in
          let inner = rest.2 in
          (suc rest.0, rest.1 ∙ ap At (let same : (from + 1) + rest.0 ≡ from + suc rest.0 = omega arith in same), omega (arith, size, whole, inner))
    ]

edge_is : (proc : Proc) (i : ℕ) (x : Edge) → slice_get (edges_of proc) i ≡ Some x → edge_number proc x ≡ i
edge_is proc zero x read = ap (edge_number proc) (sym (same_Some _ x read))
edge_is proc (suc i) x read =
    let there = behind_number proc.body 0 i x read in
    let same : 0 + there.0 ≡ there.0 = omega arith in
    let count = there.2 in
    ap (λ node. number_from proc node x.slot) (there.1 ∙ ap At same) ∙ omega (arith, count)

-- ---- arguments and bindings

place_is : (xs : List ℤ) (i : ℕ) (x : ℤ) → slice_get xs i ≡ Some x → ((j : ℕ) → slice_get xs j ≡ Some x → i ≡ j) → position_or_len (int_eq x) xs ≡ i
place_is [] i x read once = absurd cc
place_is (y ∷ xs) zero x read once = ap (λ b. cond (not b) (1 + position_or_len (int_eq x) xs) 0) (ap (int_eq x) (same_Some y x read) ∙ arg_eq-same (Const x))
place_is (y ∷ xs) (suc i) x read once =
    elim (int_eq x y) as (λ b. int_eq x y ≡ b → cond (not b) (1 + position_or_len (int_eq x) xs) 0 ≡ suc i) [
      | true ↦ λ is.
          let same : Const x ≡ Const y = arg_eq-true (Const x) (Const y) is in
          let equal : y ≡ x = cc in
          let clash = once 0 (ap Some equal) in absurd (omega (arith, clash))
      | false ↦ λ is. let rest = place_is xs i x read (λ j there. let later = once (suc j) there in omega (arith, later)) in omega (arith, rest)
    ] refl

module _ (proc : Proc) where
  arg_is : (kind : Kind) (i : ℕ) (arg : Arg) → slice_get (args_in (domain_of proc) kind) i ≡ Some arg → arg_number (domain_of proc) arg ≡ i
  arg_is AVar i arg read = ap (arg_number (domain_of proc)) (var_of (domain_of proc).vars i arg read).0
  arg_is AConst i (Var number) read = absurd (no_var_among (constants_of proc) i number read)
  arg_is AConst i (Const number) read =
      let at = const_of (constants_of proc) i number read in
      place_is (constants_of proc) i number at (λ j there. constants_apart proc i j number at there)

  binding_is : (params : List Param) (i : ℕ) (args : Binding) → slice_get (bindings_in (domain_of proc) params) i ≡ Some args → binding_number (domain_of proc) params args ≡ i
  binding_is [] zero args read = refl
  binding_is [] (suc i) args read = absurd cc
  binding_is (param ∷ params) i args read =
      let parts = apart (domain_of proc) param params i args read in
      let count = binding_count (domain_of proc) params in
      ap (binding_number (domain_of proc) (param ∷ params)) parts.whole
      ∙ ap (λ n. n * count + binding_number (domain_of proc) params parts.rest) (arg_is param.kind parts.digit parts.arg parts.first)
      ∙ ap (λ n. parts.digit * count + n) (binding_is params parts.left parts.rest parts.others)
      ∙ sym parts.number_is

  fact_is : (schemas : List Schema) (i : ℕ) (fact : GroundFact) → slice_get (facts_of schemas proc) i ≡ Some fact → fact_number (domain_of proc) schemas fact ≡ i
  fact_is schemas i fact read =
      let stands = fact_stands (domain_of proc) schemas i fact read in
      let before = fact_count (domain_of proc) (take fact.schema schemas) in
      ap (λ found. before + option_map_or (λ (schema : Schema). binding_number (domain_of proc) schema.params fact.args) found 0) stands.shape_at
      ∙ ap (λ n. before + n) (binding_is stands.shape.params stands.within fact.args stands.args_at)
      ∙ sym stands.number_is

-- ---- bits

pub bit_is : (schemas : List Schema) (procs : List Proc) (bit : ℕ) (fact : FactAt) → IsBitOf schemas procs bit fact → bit ≡ bit_of schemas procs fact
bit_is schemas procs bit fact is =
    let before = word_count schemas (take fact.proc procs) in
    let width = width_of (count_on schemas is.proc) in
    is.bit_is
    ∙ ap (λ n. 64 * (before + n * width) + is.number) (sym (edge_is is.proc is.edge fact.edge is.edge_at))
    ∙ ap (λ n. 64 * (before + edge_number is.proc fact.edge * width) + n) (sym (fact_is is.proc schemas is.number fact.fact is.fact_at))
    ∙ sym (ap (λ found. option_map_or (bit_in schemas procs fact) found 0) is.proc_at)
