-- The edges of a procedure as the layout has them.
use Rattle.std.proofs.Common.{ℕ, ◌≡◌, ◌<◌, ◌^◌, false, List, length, Some, None, ap, sym, ◌∙◌, subst, arith}
use Rattle.std.specs.Option.{option_map_or}
use Rattle.std.specs.Prelude.{nat_lt, slice_get}
use Rattle.std.proofs.lemmas.Bool.{ltb-false}
use Rattle.std.proofs.lemmas.Option.{same_Some, slice_get_past, slice_get_within}
use Rattle.rh_list.proofs.AtPlace.{read_at}
use Rattle.rh_il.specs.declared.program.Edge.{Edge}
use Rattle.rh_il.specs.declared.program.Proc.{Proc}
use Rattle.rh_il.specs.Checks.{ProcPassed}
use Rattle.rh_il.specs.Flow.{edges_of}
use Rattle.rh_rule.specs.declared.schema.Schema.{Schema}
use Rattle.rh_domain.specs.declared.domain.Domain.{Domain}
use Rattle.rh_domain.specs.Count.{IsSmall}
use Rattle.rh_layout.specs.declared.laid.LaidProc.{LaidProc}
use Rattle.rh_layout.specs.declared.layout.Layout.{Layout}
use Rattle.rh_layout.specs.Layout.{IsLayoutOf}
use Rattle.rh_layout.proofs.FlowEdges.{edges_few}
use Rattle.rh_sparse.specs.Candidates.{IsEdgeSite, edge_count}

module _ (schemas : List Schema) (procs : List Proc) (layout : Layout) (place : ℕ) (proc : Proc) (laid : LaidProc) (is : IsLayoutOf schemas procs layout)
    (proc_at : slice_get procs place ≡ Some proc) (laid_at : slice_get layout.procs place ≡ Some laid) where
  pub site_made : (number : ℕ) (edge : Edge) → slice_get laid.edges number ≡ Some edge → IsEdgeSite schemas procs layout proc laid.domain place number edge
  site_made number edge read =
      let part = is.laid place proc laid proc_at laid_at in
      record {
        laid = is;
        proc_at = proc_at;
        domain_is = part.domain_is;
        small = subst (λ (d : Domain). IsSmall d) (sym part.domain_is) part.small;
        edge_at = ap (λ edges. slice_get edges number) (sym part.edges_are) ∙ read;
      }

  -- past the last edge there is none
  pub no_edge : (number : ℕ) → false ≡ nat_lt number (length laid.edges) → (other : Proc) → slice_get procs place ≡ Some other → slice_get (edges_of other) number ≡ None
  no_edge number past other at =
      let same : proc ≡ other = same_Some proc other (sym proc_at ∙ at) in
      ap (λ (p : Proc). slice_get (edges_of p) number) (sym same) ∙ ap (λ edges. slice_get edges number) (sym (is.laid place proc laid proc_at laid_at).edges_are)
      ∙ slice_get_past laid.edges number (ltb-false number (length laid.edges) (sym past))

  edges_counted : length laid.edges ≡ edge_count procs place
  edges_counted =
      ap length (is.laid place proc laid proc_at laid_at).edges_are ∙ sym (ap (λ found. option_map_or (λ (p : Proc). length (edges_of p)) found 0) proc_at)

  pub number_fits : (number : ℕ) (edge : Edge) → ProcPassed proc → slice_get laid.edges number ≡ Some edge → number < 2 ^ 32
  number_fits number edge passed read =
      let below = slice_get_within laid.edges number edge read in
      let size = ap length (is.laid place proc laid proc_at laid_at).edges_are in
      let few = edges_few proc 1024 passed.body in
      omega (arith, below, size, few)

-- a part of the layout is that of a procedure, and past the last part there is none
module _ (schemas : List Schema) (procs : List Proc) (layout : Layout) (place : ℕ) (is : IsLayoutOf schemas procs layout) where
  pub counted : (laid : LaidProc) → slice_get layout.procs place ≡ Some laid → length laid.edges ≡ edge_count procs place
  counted laid laid_at =
      let below = slice_get_within layout.procs place laid laid_at in
      let size = is.length_is in
      let proc = read_at procs place (omega (arith, below, size)) in
      edges_counted schemas procs layout place proc.0 laid is proc.1 laid_at

  pub uncounted : false ≡ nat_lt place (length layout.procs) → 0 ≡ edge_count procs place
  uncounted past =
      let size = is.length_is in
      let above = ltb-false place (length layout.procs) (sym past) in
      sym (ap (λ found. option_map_or (λ (p : Proc). length (edges_of p)) found 0) (slice_get_past procs place (omega (arith, size, above))))
