use Rattle.std.proofs.Common.{◌≡◌, List, Some, length, refl, sym, ap, ◌∙◌, subst, arith}
use Rattle.std.specs.Prelude.{nat_lt, slice_get}
use Rattle.std.proofs.lemmas.Option.{slice_get_read}
use Rattle.rh_il.specs.declared.program.Proc.{Proc}
use Rattle.rh_rule.specs.declared.schema.Schema.{Schema}
use Rattle.rh_rule.specs.RuleFiles.{Rules}
use Rattle.rh_rows.proofs.SiteMade.{if_none}
use Rattle.rh_sparse.specs.Candidates.{IsEdgeSite}
use Rattle.rh_sparse.proofs.EdgeSites.{no_edge, number_fits, site_made}
use Rattle.rh_sparse.proofs.candidates.edge_site.Goals as goal
use Rattle.rh_sparse.proofs.candidates.edge_site.Goals.{In_ok-edge, In_ok-laid, In_ok-proc}

proc_at : (c : In_ok-proc) → slice_get c.args.ground.now.program c.args.place ≡ Some c.in_ok-proc.proc.now
proc_at c = ap (λ procs. slice_get procs c.args.place) (sym c.program-program.ensures) ∙ sym c.in_ok-proc.ensures.proc

-- the part of the layout on the procedure
laid_at : (c : In_ok-laid) → slice_get c.layout-layout.result.now.procs c.args.place ≡ Some c.in_ok-laid.laid.now
laid_at c =
    ap (λ items. slice_get items c.args.place) (sym c.as_slice.ensures.value)
    ∙ slice_get_read c.as_slice.result.now _ c.args.place c.in_ok-laid.laid.now refl c.in_ok-laid.ensures.lookup.3.0 c.in_ok-laid.ensures.lookup.1

edge_at : (c : In_ok-edge) → slice_get c.in_ok-laid.laid.now.edges c.args.number ≡ Some c.in_ok-edge.edge.now
edge_at c =
    ap (λ edges. slice_get edges c.args.number) (sym c.as_slice-2.ensures.value)
    ∙ slice_get_read c.as_slice-2.result.now _ c.args.number c.in_ok-edge.edge.now refl c.in_ok-edge.ensures.lookup.3.0 c.in_ok-edge.ensures.lookup.1

pub returns-in_err-edge-clause-none : goal.returns-in_err-edge-clause-none
returns-in_err-edge-clause-none c =
    let ground = c.args.ground.now in
    let past = c.in_err-edge.ensures.lookup.0 ∙ ap (λ edges. nat_lt c.args.number (length edges)) c.as_slice-2.ensures.value in
    if_none c.from_residual-in_err-edge.result _
    (no_edge ground.file.schemas ground.program c.layout-layout.result.now c.args.place c.in_ok-proc.proc.now c.in_ok-laid.laid.now c.layout-layout.ensures
    (proc_at (goal.at.returns-in_err-edge-clause-none c).In_ok-proc) (laid_at (goal.at.returns-in_err-edge-clause-none c).In_ok-laid) c.args.number past)

pub overflow_cast-result : goal.overflow_cast-result
overflow_cast-result c =
    let ground = c.args.ground.now in
    let fits = number_fits ground.file.schemas ground.program c.layout-layout.result.now c.args.place c.in_ok-proc.proc.now c.in_ok-laid.laid.now c.layout-layout.ensures
    (proc_at (goal.at.overflow_cast-result c).In_ok-proc) (laid_at (goal.at.overflow_cast-result c).In_ok-laid) c.args.number c.in_ok-edge.edge.now c.in_ok-proc.ensures.small
    (edge_at (goal.at.overflow_cast-result c).In_ok-edge) in
    omega (arith, fits)

pub invariant_of-result : goal.invariant_of-result
invariant_of-result c =
    let ground = c.args.ground.now in
    let proc = c.in_ok-proc.proc.now in
    let laid = c.in_ok-laid.laid.now in
    let edge = c.in_ok-edge.edge.now in
    let layout = c.layout-layout.result.now in
    let made = site_made ground.file.schemas ground.program layout c.args.place proc laid c.layout-layout.ensures (proc_at (goal.at.invariant_of-result c).In_ok-proc)
    (laid_at (goal.at.invariant_of-result c).In_ok-laid) c.args.number edge (edge_at (goal.at.invariant_of-result c).In_ok-edge) in
    let schemas = c.schemas.ensures.value ∙ ap (λ (file : Rules). file.schemas) c.file.ensures in
    record {
      is = subst (λ (s : List Schema). IsEdgeSite s c.program-program.result.now layout proc laid.domain c.args.place c.args.number edge) (sym schemas)
          (subst (λ (procs : List Proc). IsEdgeSite ground.file.schemas procs layout proc laid.domain c.args.place c.args.number edge) (sym c.program-program.ensures) made);
    }
