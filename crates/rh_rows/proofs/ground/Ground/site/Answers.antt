use Rattle.std.proofs.Common.{◌≡◌, List, Some, refl, sym, ap, ◌∙◌, subst}
use Rattle.std.specs.Prelude.{slice_get}
use Rattle.std.proofs.lemmas.Option.{slice_get_read}
use Rattle.rh_rule.specs.declared.schema.Schema.{Schema}
use Rattle.rh_rows.specs.Site.{IsSite}
use Rattle.rh_rows.proofs.SiteMade.{bare, if_none, site_made}
use Rattle.rh_rows.proofs.ground.Ground.site.Goals as goal

pub invariant_of-result : goal.invariant_of-result
invariant_of-result c =
    let ground = c.args.self.now in
    let laid = c.in_ok-laid.laid.now in
    let proc = c.in_ok-proc.proc.now in
    let read : slice_get ground.layout.procs c.args.place ≡ Some laid = ap (λ items. slice_get items c.args.place) (sym c.as_slice.ensures.value) ∙ slice_get_read c.as_slice.result.now _ c.args.place laid refl c.in_ok-laid.ensures.lookup.3.0 c.in_ok-laid.ensures.lookup.1 in
    let made = site_made ground.file.schemas ground.program ground.layout c.args.place proc laid ground.laid (sym c.in_ok-proc.ensures.proc) read c.args.node c.in_ok-entering.entering.now c.in_ok-entering.ensures.found in
    record { is = subst (λ (schemas : List Schema). IsSite schemas ground.program ground.layout proc laid.domain c.in_ok-entering.entering.now c.args.place c.args.node) (sym c.schemas.ensures.value) made }

pub returns-in_err-entering-clause-none : goal.returns-in_err-entering-clause-none
returns-in_err-entering-clause-none c =
    let ground = c.args.self.now in
    let laid = c.in_ok-laid.laid.now in
    let proc = c.in_ok-proc.proc.now in
    let read : slice_get ground.layout.procs c.args.place ≡ Some laid = ap (λ items. slice_get items c.args.place) (sym c.as_slice.ensures.value) ∙ slice_get_read c.as_slice.result.now _ c.args.place laid refl c.in_ok-laid.ensures.lookup.3.0 c.in_ok-laid.ensures.lookup.1 in
    if_none c.from_residual-in_err-entering.result _ (bare ground.file.schemas ground.program ground.layout c.args.place proc laid ground.laid (sym c.in_ok-proc.ensures.proc) read c.args.node c.in_err-entering.ensures.none)
