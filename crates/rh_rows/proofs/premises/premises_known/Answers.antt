use Rattle.std.proofs.Common.{◌∙◌, ap}
use Rattle.std.specs.List.{list_all}
use Rattle.rh_rule.specs.declared.rule.FactUse.{FactUse}
use Rattle.rh_ground.specs.Instance.{fact_under}
use Rattle.rh_ground.specs.Rows.{edges_before, on_edges}
use Rattle.rh_rows.specs.Known.{known_by}
use Rattle.rh_rows.proofs.KnownBefore.{all_in_pieces}
use Rattle.rh_rows.proofs.premises.premises_known.Goals as goal

pub returns : goal.returns
returns g c =
    let site = c.args.site.now in
    let known = known_by site.schemas.now site.program.now (g.T.BitTest.holds c.args.known.now) in
    let piece = λ (premise : FactUse). on_edges site.place (edges_before site.proc.now site.node) (fact_under c.args.binding.now premise) in
    c.are_known.ensures ∙ ap (list_all (λ premise. list_all known (piece premise))) c.as_slice.ensures.value ∙ all_in_pieces known piece c.args.rule.now.premises
