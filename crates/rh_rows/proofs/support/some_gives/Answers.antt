use Rattle.std.proofs.Common.{◌∙◌}
use Rattle.rh_rows.specs.Support.{gives}
use Rattle.rh_rows.proofs.Sought.{some_found}
use Rattle.rh_rows.proofs.support.some_gives.Goals as goal

pub returns : goal.returns
returns g c =
    let sought = c.args.sought.now in
    let site = sought.site in
    c.is_some.ensures
    ∙ some_found (gives site.schemas.now site.program.now (g.T.BitTest.holds sought.known.now) sought.fact.now site.proc.now c.args.rule.now c.args.concluded.now) site.domain.now site.proc.now c.as_slice.result.now c.args.rule.now.params
    c.first_binding.result c.first_binding.ensures site.is.domain_is c.as_slice.ensures.value
