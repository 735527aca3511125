use Rattle.rh_rows.proofs.Agreed.{agreed_fixes}
use Rattle.rh_rows.proofs.support.GivingWanted.fixed.Goals as goal

pub returns : goal.returns
returns g c =
    let giving = c.args.self.now in
    let sought = giving.sought.now in
    agreed_fixes sought.site.schemas.now sought.site.program.now (g.T.BitTest.holds sought.known.now) sought.fact.now sought.site.proc.now giving.rule.now giving.concluded.now c.args.meta
    sought.site.node c.as_slice-args.result.now c.fixed_by_rule.result c.fixed_by_fact.result c.agreed.result
    sought.node_is c.as_slice-args.ensures.value c.agreed.ensures c.fixed_by_rule.ensures c.fixed_by_fact.ensures
