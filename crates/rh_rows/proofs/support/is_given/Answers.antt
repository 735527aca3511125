use Rattle.std.proofs.Common.{sym}
use Rattle.rh_rows.proofs.Sought.{bare_gives}
use Rattle.rh_rows.proofs.support.is_given.Goals as goal

pub returns-in-None : goal.returns-in-None
returns-in-None g c =
    let ground = c.args.ground.now in
    sym (bare_gives ground.file c.args.rulings.now ground.program (g.T.BitTest.holds c.args.known.now) c.args.fact.now c.in-None.ensures.none)
