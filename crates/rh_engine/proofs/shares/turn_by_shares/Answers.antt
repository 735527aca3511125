use Rattle.std.proofs.Common.{◌≡◌, ◌<◌, false, length, arith}
use Rattle.std.proofs.lemmas.Bool.Decides.{when_false}
use Rattle.rh_engine.proofs.ShareTurns.{on_false, shares_closed}
use Rattle.rh_engine.proofs.shares.turn_by_shares.Goals as goal

pub returns-clause-closed : goal.returns-clause-closed
returns-clause-closed g c =
    let some : 0 < c.args.workers = omega (arith, c.requires.id) in
    let late = when_false _ _ c.if-clear_shares.false c.clear_shares.ensures.kept in
    on_false c.clear_shares-2.result _
    (λ (none : c.clear_shares-2.result ≡ false).
    shares_closed _ _ _ _ (length g.N.SystemName.meaning.full) c.args.workers c.args.id c.is_seated.ensures.as_long some late.0 (when_false _ _ none c.clear_shares-2.ensures.kept).0 late.1 (when_false _ _ none c.clear_shares-2.ensures.kept).1)
