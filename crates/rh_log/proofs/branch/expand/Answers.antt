use Rattle.std.proofs.Common.{arith}
use Rattle.rh_log.proofs.Growing.{grown}
use Rattle.rh_log.proofs.branch.expand.Goals as goal

pub loop-at-preserved-in_ok-push_front : goal.loop-at-preserved-in_ok-push_front
loop-at-preserved-in_ok-push_front c =
    grown _ _ _ c.loop-at.at _ _ _ _ _ (omega arith) c.loop-at.invariant.0 c.if-lit.true c.in_ok-child.ensures c.loop-at.invariant.1
    c.in_ok-push_front.ensures.items
