use Rattle.rh_ground.proofs.Trying.{AreTriedBefore}
use Rattle.rh_ground.proofs.ranges.ranges_to_try.Given as goal

-- the parameters before this one have their ranges
abbrev pub invariant-loop-meta : goal.invariant-loop-meta
invariant-loop-meta g l = AreTriedBefore l.domain (g.W.Wanted.accepts l.wanted) l.params l.meta l.ranges
