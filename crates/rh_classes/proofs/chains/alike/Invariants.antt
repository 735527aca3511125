use Rattle.rh_classes.specs.Chain.{IsReached}
use Rattle.rh_classes.proofs.chains.alike.Given as goal

abbrev pub invariant-loop-link : goal.invariant-loop-link
invariant-loop-link l = IsReached l.terms l.labels l.place l.link

abbrev pub decreases-loop-link : goal.decreases-loop-link
decreases-loop-link l = l.link
