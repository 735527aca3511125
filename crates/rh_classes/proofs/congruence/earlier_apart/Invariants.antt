use Rattle.rh_classes.specs.Merge.{AgreesBefore}
use Rattle.rh_classes.proofs.congruence.earlier_apart.Given as goal

abbrev pub invariant-loop-earlier : goal.invariant-loop-earlier
invariant-loop-earlier l = AgreesBefore l.terms l.labels l.place l.earlier
