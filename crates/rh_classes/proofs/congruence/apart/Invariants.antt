use Rattle.std.proofs.Common.{ℕ, ◌<◌}
use Rattle.rh_classes.specs.Merge.{AgreesBefore}
use Rattle.rh_classes.proofs.congruence.apart.Given as goal

abbrev pub invariant-loop-place : goal.invariant-loop-place
invariant-loop-place l = (i : ℕ) → i < l.place → AgreesBefore l.terms l.labels i i
