use Rattle.std.proofs.Common.{ℕ, ◌<◌}
use Rattle.rh_classes.specs.Chain.{AreChained}
use Rattle.rh_classes.specs.Merge.{AgreesBefore}
use Rattle.rh_classes.proofs.chains.find_apart.Given as goal

abbrev pub invariant-loop-place : goal.invariant-loop-place
invariant-loop-place l = record {
  chained : AreChained l.terms l.labels l.heads l.links l.place;
  agree : (i : ℕ) → i < l.place → AgreesBefore l.terms l.labels i i;
}
