use Rattle.std.proofs.Common.{◌≡◌, ◌-◌}
use Rattle.rh_engine.proofs.Hinting.{Visits}
use Rattle.rh_engine.proofs.hinted.visit_marked.Given as goal

abbrev pub invariant-loop-place : goal.invariant-loop-place
invariant-loop-place g l = record {
  table : l.seat.0 ≡ l.fn.seat.0;
  visits : Visits l.fn.seat.1 l.seat.1 l.cleared;
}

abbrev pub decreases-loop-place : goal.decreases-loop-place
decreases-loop-place g l = 64 - l.from
