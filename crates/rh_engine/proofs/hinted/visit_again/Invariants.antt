use Rattle.std.proofs.Common.{◌≡◌}
use Rattle.rh_system.specs.Bits.{bit_count}
use Rattle.rh_engine.proofs.Hinting.{Visits}
use Rattle.rh_engine.proofs.hinted.visit_again.Given as goal

abbrev pub invariant-loop-cleared : goal.invariant-loop-cleared
invariant-loop-cleared g l = record {
  table : l.seat.0 ≡ l.fn.seat.0;
  visits : Visits l.fn.seat.1 l.seat.1 l.cleared;
}

abbrev pub decreases-loop-cleared : goal.decreases-loop-cleared
decreases-loop-cleared g l = bit_count l.seat.1.seen
