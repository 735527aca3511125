use Rattle.std.proofs.Common.{◌≡◌, ◌+◌, ◌-◌, ◌<◌, ◌≤◌}
use Rattle.rh_system.specs.Bits.{bit_count}
use Rattle.rh_engine.specs.Turns.{LoadsAtLeast}
use Rattle.rh_engine.proofs.hinted.take_hinted.Given as goal

abbrev pub invariant-loop-seat : goal.invariant-loop-seat
invariant-loop-seat g l = record {
  table : l.seat.0 ≡ l.fn.seat.0;
  stake : l.seat.1.stake ≡ l.fn.seat.1.stake;
  loads : LoadsAtLeast (l.turns - 1) l.fn.seat.1.loads l.seat.1.loads;
  some : 0 < l.turns;
  few : l.turns + bit_count l.seat.1.seen ≤ bit_count g.N.SystemName.meaning.full + 1;
  hints : l.hints + bit_count l.seat.1.seen ≤ bit_count g.N.SystemName.meaning.full;
}

abbrev pub decreases-loop-seat : goal.decreases-loop-seat
decreases-loop-seat g l = bit_count l.seat.1.seen
