use Rattle.std.proofs.Common.{◌≡◌, ◌+◌, ◌-◌, ◌<◌, ◌≤◌}
use Rattle.rh_system.specs.Bits.{bit_count}
use Rattle.rh_engine.specs.Turns.{more_loads}
use Rattle.rh_engine.proofs.worker.take_turns.Given as goal

abbrev pub invariant-loop-turns : goal.invariant-loop-turns
invariant-loop-turns g l = record {
  table : l.seat.0 ≡ l.fn.seat.0;
  stake : l.seat.1.stake ≡ l.fn.seat.1.stake;
  loads : l.seat.1.loads ≡ more_loads (l.turns - 1) l.fn.seat.1.loads;
  some : 0 < l.turns;
  few : l.turns + bit_count l.seat.1.seen ≤ bit_count g.N.SystemName.meaning.full + 1;
}

abbrev pub decreases-loop-turns : goal.decreases-loop-turns
decreases-loop-turns g l = bit_count l.seat.1.seen
