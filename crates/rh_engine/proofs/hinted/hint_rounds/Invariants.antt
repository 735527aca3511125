use Rattle.std.proofs.Common.{◌≡◌, ◌+◌, ◌≤◌}
use Rattle.rh_system.specs.Bits.{bit_count}
use Rattle.rh_engine.specs.Turns.{Descends}
use Rattle.rh_engine.proofs.hinted.hint_rounds.Given as goal

abbrev pub invariant-loop-rounds : goal.invariant-loop-rounds
invariant-loop-rounds g l = record {
  table : l.seat.0 ≡ l.fn.seat.0;
  descends : Descends l.fn.seat.1 l.seat.1;
  few : l.rounds + bit_count l.seat.1.seen ≤ bit_count l.fn.seat.1.seen + 1;
}

abbrev pub decreases-loop-rounds : goal.decreases-loop-rounds
decreases-loop-rounds g l = bit_count l.seat.1.seen
