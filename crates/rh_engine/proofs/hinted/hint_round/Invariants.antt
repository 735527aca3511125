use Rattle.std.proofs.Common.{◌≡◌}
use Rattle.rh_engine.proofs.Hinting.{Visits}
use Rattle.rh_engine.proofs.hinted.hint_round.Given as goal

abbrev pub invariant-loop-dirty : goal.invariant-loop-dirty
invariant-loop-dirty g l = record {
  table : l.seat.0 ≡ l.fn.seat.0;
  visits : Visits l.fn.seat.1 l.seat.1 l.cleared;
}
