use Rattle.std.proofs.Common.{◌≡◌}
use Rattle.rh_engine.specs.Turns.{Descends}
use Rattle.rh_engine.proofs.hinted.load_entering.Given as goal

abbrev pub invariant-loop-word : goal.invariant-loop-word
invariant-loop-word g l = record {
  table : l.seat.0 ≡ l.fn.seat.0;
  descends : Descends l.fn.seat.1 l.seat.1;
}
