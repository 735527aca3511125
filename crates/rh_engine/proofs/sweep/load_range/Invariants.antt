use Rattle.std.proofs.Common.{◌≡◌}
use Rattle.rh_engine.specs.Turns.{LoadsRange}
use Rattle.rh_engine.proofs.sweep.load_range.Given as goal

abbrev pub invariant-loop-word : goal.invariant-loop-word
invariant-loop-word g l = record {
  table : l.seat.0 ≡ l.fn.seat.0;
  loaded : LoadsRange l.fn.seat.1 l.seat.1 l.from l.word;
}
