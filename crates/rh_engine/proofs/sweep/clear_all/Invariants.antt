use Rattle.std.proofs.Common.{◌≡◌}
use Rattle.rh_engine.specs.Turns.{KeepsLoads}
use Rattle.rh_engine.proofs.Fewer.{ClearsBelow, SweptBelow}
use Rattle.rh_engine.proofs.sweep.clear_all.Given as goal

abbrev pub invariant-loop-word : goal.invariant-loop-word
invariant-loop-word g l = record {
  table : l.seat.0 ≡ l.fn.seat.0;
  loads : KeepsLoads l.fn.seat.1 l.seat.1;
  swept : SweptBelow g.N.SystemName.meaning.rows l.fn.seat.1.seen l.seat.1.seen l.word;
  clears : ClearsBelow g.N.SystemName.meaning.rows l.fn.seat.1.seen l.seat.1.seen l.word l.cleared;
}
