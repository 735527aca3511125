use Rattle.std.proofs.Common.{◌≡◌}
use Rattle.rh_engine.proofs.ShareTurns.{ClearsRange}
use Rattle.rh_engine.proofs.marks.clear_range.Given as goal

abbrev pub invariant-loop-word : goal.invariant-loop-word
invariant-loop-word g l = record {
  table : l.seat.0 ≡ l.fn.seat.0;
  clears : ClearsRange g.N.SystemName.meaning.rows l.fn.seat.1 l.seat.1 l.from l.word l.cleared;
}
