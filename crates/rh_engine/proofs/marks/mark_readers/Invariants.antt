use Rattle.std.proofs.Common.{◌≡◌, ◌+◌, ◌<◌, length}
use Rattle.rh_engine.proofs.marks.mark_readers.Given as goal

abbrev pub invariant-loop-node : goal.invariant-loop-node
invariant-loop-node g l = record {
  seat : l.seat ≡ l.fn.seat;
  in_range : 0 < l.mask → length g.N.SystemName.meaning.full + l.dirty < l.words.0.words;
}
