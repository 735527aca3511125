use Rattle.std.proofs.Common.{◌≡◌, length}
use Rattle.rh_engine.specs.Turns.{AreWordsSupported, share_start}
use Rattle.rh_engine.proofs.shares.clear_shares.Given as goal

abbrev pub invariant-loop-worker : goal.invariant-loop-worker
invariant-loop-worker g l =
    let m = g.N.SystemName.meaning in
    record {
      table : l.seat.0 ≡ l.fn.seat.0;
      kept : (l.seat.1 ≡ l.fn.seat.1) × AreWordsSupported m.rows l.fn.seat.1.seen (share_start (length m.full) l.workers l.from) (share_start (length m.full) l.workers l.worker);
    }
