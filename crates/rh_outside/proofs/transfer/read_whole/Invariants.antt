use Rattle.std.proofs.Common.{ℕ, ◌≡◌, ◌≤◌, ◌+◌, ◌-◌, List, IfSome, vec_len}
use Rattle.rh_outside.specs.Reading.{IsFront}
use Rattle.rh_outside.proofs.transfer.read_whole.Given as goal

abbrev pub invariant-loop-bytes : goal.invariant-loop-bytes
invariant-loop-bytes g l =
    record {
      buffer : vec_len l.buffer ≡ 65536;
      within : vec_len l.bytes ≤ l.limit + 1;
      front : IfSome (g.S.Shelf.holds l.fn.shelf l.name) (IsFront l.bytes.items);
      never_falls : (other : List ℕ) → g.S.Shelf.faults l.fn.shelf other ≤ g.S.Shelf.faults l.shelf other;
      unchanged : (other : List ℕ) → g.S.Shelf.holds l.shelf other ≡ g.S.Shelf.holds l.fn.shelf other;
    }

abbrev pub decreases-loop-bytes : goal.decreases-loop-bytes
decreases-loop-bytes g l = l.limit + 1 - vec_len l.bytes
