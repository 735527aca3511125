use Rattle.std.proofs.Common.{◌≡◌, ◌≤◌, ◌-◌, length, take}
use Rattle.rh_outside.specs.Writing.{appended}
use Rattle.rh_outside.proofs.transfer.write_whole.Given as goal

abbrev pub invariant-loop-taken : goal.invariant-loop-taken
invariant-loop-taken g l =
    record {
      within : l.taken ≤ length l.bytes;
      written : g.K.Sink.written l.sink ≡ appended (g.K.Sink.written l.fn.sink) (take l.taken l.bytes);
      never_falls : g.K.Sink.faults l.fn.sink ≤ g.K.Sink.faults l.sink;
    }

abbrev pub decreases-loop-taken : goal.decreases-loop-taken
decreases-loop-taken g l = length l.bytes - l.taken
