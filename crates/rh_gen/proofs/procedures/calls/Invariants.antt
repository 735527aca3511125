use Rattle.std.proofs.Common.{◌≡◌, ◌≤◌, map}
use Rattle.std.specs.List.{range_with_len}
use Rattle.rh_gen.specs.Generated.{call_of}
use Rattle.rh_gen.proofs.procedures.calls.Given as goal

abbrev pub invariant-loop-proc : goal.invariant-loop-proc
invariant-loop-proc l = (l.proc ≤ l.procs) × (l.body ≡ map call_of (range_with_len 0 l.proc))
