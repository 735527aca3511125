use Rattle.std.proofs.Common.{◌≡◌, take}
use Rattle.rh_il.proofs.procedures.copy_procs.Given as goal

abbrev pub invariant-loop-proc : goal.invariant-loop-proc
invariant-loop-proc l = l.copies ≡ take l.proc-index l.procs
