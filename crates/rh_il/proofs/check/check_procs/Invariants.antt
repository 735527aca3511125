use Rattle.std.proofs.Common.{◌≡◌, None, length}
use Rattle.std.specs.Prelude.{slice_get}
use Rattle.std.specs.Option.{option_and_then}
use Rattle.rh_il.specs.Checks.{first_some, proc_fault}
use Rattle.rh_il.proofs.check.check_procs.Given as goal

abbrev pub invariant-loop-number : goal.invariant-loop-number
invariant-loop-number l =
    first_some l.number (λ proc. option_and_then (proc_fault (length l.procs) proc) (slice_get l.procs proc)) ≡ None
