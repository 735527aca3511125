use Rattle.std.proofs.Common.{◌≡◌, None}
use Rattle.rh_il.specs.declared.fault.ProgWrong.TheVariants.{DuplicateName}
use Rattle.rh_il.specs.Checks.{first_some, unless, is_new_proc_at}
use Rattle.rh_il.proofs.check.check_names.Given as goal

abbrev pub invariant-loop-proc : goal.invariant-loop-proc
invariant-loop-proc l = first_some l.proc (λ proc. unless (is_new_proc_at l.procs proc) DuplicateName proc 0) ≡ None
