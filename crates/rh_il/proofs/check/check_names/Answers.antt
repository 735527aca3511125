use Rattle.std.proofs.Common.{length, ap, ◌∙◌}
use Rattle.rh_il.specs.declared.fault.ProgWrong.TheVariants.{DuplicateName}
use Rattle.rh_il.specs.Checks.{unless, is_new_proc_at}
use Rattle.rh_il.proofs.Firsts.{stops}
use Rattle.rh_il.proofs.check.check_names.Goals as goal

pub returns-in_err-ensure : goal.returns-in_err-ensure
returns-in_err-ensure c =
    stops c.loop-proc.proc (length c.args.procs.now) (λ proc. unless (is_new_proc_at c.args.procs.now proc) DuplicateName proc 0) c.in_err-ensure.field-0.0 c.from_residual.result c.loop-proc.invariant
    (c.in_err-ensure.ensures ∙ ap (λ b. unless b DuplicateName c.loop-proc.proc 0) c.is_new_proc_at-is_new.ensures) c.from_residual.ensures.1 c.loop-proc-test.true
