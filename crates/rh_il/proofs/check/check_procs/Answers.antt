use Rattle.std.proofs.Common.{◌≡◌, length, sym, ap, ◌∙◌}
use Rattle.std.specs.Prelude.{slice_get}
use Rattle.std.specs.Option.{option_and_then}
use Rattle.rh_il.specs.Checks.{proc_fault}
use Rattle.rh_il.proofs.Firsts.{first_none, found_at, stops}
use Rattle.rh_il.proofs.check.check_procs.Goals as goal
use Rattle.rh_il.proofs.check.check_procs.Goals.{After-check_proc}

-- the procedure that was checked is the one there
there : (c : After-check_proc) → proc_fault (length c.args.procs.now) c.loop-number.number c.index-procs-number.result ≡ option_and_then (proc_fault (length c.args.procs.now) c.loop-number.number) (slice_get c.args.procs.now c.loop-number.number)
there c =
    let fault = proc_fault (length c.args.procs.now) c.loop-number.number in
    ap fault c.index-procs-number.is ∙ found_at fault c.args.procs.now c.loop-number.number c.index-procs-number.result c.loop-number-test.true

pub returns-in_err-check_proc : goal.returns-in_err-check_proc
returns-in_err-check_proc c =
    stops c.loop-number.number (length c.args.procs.now) (λ proc. option_and_then (proc_fault (length c.args.procs.now) proc) (slice_get c.args.procs.now proc)) c.in_err-check_proc.field-0.0 c.from_residual.result c.loop-number.invariant
    (c.in_err-check_proc.ensures ∙ there (goal.at.returns-in_err-check_proc c).After-check_proc) c.from_residual.ensures.1 c.loop-number-test.true

pub loop-number-preserved : goal.loop-number-preserved
loop-number-preserved c =
    first_none c.loop-number.number (λ proc. option_and_then (proc_fault (length c.args.procs.now) proc) (slice_get c.args.procs.now proc)) c.loop-number.invariant (sym (c.in_ok-check_proc.ensures ∙ there (goal.at.loop-number-preserved c).After-check_proc))
