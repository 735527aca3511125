use Rattle.std.proofs.Common.{ℤ, ◌≡◌, ◌+◌, ◌≤◌, subst, to_z, of_z, w64, arith}
use Rattle.std.proofs.lemmas.Int.{to_z-of_z}
use Rattle.rh_il_step.specs.declared.stepping.Outcome.{Outcome}
use Rattle.rh_il_step.specs.RunEnd.{IsRunEnd, ReturnsAt}
use Rattle.rh_il_step.specs.Step.{step}
use Rattle.rh_il_step.specs.Told.{Leaves}
use Rattle.rh_il_step.proofs.Ends.{run_more, run_returns, run_stuck}
use Rattle.rh_il_step.proofs.runs.run.Goals as goal

pub returns-in-Returned : goal.returns-in-Returned
returns-in-Returned c =
    let told = subst (λ (o : Outcome). Leaves (step c.args.program.now c.loop-steps.state) c.loop-steps.state c.step.new.state o) c.in-Returned.is c.in_ok-step.ensures.stepped in
    let within : c.loop-steps.steps + 1 ≤ c.args.most = omega arith in
    subst (λ (arg : ℤ). ReturnsAt c.args.program.now arg c.args.most c.in-Returned.value (c.loop-steps.steps + 1)) (to_z-of_z w64 c.args.arg c.ranges.arg)
    (run_returns c.args.program.now (to_z w64 (of_z w64 c.args.arg)) c.loop-steps.steps c.args.most c.loop-steps.state c.step.new.state c.in-Returned.value within c.loop-steps.invariant.reached told)

pub returns-in-Stuck : goal.returns-in-Stuck
returns-in-Stuck c =
    let told = subst (λ (o : Outcome). Leaves (step c.args.program.now c.loop-steps.state) c.loop-steps.state c.step.new.state o) c.in-Stuck.is c.in_ok-step.ensures.stepped in
    subst (λ (arg : ℤ). IsRunEnd c.args.program.now arg c.args.most c.stuck_at.result) (to_z-of_z w64 c.args.arg c.ranges.arg)
    (run_stuck c.args.program.now (to_z w64 (of_z w64 c.args.arg)) c.loop-steps.steps c.args.most c.loop-steps.state c.step.new.state c.stuck_at.result c.loop-steps-test.true c.loop-steps.invariant.reached told c.stuck_at.ensures)

pub loop-steps-preserved : goal.loop-steps-preserved
loop-steps-preserved c =
    let told = subst (λ (o : Outcome). Leaves (step c.args.program.now c.loop-steps.state) c.loop-steps.state c.step.new.state o) c.in-Went.is c.in_ok-step.ensures.stepped in
    record {
      reached = run_more c.args.program.now (to_z w64 (of_z w64 c.args.arg)) c.loop-steps.steps c.loop-steps.state c.step.new.state c.loop-steps.invariant.reached told;
      state = c.in_ok-step.ensures.kept;
    }
