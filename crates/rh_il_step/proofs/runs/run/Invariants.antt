use Rattle.std.proofs.Common.{◌≡◌, Some}
use Rattle.rh_il_step.specs.Run.{run}
use Rattle.rh_il_step.specs.State.{IsStateOf}
use Rattle.rh_il_step.proofs.runs.run.Given as goal

abbrev pub invariant-loop-steps : goal.invariant-loop-steps
invariant-loop-steps l = record {
  reached : run l.program l.arg l.steps ≡ Some l.state;
  state : IsStateOf l.program l.state;
}
