use Rattle.rh_il_step.specs.State.{IsStateOf}
use Rattle.rh_lift_tests.proofs.facts.watch.Given as goal

abbrev pub invariant-loop : goal.invariant-loop
invariant-loop g l = IsStateOf l.program l.state
