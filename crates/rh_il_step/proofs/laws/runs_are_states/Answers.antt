use Rattle.rh_il_step.proofs.Started.{run_is}
use Rattle.rh_il_step.proofs.laws.runs_are_states.Goals as goal

pub returns : goal.returns
returns c = run_is c.args.program.now c.count-count.ensures.program c.numbers_fit.ensures
