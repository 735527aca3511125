use Rattle.rh_il_step.proofs.Kept.{steps_keep}
use Rattle.rh_il_step.proofs.laws.steps_keep_states.Goals as goal

pub returns : goal.returns
returns c = steps_keep c.args.program.now c.count-count.ensures.program c.numbers_fit.ensures
