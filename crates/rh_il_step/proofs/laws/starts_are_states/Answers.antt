use Rattle.rh_il_step.proofs.Started.{start_is}
use Rattle.rh_il_step.proofs.laws.starts_are_states.Goals as goal

pub returns : goal.returns
returns c = start_is c.args.program.now c.count-count.ensures.program c.numbers_fit.ensures
