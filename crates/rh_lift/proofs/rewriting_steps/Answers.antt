use Rattle.rh_lift.proofs.Rewriting.{rewriting_steps}
use Rattle.rh_lift.proofs.rewriting_steps.Goals as goal

pub returns : goal.returns
returns c = rewriting_steps
