use Rattle.rh_lift.proofs.WholeRuns.{steps_kept}
use Rattle.rh_lift.proofs.steps_kept.Goals as goal

pub returns : goal.returns
returns c = steps_kept
