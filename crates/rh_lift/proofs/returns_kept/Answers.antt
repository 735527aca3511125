use Rattle.rh_lift.proofs.WholeRuns.{returns_kept}
use Rattle.rh_lift.proofs.returns_kept.Goals as goal

pub returns : goal.returns
returns c = returns_kept
