use Rattle.rh_lift.proofs.WholeRuns.{facts_hold_in_runs}
use Rattle.rh_lift.proofs.facts_hold_in_runs.Goals as goal

pub returns : goal.returns
returns c = facts_hold_in_runs
