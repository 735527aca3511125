use Rattle.rh_lift.proofs.Facts.{steps_keep_facts}
use Rattle.rh_lift.proofs.steps_keep_facts.Goals as goal

pub returns : goal.returns
returns c = steps_keep_facts
