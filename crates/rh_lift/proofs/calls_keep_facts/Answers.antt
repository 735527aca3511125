use Rattle.rh_lift.proofs.Facts.{calls_keep_facts}
use Rattle.rh_lift.proofs.calls_keep_facts.Goals as goal

pub returns : goal.returns
returns c = calls_keep_facts
