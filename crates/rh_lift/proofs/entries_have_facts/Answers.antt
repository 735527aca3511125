use Rattle.rh_lift.proofs.Facts.{entries_have_facts}
use Rattle.rh_lift.proofs.entries_have_facts.Goals as goal

pub returns : goal.returns
returns c = entries_have_facts
