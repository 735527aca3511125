use Rattle.rh_axioms.proofs.Within.{instances_fit}
use Rattle.rh_axioms.proofs.listing.add_instances.Goals as goal

pub returns-clause-within : goal.returns-clause-within
returns-clause-within g c = instances_fit _ c.len-list.ensures.list _
