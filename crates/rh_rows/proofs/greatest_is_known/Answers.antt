use Rattle.rh_rows.proofs.GreatestFacts.{greatest_is_known}
use Rattle.rh_rows.proofs.greatest_is_known.Goals as goal

pub returns : goal.returns
returns c = greatest_is_known
