use Rattle.rh_term.proofs.Known.{known_at}
use Rattle.rh_term.proofs.laws.denotations_by_parts.Goals as goal

pub returns : goal.returns
returns c = known_at
