use Rattle.rh_oblig.proofs.Sound.{term_lists_are_closed}
use Rattle.rh_oblig.proofs.laws.term_lists_are_closed.Goals as goal

pub returns : goal.returns
returns c = term_lists_are_closed
