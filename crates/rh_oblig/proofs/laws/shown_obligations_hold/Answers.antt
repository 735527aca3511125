use Rattle.rh_oblig.proofs.Sound.{shown_are_valid}
use Rattle.rh_oblig.proofs.laws.shown_obligations_hold.Goals as goal

pub returns : goal.returns
returns c = shown_are_valid
