use Rattle.rh_oblig.proofs.Sound.{admitted_are_sound}
use Rattle.rh_oblig.proofs.laws.admitted_rules_are_sound.Goals as goal

pub returns : goal.returns
returns c = admitted_are_sound
