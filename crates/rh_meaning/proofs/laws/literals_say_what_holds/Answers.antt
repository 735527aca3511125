use Rattle.rh_meaning.proofs.SaysInList.{say_what_holds}
use Rattle.rh_meaning.proofs.laws.literals_say_what_holds.Goals as goal

pub returns : goal.returns
returns c = say_what_holds
