use Rattle.rh_lift.proofs.Rewriting.{rewriting_keeps_calls}
use Rattle.rh_lift.proofs.rewriting_keeps_calls.Goals as goal

pub returns : goal.returns
returns c = rewriting_keeps_calls
