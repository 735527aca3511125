use Rattle.rh_top.proofs.OneOutput.{one_output}
use Rattle.rh_top.proofs.outputs_are_one.Goals as goal

pub returns : goal.returns
returns c = one_output
