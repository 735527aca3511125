use Rattle.std.proofs.Common.{arith}
use Rattle.rh_classes.proofs.Symmetry.{all_agree}
use Rattle.rh_classes.proofs.chains.find_apart.Goals as goal

pub returns-clause-none : goal.returns-clause-none
returns-clause-none c = all_agree _ _ c.loop-place.place (omega arith) c.loop-place.invariant.agree
