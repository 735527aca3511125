use Rattle.rh_refuter.proofs.Fixed.{one_found}
use Rattle.rh_refuter.proofs.laws.one_verdict.Goals as goal

pub returns : goal.returns
returns c = one_found
