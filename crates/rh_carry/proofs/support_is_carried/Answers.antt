use Rattle.rh_carry.proofs.Split.{support_carried}
use Rattle.rh_carry.proofs.support_is_carried.Goals as goal

pub returns : goal.returns
returns c = support_carried
