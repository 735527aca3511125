use Rattle.rh_carry.proofs.Split.{support_split}
use Rattle.rh_carry.proofs.support_is_split.Goals as goal

pub returns : goal.returns
returns c = support_split
