use Rattle.rh_carry.proofs.Split.{rows_split}
use Rattle.rh_carry.proofs.rows_are_split.Goals as goal

pub returns : goal.returns
returns c = rows_split
