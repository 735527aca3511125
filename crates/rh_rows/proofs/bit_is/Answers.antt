use Rattle.rh_rows.proofs.BitNumbers.{bit_is}
use Rattle.rh_rows.proofs.bit_is.Goals as goal

pub returns : goal.returns
returns c = bit_is
