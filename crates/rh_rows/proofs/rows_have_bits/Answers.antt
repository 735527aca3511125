use Rattle.rh_rows.proofs.Covered.{rows_have_bits}
use Rattle.rh_rows.proofs.rows_have_bits.Goals as goal

pub returns : goal.returns
returns c = rows_have_bits
