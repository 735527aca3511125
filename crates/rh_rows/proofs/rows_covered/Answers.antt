use Rattle.rh_rows.proofs.Covered.{rows_covered}
use Rattle.rh_rows.proofs.rows_covered.Goals as goal

pub returns : goal.returns
returns c = rows_covered
