use Rattle.rh_rows.proofs.RowItems.{row_items}
use Rattle.rh_rows.proofs.row_items.Goals as goal

pub returns : goal.returns
returns c = row_items
