use Rattle.rh_rows.proofs.Supported.{support_is}
use Rattle.rh_rows.proofs.support_is_by_rules.Goals as goal

pub returns : goal.returns
returns c = support_is
