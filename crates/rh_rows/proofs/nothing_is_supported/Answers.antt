use Rattle.rh_rows.proofs.Supported.{nothing_supported}
use Rattle.rh_rows.proofs.nothing_is_supported.Goals as goal

pub returns : goal.returns
returns c = nothing_supported
