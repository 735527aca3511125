use Rattle.rh_sparse.proofs.GreatestBits.{greatest_is_sparse}
use Rattle.rh_sparse.proofs.greatest_is_sparse.Goals as goal

pub returns : goal.returns
returns c = greatest_is_sparse
