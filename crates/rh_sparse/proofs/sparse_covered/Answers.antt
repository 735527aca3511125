use Rattle.rh_sparse.proofs.SparseRows.{sparse_covered}
use Rattle.rh_sparse.proofs.sparse_covered.Goals as goal

pub returns : goal.returns
returns c = sparse_covered
