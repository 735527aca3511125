use Rattle.rh_refuter.proofs.Searching.{width_fits}
use Rattle.rh_refuter.proofs.search.node.Goals as goal

pub overflow_cast-result : goal.overflow_cast-result
overflow_cast-result c = rw c.width.ensures (width_fits _ c.requires)
