use Rattle.std.proofs.Common.{◌+◌}
use Rattle.rh_sparse.specs.Lists.{ArePairs}
use Rattle.rh_sparse.proofs.flow.Counts.push_node.Given as goal

-- the pairs so far
abbrev pub invariant-loop-edge : goal.invariant-loop-edge
invariant-loop-edge l = ArePairs (l.node + 1) l.self.words l.pairs.items
