use Rattle.std.proofs.Common.{◌+◌}
use Rattle.rh_sparse.specs.Lists.{ArePairs}
use Rattle.rh_sparse.proofs.flow.Counts.push_reads.Given as goal

-- the pairs so far
abbrev pub invariant-loop-number : goal.invariant-loop-number
invariant-loop-number l = ArePairs (l.entry + 1 + l.number) l.self.words l.pairs.items
