use Rattle.std.proofs.Common.{◌+◌}
use Rattle.rh_sparse.specs.Lists.{ArePairs}
use Rattle.rh_sparse.proofs.flow.Counts.push_words.Given as goal

-- the pairs so far
abbrev pub invariant-loop-word : goal.invariant-loop-word
invariant-loop-word l = ArePairs (l.node + 1) l.self.words l.pairs.items
