use Rattle.std.specs.List.{All}
use Rattle.rh_sparse.specs.Flow.{IsRange}
use Rattle.rh_sparse.proofs.flow.Counts.leaving.Given as goal

-- the ranges so far
abbrev pub invariant-loop-number : goal.invariant-loop-number
invariant-loop-number l = All (IsRange l.self.words) l.ranges.items
