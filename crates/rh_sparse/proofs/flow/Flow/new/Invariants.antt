use Rattle.std.proofs.Common.{◌*◌, ◌≤◌}
use Rattle.std.specs.List.{All}
use Rattle.rh_sparse.specs.Flow.{IsRange}
use Rattle.rh_sparse.specs.Lists.{ArePairs}
use Rattle.rh_sparse.proofs.flow.Flow.new.Given as goal

-- the nodes of the procedures so far
abbrev pub invariant-loop-laid : goal.invariant-loop-laid
invariant-loop-laid l = record {
  few : l.nodes ≤ l.laid-index * 1025;
  pairs : ArePairs l.nodes l.words l.pairs.items;
  ranges : All (IsRange l.words) l.leaving.items;
}
