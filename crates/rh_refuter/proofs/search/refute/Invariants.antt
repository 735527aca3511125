use Rattle.std.proofs.Common.{length}
use Rattle.rh_refuter.specs.Choice.{Goes}
use Rattle.rh_refuter.proofs.Searching.{AreBranches}
use Rattle.rh_refuter.proofs.Weight.{weight, most_equations}
use Rattle.rh_refuter.proofs.search.refute.Given as goal

abbrev pub invariant-loop-classes : goal.invariant-loop-classes
invariant-loop-classes l = record {
  branches : AreBranches l.obligation.terms l.branches.items;
  goes : Goes l.obligation.terms l.obligation.clauses l.nodes.items l.branches.items;
}

abbrev pub decreases-loop-classes : goal.decreases-loop-classes
decreases-loop-classes l = weight (most_equations l.obligation.clauses) (length l.obligation.terms) l.branches.items
