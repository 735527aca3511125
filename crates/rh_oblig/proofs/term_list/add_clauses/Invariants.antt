use Rattle.std.proofs.Common.{drop}
use Rattle.std.specs.List.{flat_map}
use Rattle.rh_meaning.specs.Literal.{clause_trees}
use Rattle.rh_meaning.specs.View.{clauses_of}
use Rattle.rh_oblig.proofs.Build.{Adds}
use Rattle.rh_oblig.proofs.term_list.add_clauses.Given as goal

abbrev pub invariant-loop-clause : goal.invariant-loop-clause
invariant-loop-clause l =
    Adds l.fn.terms l.terms (flat_map clause_trees (clauses_of l.clauses)) (flat_map clause_trees (clauses_of (drop l.clause-index l.clauses)))
