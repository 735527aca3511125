use Rattle.std.proofs.Common.{◌≡◌, drop, take}
use Rattle.std.specs.List.{AllByRecursion, flat_map}
use Rattle.rh_meaning.specs.Placed.{clauses_in}
use Rattle.rh_meaning.specs.Sorts.{IsIn}
use Rattle.rh_meaning.specs.Literal.{clause_trees}
use Rattle.rh_meaning.specs.View.{clauses_of}
use Rattle.rh_oblig.proofs.obligation.clauses_in.Given as goal

abbrev pub invariant-loop-clause : goal.invariant-loop-clause
invariant-loop-clause l = record {
  placed : l.placed.items ≡ clauses_in l.terms (clauses_of (take l.clause-index l.clauses));
  stand : AllByRecursion (IsIn l.terms) (flat_map clause_trees (clauses_of (drop l.clause-index l.clauses)));
}
