use Rattle.std.proofs.Common.{◌≡◌, drop, map, take}
use Rattle.std.specs.List.{AllByRecursion, flat_map}
use Rattle.rh_meaning.specs.Placed.{lit_in}
use Rattle.rh_meaning.specs.Sorts.{IsIn}
use Rattle.rh_meaning.specs.Literal.{literal_trees}
use Rattle.rh_meaning.specs.View.{lits_of}
use Rattle.rh_oblig.proofs.obligation.clause_in.Given as goal

abbrev pub invariant-loop-lit : goal.invariant-loop-lit
invariant-loop-lit l = record {
  placed : l.placed.items ≡ map (lit_in l.terms) (lits_of (take l.lit-index l.lits));
  stand : AllByRecursion (IsIn l.terms) (flat_map literal_trees (lits_of (drop l.lit-index l.lits)));
}
