use Rattle.std.proofs.Common.{◌≡◌, ◌++◌, map, take}
use Rattle.rh_meaning.specs.View.{clauses_of}
use Rattle.rh_goals.specs.Hypotheses.{side_literal, units}
use Rattle.rh_goals.proofs.hypothesis_list.push_sides.Given as goal

abbrev pub invariant-loop-side : goal.invariant-loop-side
invariant-loop-side l =
    clauses_of l.clauses.items ≡ clauses_of l.fn.clauses.items ++ units (map (side_literal l.params) (take l.side-index l.sides))
