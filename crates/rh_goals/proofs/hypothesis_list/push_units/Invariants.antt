use Rattle.std.proofs.Common.{◌≡◌, ◌++◌}
use Rattle.rh_meaning.specs.View.{clauses_of, lits_of}
use Rattle.rh_goals.specs.Hypotheses.{units}
use Rattle.rh_goals.proofs.hypothesis_list.push_units.Given as goal

abbrev pub invariant-loop-lit : goal.invariant-loop-lit
invariant-loop-lit l = clauses_of l.clauses.items ≡ clauses_of l.fn.clauses.items ++ units (lits_of l.yielded)
