use Rattle.std.proofs.Common.{◌≡◌, ◌++◌, take}
use Rattle.std.specs.List.{flat_map}
use Rattle.rh_meaning.specs.Meaning.{fact_literals}
use Rattle.rh_meaning.specs.View.{clauses_of}
use Rattle.rh_goals.specs.Hypotheses.{units}
use Rattle.rh_goals.specs.Statement.{before}
use Rattle.rh_goals.proofs.hypothesis_list.push_premises.Given as goal

abbrev pub invariant-loop-premise : goal.invariant-loop-premise
invariant-loop-premise l =
    clauses_of l.clauses.items ≡ clauses_of l.fn.clauses.items ++ units (flat_map (fact_literals l.schemas l.params before) (take l.premise-index l.premises))
