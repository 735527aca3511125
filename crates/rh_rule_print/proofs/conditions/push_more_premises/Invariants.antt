use Rattle.std.proofs.Common.{◌≡◌, ◌++◌, take, codes}
use Rattle.std.specs.List.{flat_map}
use Rattle.rh_rule_print.specs.Text.{premise_text}
use Rattle.rh_rule_print.proofs.conditions.push_more_premises.Given as goal

abbrev pub invariant-loop-premise : goal.invariant-loop-premise
invariant-loop-premise l =
    l.out.items ≡ l.initial.out.items ++ flat_map (λ fact. codes ", " ++ premise_text l.schemas l.params fact) (take l.premise-index l.premises)
