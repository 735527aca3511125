use Rattle.std.proofs.Common.{◌≡◌, ◌++◌, take, codes}
use Rattle.std.specs.List.{flat_map}
use Rattle.rh_rule_print.specs.Text.{param_text}
use Rattle.rh_rule_print.proofs.parts.push_more_params.Given as goal

abbrev pub invariant-loop-param : goal.invariant-loop-param
invariant-loop-param l =
    l.out.items ≡ l.initial.out.items ++ flat_map (λ param. codes ", " ++ param_text param) (take l.param-index l.params)
