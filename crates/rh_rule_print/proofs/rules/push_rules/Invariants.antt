use Rattle.std.proofs.Common.{◌≡◌, ◌++◌, take}
use Rattle.std.specs.List.{flat_map}
use Rattle.rh_rule_print.specs.Text.{rule_text}
use Rattle.rh_rule_print.proofs.rules.push_rules.Given as goal

abbrev pub invariant-loop-rule : goal.invariant-loop-rule
invariant-loop-rule l =
    l.out.items ≡ l.initial.out.items ++ flat_map (rule_text l.schemas) (take l.rule-index l.rules)
