use Rattle.std.proofs.Common.{◌≡◌, take}
use Rattle.rh_rule.proofs.rule_file.copy_rules.Given as goal

abbrev pub invariant-loop-rule : goal.invariant-loop-rule
invariant-loop-rule l = l.copies ≡ take l.rule-index l.rules
