use Rattle.std.proofs.Common.{◌≡◌, None}
use Rattle.rh_il.specs.Checks.{first_some}
use Rattle.rh_rule.specs.declared.fault.RuleWrong.TheVariants.{DuplicateName}
use Rattle.rh_rule.specs.declared.fault.Item.TheVariants.{Rule as RuleItem}
use Rattle.rh_rule.specs.Checks.{unless, is_new_rule_at}
use Rattle.rh_rule.proofs.check.check_rule_names.Given as goal

abbrev pub invariant-loop-number : goal.invariant-loop-number
invariant-loop-number l = first_some l.number (λ i. unless (is_new_rule_at l.rules i) DuplicateName (RuleItem i)) ≡ None
