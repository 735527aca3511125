use Rattle.std.proofs.Common.{◌≡◌, None}
use Rattle.rh_il.specs.Checks.{first_some}
use Rattle.rh_rule.specs.declared.fault.RuleWrong.TheVariants.{UnusedMeta}
use Rattle.rh_rule.specs.declared.fault.Item.TheVariants.{Rule as RuleItem}
use Rattle.rh_rule.specs.Checks.{unless}
use Rattle.rh_rule.specs.Uses.{rule_names}
use Rattle.rh_rule.proofs.check.check_uses.Given as goal

abbrev pub invariant-loop-meta : goal.invariant-loop-meta
invariant-loop-meta l = first_some l.meta (λ meta. unless (rule_names meta l.rule) UnusedMeta (RuleItem l.number)) ≡ None
