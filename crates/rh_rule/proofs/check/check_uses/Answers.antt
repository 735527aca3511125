use Rattle.std.proofs.Common.{◌<◌, subst, length, ap, ◌∙◌}
use Rattle.rh_rule.specs.declared.fault.RuleWrong.TheVariants.{UnusedMeta}
use Rattle.rh_rule.specs.declared.fault.Item.TheVariants.{Rule as RuleItem}
use Rattle.rh_rule.specs.Checks.{unless}
use Rattle.rh_rule.specs.Uses.{rule_names}
use Rattle.rh_il.proofs.Firsts.{stops}
use Rattle.rh_rule.proofs.check.check_uses.Goals as goal

pub returns-in_err-ensure : goal.returns-in_err-ensure
returns-in_err-ensure c =
    stops c.loop-meta.meta (length c.args.rule.now.params) (λ meta. unless (rule_names meta c.args.rule.now) UnusedMeta (RuleItem c.args.number)) c.in_err-ensure.field-0.0 c.from_residual.result c.loop-meta.invariant
    (c.in_err-ensure.ensures ∙ ap (λ b. unless b UnusedMeta (RuleItem c.args.number)) c.rule_names-is_used.ensures) c.from_residual.ensures.1 (subst (λ n. c.loop-meta.meta < n) c.len-meta-end.ensures c.loop-meta-test.true)
