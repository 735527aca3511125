use Rattle.rh_rule_print.specs.Text.{rule_text}
use Rattle.rh_rule_print.proofs.Pieces.{added}
use Rattle.rh_rule_print.proofs.rules.push_rules.Goals as goal

pub loop-rule-preserved : goal.loop-rule-preserved
loop-rule-preserved c =
    added (rule_text c.args.schemas.now) c.args.rules.now c.loop-rule.rule-index c.rule-item.result c.args.out.now.items c.loop-rule.out.items _ c.rule-item.is c.loop-rule-test.true c.loop-rule.invariant c.in_ok-push_rule.ensures
