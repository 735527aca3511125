use Rattle.std.proofs.Common.{◌++◌, codes}
use Rattle.rh_rule_print.specs.Text.{premise_text}
use Rattle.rh_rule_print.proofs.Pieces.{added}
use Rattle.rh_rule_print.proofs.conditions.push_more_premises.Goals as goal

pub loop-premise-preserved : goal.loop-premise-preserved
loop-premise-preserved c =
    added (λ fact. codes ", " ++ premise_text c.args.schemas.now c.args.params.now fact) c.args.premises.now c.loop-premise.premise-index c.premise-item.result c.args.out.now.items c.loop-premise.out.items _ c.premise-item.is c.loop-premise-test.true c.loop-premise.invariant c.in_ok-push_next_premise.ensures
