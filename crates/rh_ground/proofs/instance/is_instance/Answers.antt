use Rattle.std.proofs.Common.{◌&&◌, ap, sym, ◌∙◌}
use Rattle.rh_ground.specs.Instance.{is_rule_in}
use Rattle.rh_ground.proofs.InstanceParts.{instance_parts}
use Rattle.rh_ground.proofs.instance.is_instance.Goals as goal

pub returns-then-rule_matches : goal.returns-then-rule_matches
returns-then-rule_matches c =
    let proc = c.args.proc.now in
    let rule = c.args.rule.now in
    c.is_rule_in.ensures ∙ sym (instance_parts proc rule c.args.binding.now c.args.node ∙ ap (λ b. b && is_rule_in proc rule) (sym c.rule_matches.ensures ∙ c.if-rule_matches.true))

pub returns-else-rule_matches : goal.returns-else-rule_matches
returns-else-rule_matches c =
    let proc = c.args.proc.now in
    let rule = c.args.rule.now in
    c.if-rule_matches.false ∙ sym (instance_parts proc rule c.args.binding.now c.args.node ∙ ap (λ b. b && is_rule_in proc rule) (sym c.rule_matches.ensures ∙ c.if-rule_matches.false))
