use Rattle.std.proofs.Common.{is_ok, Some, sym, ap, ◌∙◌}
use Rattle.std.proofs.ResultArms.{chosen as pushed}
use Rattle.rh_grammar.specs.Deterministic.{Evidence, IsDeterministic}
use Rattle.rh_grammar.specs.Parsing.{IsNextRule}
use Rattle.rh_grammar.proofs.Stacks.{IsReplaced, replaced_stack, lighter_stack, parsed_replaced}
use Rattle.rh_grammar.proofs.parser.settle.Goals as goal
use Rattle.rh_grammar.proofs.parser.settle.Goals.{In_ok-push}

-- the nonterminal on top is replaced
replaced : (c : In_ok-push) (e : Evidence) → IsDeterministic c.args.grammar.now e → IsReplaced c.args.grammar.now c.in-Some.rule c.args.class c.in-Some-chosen.number c.loop-rule.stack.items c.push_production.new.stack.items
replaced c e d =
    let next : IsNextRule c.loop-rule.stack.items (Some c.in-Some.rule) = rw c.as_slice.ensures.value at c.in-Some.ensures in
    replaced_stack _ e d c.in-Some.rule c.args.class c.in-Some-chosen.number c.loop-rule.stack.items c.pop.new.self.items c.push_production.new.stack.items c.loop-rule.stack.len next (sym c.chosen.ensures ∙ c.in-Some-chosen.is) c.loop-rule.stack.ok.0 c.pop.ensures.rest c.in_ok-push_production.ensures

pub loop-rule-smaller : goal.loop-rule-smaller
loop-rule-smaller c = lighter_stack _ c.requires.0 c.requires.1 _ _ _ _ _ (replaced c c.requires.0 c.requires.1)

pub loop-rule-preserved : goal.loop-rule-preserved
loop-rule-preserved c = λ e start tokens d parsed.
    parsed_replaced _ e d _ _ _ _ _ (replaced c e d) start tokens _ _ (sym c.chosen.ensures ∙ c.in-Some-chosen.is) (pushed _ _ _ _ c.push.ensures.items (ap is_ok c.in_ok-push.was)) (c.loop-rule.invariant e start tokens d parsed)
