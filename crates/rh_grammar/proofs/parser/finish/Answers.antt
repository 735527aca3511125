use Rattle.std.proofs.Common.{◌≡◌, Some, is_ok, sym, ap, ◌∙◌, rules}
use Rattle.std.proofs.ResultArms.{chosen as pushed}
use Rattle.rh_grammar.specs.declared.grammar.Symbol.TheVariants.{Token, Rule}
use Rattle.rh_grammar.proofs.Stacks.{popped_top, popped_none, end_token, end_rule, end_step, end_all}
use Rattle.rh_grammar.proofs.parser.finish.Goals as goal

pub returns-in_default-symbol : goal.returns-in_default-symbol
returns-in_default-symbol c = λ e start tokens d parsed.
    let old = c.loop-symbol.stack in
    let found : c.pop.result ≡ Some (Token c.in_default-symbol.field-0) = search rules in
    end_token _ e d start tokens _ old.items _ old.len old.ok.0 c.pop.ensures.rest (c.loop-symbol.invariant e start tokens d parsed) c.in_default-symbol.field-0 (popped_top _ _ _ _ c.pop.ensures.items found)

pub returns-in_default-empty : goal.returns-in_default-empty
returns-in_default-empty c = λ e start tokens d parsed.
    let old = c.loop-symbol.stack in
    let found : c.pop.result ≡ Some (Rule c.in-Rule.rule) = search rules in
    end_rule _ e d start tokens _ old.items _ old.len old.ok.0 c.pop.ensures.rest (c.loop-symbol.invariant e start tokens d parsed) c.in-Rule.rule (popped_top _ _ _ _ c.pop.ensures.items found) (sym c.empty.ensures ∙ c.in_default-empty.is)

pub loop-symbol-preserved : goal.loop-symbol-preserved
loop-symbol-preserved c = λ e start tokens d parsed.
    let old = c.loop-symbol.stack in
    let found : c.pop.result ≡ Some (Rule c.in-Rule.rule) = search rules in
    end_step _ e d start tokens _ old.items _ old.len old.ok.0 c.pop.ensures.rest (c.loop-symbol.invariant e start tokens d parsed) c.in-Rule.rule c.in-Some-empty.number _ (popped_top _ _ _ _ c.pop.ensures.items found) (sym c.empty.ensures ∙ c.in-Some-empty.is) (pushed _ _ _ _ c.push.ensures.items (ap is_ok c.in_ok-push.was))

pub returns : goal.returns
returns c = λ e start tokens d parsed.
    let old = c.loop-symbol.stack in
    end_all _ e d start tokens _ old.items _ old.len old.ok.0 c.pop.ensures.rest (c.loop-symbol.invariant e start tokens d parsed) (popped_none old.items old.len old.ok.0 c.in_default.ensures.cases.0)
