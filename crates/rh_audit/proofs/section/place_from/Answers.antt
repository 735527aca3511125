use Rattle.std.proofs.Common.{◌≡◌, ◌≤◌, ◌∙◌, ap, sym, arith}
use Rattle.std.proofs.lemmas.Bool.{both_ways}
use Rattle.std.proofs.lemmas.Option.{get_or_from_slice_get, slice_get_within}
use Rattle.rh_rule.specs.declared.rule.Rule.{Rule}
use Rattle.rh_audit.proofs.Proving.{each_more}
use Rattle.rh_audit.proofs.section.place_from.Goals as goal

pub loop-place-preserved : goal.loop-place-preserved
loop-place-preserved c =
    each_more (λ number (rule : Rule). c.args.next ≤ number → c.args.name ≡ rule.name → ⊥) c.args.rules.now c.loop-place.place c.loop-place.invariant
    (λ rule stands after same.
    let here : rule ≡ c.index-rules-place.result = sym (c.index-rules-place.is ∙ get_or_from_slice_get c.args.rules.now c.loop-place.place rule c.index-rules-place.result stands) in
    both_ways c.is_called.result c.if-is_called.false (c.is_called.ensures.1 (same ∙ ap (λ (r : Rule). r.name) here)))

pub returns : goal.returns
returns c = λ number rule after stands same.
    let within = slice_get_within c.args.rules.now number rule stands in
    c.loop-place.invariant number rule (omega (arith, within, c.loop-place-test.false)) stands after same
