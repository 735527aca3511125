use Rattle.std.proofs.Common.{◌≡◌, length, sym, ap, ◌∙◌}
use Rattle.std.specs.Prelude.{slice_get}
use Rattle.std.specs.Option.{option_and_then}
use Rattle.rh_rule.specs.Checks.{rule_fault}
use Rattle.rh_il.proofs.Firsts.{first_none, found_at, stops}
use Rattle.rh_rule.proofs.check.check_rules.Goals as goal
use Rattle.rh_rule.proofs.check.check_rules.Goals.{After-check_rule}

-- the rule that was checked is the one there
there : (c : After-check_rule) → rule_fault c.args.schemas.now c.loop-number.number c.index-rules-number.result ≡ option_and_then (rule_fault c.args.schemas.now c.loop-number.number) (slice_get c.args.rules.now c.loop-number.number)
there c =
    let fault = rule_fault c.args.schemas.now c.loop-number.number in
    ap fault c.index-rules-number.is ∙ found_at fault c.args.rules.now c.loop-number.number c.index-rules-number.result c.loop-number-test.true

pub returns-in_err-check_rule : goal.returns-in_err-check_rule
returns-in_err-check_rule c =
    stops c.loop-number.number (length c.args.rules.now) (λ i. option_and_then (rule_fault c.args.schemas.now i) (slice_get c.args.rules.now i)) c.in_err-check_rule.field-0.0 c.from_residual.result c.loop-number.invariant
    (c.in_err-check_rule.ensures ∙ there (goal.at.returns-in_err-check_rule c).After-check_rule) c.from_residual.ensures.1 c.loop-number-test.true

pub loop-number-preserved : goal.loop-number-preserved
loop-number-preserved c =
    first_none c.loop-number.number (λ i. option_and_then (rule_fault c.args.schemas.now i) (slice_get c.args.rules.now i)) c.loop-number.invariant (sym (c.in_ok-check_rule.ensures ∙ there (goal.at.loop-number-preserved c).After-check_rule))
