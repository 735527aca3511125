use Rattle.std.proofs.Common.{◌≡◌, length, sym, ap, ◌∙◌}
use Rattle.std.specs.Prelude.{slice_get}
use Rattle.std.specs.Option.{option_and_then}
use Rattle.rh_rule.specs.Checks.{schema_fault}
use Rattle.rh_il.proofs.Firsts.{first_none, found_at, stops}
use Rattle.rh_rule.proofs.check.check_schemas.Goals as goal
use Rattle.rh_rule.proofs.check.check_schemas.Goals.{After-check_schema}

-- the schema that was checked is the one there
there : (c : After-check_schema) → schema_fault c.loop-number.number c.index-schemas-number.result ≡ option_and_then (schema_fault c.loop-number.number) (slice_get c.args.schemas.now c.loop-number.number)
there c =
    let fault = schema_fault c.loop-number.number in
    ap fault c.index-schemas-number.is ∙ found_at fault c.args.schemas.now c.loop-number.number c.index-schemas-number.result c.loop-number-test.true

pub returns-in_err-check_schema : goal.returns-in_err-check_schema
returns-in_err-check_schema c =
    stops c.loop-number.number (length c.args.schemas.now) (λ i. option_and_then (schema_fault i) (slice_get c.args.schemas.now i)) c.in_err-check_schema.field-0.0 c.from_residual.result c.loop-number.invariant
    (c.in_err-check_schema.ensures ∙ there (goal.at.returns-in_err-check_schema c).After-check_schema) c.from_residual.ensures.1 c.loop-number-test.true

pub loop-number-preserved : goal.loop-number-preserved
loop-number-preserved c =
    first_none c.loop-number.number (λ i. option_and_then (schema_fault i) (slice_get c.args.schemas.now i)) c.loop-number.invariant (sym (c.in_ok-check_schema.ensures ∙ there (goal.at.loop-number-preserved c).After-check_schema))
