use Rattle.std.proofs.Common.{length, ap, ◌∙◌}
use Rattle.rh_rule.specs.declared.fault.RuleWrong.TheVariants.{DuplicateName}
use Rattle.rh_rule.specs.declared.fault.Item.TheVariants.{Fact as FactItem}
use Rattle.rh_rule.specs.Checks.{unless, is_new_schema_at}
use Rattle.rh_il.proofs.Firsts.{stops}
use Rattle.rh_rule.proofs.check.check_schema_names.Goals as goal

pub returns-in_err-ensure : goal.returns-in_err-ensure
returns-in_err-ensure c =
    stops c.loop-number.number (length c.args.schemas.now) (λ i. unless (is_new_schema_at c.args.schemas.now i) DuplicateName (FactItem i)) c.in_err-ensure.field-0.0 c.from_residual.result c.loop-number.invariant
    (c.in_err-ensure.ensures ∙ ap (λ b. unless b DuplicateName (FactItem c.loop-number.number)) c.is_new_schema_at-is_new.ensures) c.from_residual.ensures.1 c.loop-number-test.true
