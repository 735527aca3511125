use Rattle.std.proofs.Common.{length, ap, ◌∙◌}
use Rattle.rh_rule.specs.declared.fault.RuleWrong.TheVariants.{DuplicateName}
use Rattle.rh_rule.specs.Checks.{unless, is_new_param_at}
use Rattle.rh_il.proofs.Firsts.{stops}
use Rattle.rh_rule.proofs.check.check_params.Goals as goal

pub returns-in_err-ensure : goal.returns-in_err-ensure
returns-in_err-ensure c =
    stops c.loop-place.place (length c.args.params.now) (λ i. unless (is_new_param_at c.args.params.now i) DuplicateName c.args.item) c.in_err-ensure.field-0.0 c.from_residual.result c.loop-place.invariant
    (c.in_err-ensure.ensures ∙ ap (λ b. unless b DuplicateName c.args.item) c.is_new_param_at-is_new.ensures) c.from_residual.ensures.1 c.loop-place-test.true
