use Rattle.std.proofs.Common.{length, ap, ◌∙◌}
use Rattle.rh_il.specs.declared.fault.ProgWrong.TheVariants.{DuplicateName}
use Rattle.rh_il.specs.Checks.{unless, is_new_at}
use Rattle.rh_il.proofs.Firsts.{stops}
use Rattle.rh_il.proofs.check.check_vars.Goals as goal

pub returns-in_err-ensure : goal.returns-in_err-ensure
returns-in_err-ensure c =
    stops c.loop-item.item (length c.args.vars.now) (λ item. unless (is_new_at c.args.vars.now item) DuplicateName c.args.number item) c.in_err-ensure.field-0.0 c.from_residual.result c.loop-item.invariant
    (c.in_err-ensure.ensures ∙ ap (λ b. unless b DuplicateName c.args.number c.loop-item.item) c.is_new_at-is_new.ensures) c.from_residual.ensures.1 c.loop-item-test.true
