use Rattle.std.proofs.Common.{◌≡◌, None}
use Rattle.rh_il.specs.declared.fault.ProgWrong.TheVariants.{DuplicateName}
use Rattle.rh_il.specs.Checks.{first_some, unless, is_new_at}
use Rattle.rh_il.proofs.check.check_vars.Given as goal

abbrev pub invariant-loop-item : goal.invariant-loop-item
invariant-loop-item l = first_some l.item (λ item. unless (is_new_at l.vars item) DuplicateName l.number item) ≡ None
