use Rattle.std.proofs.Common.{◌≡◌, None}
use Rattle.rh_il.specs.Checks.{first_some}
use Rattle.rh_rule.specs.declared.fault.RuleWrong.TheVariants.{DuplicateName}
use Rattle.rh_rule.specs.Checks.{unless, is_new_param_at}
use Rattle.rh_rule.proofs.check.check_params.Given as goal

abbrev pub invariant-loop-place : goal.invariant-loop-place
invariant-loop-place l = first_some l.place (λ i. unless (is_new_param_at l.params i) DuplicateName l.item) ≡ None
