use Rattle.std.proofs.Common.{◌≡◌, None}
use Rattle.rh_il.specs.Checks.{first_some}
use Rattle.rh_rule.specs.declared.fault.RuleWrong.TheVariants.{DuplicateName}
use Rattle.rh_rule.specs.declared.fault.Item.TheVariants.{Fact as FactItem}
use Rattle.rh_rule.specs.Checks.{unless, is_new_schema_at}
use Rattle.rh_rule.proofs.check.check_schema_names.Given as goal

abbrev pub invariant-loop-number : goal.invariant-loop-number
invariant-loop-number l = first_some l.number (λ i. unless (is_new_schema_at l.schemas i) DuplicateName (FactItem i)) ≡ None
