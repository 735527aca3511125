use Rattle.std.proofs.Common.{◌≡◌, None}
use Rattle.std.specs.Prelude.{slice_get}
use Rattle.std.specs.Option.{option_and_then}
use Rattle.rh_il.specs.Checks.{first_some}
use Rattle.rh_rule.specs.Checks.{rule_fault}
use Rattle.rh_rule.proofs.check.check_rules.Given as goal

abbrev pub invariant-loop-number : goal.invariant-loop-number
invariant-loop-number l = first_some l.number (λ i. option_and_then (rule_fault l.schemas i) (slice_get l.rules i)) ≡ None
