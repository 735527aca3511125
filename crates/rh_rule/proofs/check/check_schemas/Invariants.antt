use Rattle.std.proofs.Common.{◌≡◌, None}
use Rattle.std.specs.Prelude.{slice_get}
use Rattle.std.specs.Option.{option_and_then}
use Rattle.rh_il.specs.Checks.{first_some}
use Rattle.rh_rule.specs.Checks.{schema_fault}
use Rattle.rh_rule.proofs.check.check_schemas.Given as goal

abbrev pub invariant-loop-number : goal.invariant-loop-number
invariant-loop-number l = first_some l.number (λ i. option_and_then (schema_fault i) (slice_get l.schemas i)) ≡ None
