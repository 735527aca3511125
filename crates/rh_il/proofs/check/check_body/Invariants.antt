use Rattle.std.proofs.Common.{◌≡◌, None}
use Rattle.std.specs.Prelude.{slice_get}
use Rattle.std.specs.Option.{option_and_then}
use Rattle.rh_il.specs.Checks.{first_some, stmt_fault}
use Rattle.rh_il.proofs.check.check_body.Given as goal

abbrev pub invariant-loop-item : goal.invariant-loop-item
invariant-loop-item l =
    first_some l.item (λ item. option_and_then (stmt_fault l.procs l.number l.proc item) (slice_get l.proc.body item)) ≡ None
