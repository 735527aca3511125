use Rattle.std.proofs.Common.{◌≡◌}
use Rattle.rh_audit.specs.Proofs.{numbered_from}
use Rattle.rh_audit.proofs.printing.numbered.Given as goal

abbrev pub invariant-loop-log : goal.invariant-loop-log
invariant-loop-log l = l.placed ≡ numbered_from 0 l.yielded
