use Rattle.std.proofs.Common.{[]}
use Rattle.rh_axioms.specs.Computed.{operation_at}
use Rattle.rh_axioms.proofs.Each.{SoFar}
use Rattle.rh_axioms.proofs.computed.operations.Given as goal

abbrev pub invariant-loop-place : goal.invariant-loop-place
invariant-loop-place l = SoFar operation_at l.terms l.place [] l.found.items
