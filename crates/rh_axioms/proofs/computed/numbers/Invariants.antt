use Rattle.std.proofs.Common.{[]}
use Rattle.rh_axioms.specs.Computed.{number_at}
use Rattle.rh_axioms.proofs.Each.{SoFar}
use Rattle.rh_axioms.proofs.computed.numbers.Given as goal

abbrev pub invariant-loop-place : goal.invariant-loop-place
invariant-loop-place l = SoFar number_at l.terms l.place [] l.found.items
