use Rattle.rh_axioms.proofs.Each.{SoFar}
use Rattle.rh_axioms.proofs.listing.add_each.Given as goal

abbrev pub invariant-loop-place : goal.invariant-loop-place
invariant-loop-place g l = SoFar (g.P.PerTerm.clauses_for l.given l.terms) l.terms l.place l.fn.clauses l.clauses
