use Rattle.std.proofs.Common.{ℕ, ◌<◌, map}
use Rattle.rh_term.specs.Computed.{clause_with}
use Rattle.rh_log.specs.Tree.{IsFalseAt}
use Rattle.rh_refuter.proofs.choice.first_false.Given as goal

abbrev pub invariant-loop-at : goal.invariant-loop-at
invariant-loop-at l = (other : ℕ) → other < l.at → ¬ (IsFalseAt (map (clause_with l.operation) l.triples) l.labels other)
