use Rattle.std.proofs.Common.{◌≤◌, length, drop}
use Rattle.std.specs.List.{filter}
use Rattle.rh_log.specs.Branch.{Grows}
use Rattle.rh_log.proofs.branch.expand.Given as goal

abbrev pub invariant-loop-at : goal.invariant-loop-at
invariant-loop-at l =
    (l.at ≤ length l.lits)
    × Grows l.terms l.classes (filter (λ lit. lit.equal) (drop l.at l.lits)) l.fn.branches.items l.branches.items
