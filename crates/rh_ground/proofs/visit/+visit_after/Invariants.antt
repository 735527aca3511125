use Rattle.std.proofs.Common.{length, ◌≡◌}
use Rattle.rh_ground.proofs.Visiting.{VisitsBefore, beginning_with}
use Rattle.rh_ground.proofs.visit.+visit_after.Given as goal

abbrev pub decreases-visit_after : goal.decreases-visit_after
decreases-visit_after g l = length l.params.now

-- the wanted bindings with the arguments before the number have been visited
abbrev pub invariant-loop-number : goal.invariant-loop-number
invariant-loop-number g l =
    let visits = g.V.Visitor.visits l.visitor in
    let accepts = g.V.Wanted.accepts l.visitor in
    (l.args ≡ l.initial.args) × VisitsBefore visits accepts l.domain l.param l.others l.initial.args (beginning_with l.domain l.params l.initial.args) l.number l.end l.initial.kept l.kept
