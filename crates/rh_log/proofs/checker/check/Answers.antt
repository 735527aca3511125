use Rattle.std.proofs.Common.{arith, ◌≡◌, []}
use Rattle.std.proofs.lemmas.Bool.{MatchBool-at_true, MatchBool-at_false}
use Rattle.std.proofs.lemmas.Grind.{common_steps}
use Rattle.std.proofs.lemmas.Bool.Decides.{nat_tests}
use Rattle.std.proofs.lemmas.List.{nil_from_length}
use Rattle.rh_log.specs.Tree.{IsClosedTree}
use Rattle.rh_log.proofs.Checking.{begun, gone_on, stuck_at, ended}
use Rattle.rh_log.proofs.Refuting.{closed_refutes}
use Rattle.rh_log.proofs.checker.check.Goals as goal

pub loop-node-init : goal.loop-node-init
loop-node-init c = begun _ _ _ _ c.in_ok-branches.ensures

pub loop-node-preserved : goal.loop-node-preserved
loop-node-preserved c =
    gone_on _ _ _ c.loop-node.node-index _ c.loop-node-test.true _ c.loop-node.invariant _
    (MatchBool-at_true _ _ c.if-not-branch.false c.in_ok-follow.ensures)

pub returns-then-not-branch-clause-closed : goal.returns-then-not-branch-clause-closed
returns-then-not-branch-clause-closed c = (
  (λ f. cc),
  (λ closed. absurd (stuck_at _ _ c.as_slice-node-items.result.now c.loop-node.node-index _ c.loop-node-test.true _ c.loop-node.invariant
      (MatchBool-at_false _ _ c.if-not-branch.true c.in_ok-follow.ensures) (rw c.as_slice-node-items.ensures.value closed))),
)

pub returns-clause-refuted : goal.returns-clause-refuted
returns-clause-refuted c = λ yes'.
    let none : c.loop-node.branches.items ≡ [] = nil_from_length _ (grind (arith, common_steps, nat_tests, c.loop-node.branches.ok)) in
    let closed : IsClosedTree c.args.obligation.now.terms c.args.obligation.now.clauses c.as_slice-node-items.result.now
    = (ended _ _ _ c.loop-node.node-index _ c.loop-node-test.false c.loop-node.invariant).0 none in
    closed_refutes _ _ c.args.log.now.nodes c.args.obligation.now.within (rw c.as_slice-node-items.ensures.value at closed)
