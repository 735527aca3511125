use Rattle.rh_log.proofs.Checking.{HasFollowed}
use Rattle.rh_log.proofs.checker.check.Given as goal

abbrev pub invariant-loop-node : goal.invariant-loop-node
invariant-loop-node l = HasFollowed l.obligation.terms l.obligation.clauses l.node-items l.node-index l.branches.items
