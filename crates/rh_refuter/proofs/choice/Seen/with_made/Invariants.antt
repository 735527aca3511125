use Rattle.std.proofs.Common.{take}
use Rattle.rh_refuter.specs.Choice.{Adds}
use Rattle.rh_refuter.proofs.choice.Seen.with_made.Given as goal

abbrev pub invariant-loop-clause : goal.invariant-loop-clause
invariant-loop-clause l = Adds l.labels l.fn.self (take l.clause-index l.clauses) l.seen
