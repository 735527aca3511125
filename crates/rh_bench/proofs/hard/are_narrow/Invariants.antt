use Rattle.std.proofs.Common.{take}
use Rattle.rh_refuter.specs.Choice.{AreNarrow}
use Rattle.rh_bench.proofs.hard.are_narrow.Given as goal

abbrev pub invariant-loop-clause : goal.invariant-loop-clause
invariant-loop-clause l = AreNarrow (take l.clause-index l.clauses)
