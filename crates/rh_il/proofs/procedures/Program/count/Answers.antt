use Rattle.std.proofs.Common.{arith}
use Rattle.rh_il.proofs.Passed.{passed}
use Rattle.rh_il.proofs.procedures.Program.count.Goals as goal

pub overflow_cast-result : goal.overflow_cast-result
overflow_cast-result c = let p = passed c.self.inside.procs c.self.invariant.passes in omega (arith, c.len.ensures, p.few)
