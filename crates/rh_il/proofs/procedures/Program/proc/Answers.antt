use Rattle.rh_il.proofs.Passed.{read_passed}
use Rattle.rh_il.proofs.procedures.Program.proc.Goals as goal

pub returns-clause-small : goal.returns-clause-small
returns-clause-small c = read_passed c.self.inside.procs c.args.number _ c.self.invariant.passes (rw c.as_slice.ensures.value at c.read.ensures)
