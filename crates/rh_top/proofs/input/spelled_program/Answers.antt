use Rattle.std.proofs.Common.{sym, subst}
use Rattle.rh_top.specs.Files.{RefusesProgramText}
use Rattle.rh_top.proofs.Faulty.{program_refused}
use Rattle.rh_top.proofs.input.spelled_program.Goals as goal

pub returns-in-Err-clause-refused : goal.returns-in-Err-clause-refused
returns-in-Err-clause-refused c = subst (RefusesProgramText c.args.bytes.now) (sym c.of_program.ensures) (program_refused c.args.bytes.now c.in-Err.fault c.in-Err.ensures.fault)
