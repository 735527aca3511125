use Rattle.std.proofs.Common.{sym, subst}
use Rattle.rh_il.specs.Checks.{IsProgram}
use Rattle.rh_gen.proofs.Programs.{generated_is_program}
use Rattle.rh_gen.proofs.procedures.program.Goals as goal

pub checked-requires : goal.checked-requires
checked-requires c = subst IsProgram (sym c.in_ok-made.ensures) (generated_is_program c.args.procs c.requires)
