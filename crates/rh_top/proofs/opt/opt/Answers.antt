use Rattle.std.proofs.lemmas.Result.{err_from_is_err_and}
use Rattle.std.proofs.Common.{subst}
use Rattle.rh_report.specs.declared.status.Part.TheVariants.{Program}
use Rattle.rh_top.specs.Files.{AcceptsProgram, RefusesProgramText, most_bytes}
use Rattle.rh_top.specs.Refusals.{at_first, later}
use Rattle.rh_top.proofs.Refusing.{refused_since}
use Rattle.rh_top.proofs.opt.opt.Goals as goal

pub returns-in_err-file-clause-refused : goal.returns-in_err-file-clause-refused
returns-in_err-file-clause-refused g c =
    let told = err_from_is_err_and c.from_residual.result c.from_residual.ensures.1 in
    rw (told.1, told.2) (at_first c.in_err-file.ensures.refused)

pub returns-in_err-program-clause-refused : goal.returns-in_err-program-clause-refused
returns-in_err-program-clause-refused g c =
    let told = err_from_is_err_and c.from_residual-in_err-program.result c.from_residual-in_err-program.ensures.1 in
    let name = c.args.program.now in
    rw (told.1, told.2)
    (later c.in_ok-file.file c.in_ok-file.ensures.read
    (at_first
    (refused_since Program most_bytes RefusesProgramText _ _ _ _ _ _ (c.in_ok-file.ensures.unchanged name) (c.in_ok-file.ensures.never_falls name) c.in_err-program.ensures.refused)))

pub returns-clause-refused : goal.returns-clause-refused
returns-clause-refused g c =
    let name = c.args.program.now in
    later c.in_ok-file.file c.in_ok-file.ensures.read
    (later c.in_ok-program.program (subst (λ held. AcceptsProgram held c.in_ok-program.program) (c.in_ok-file.ensures.unchanged name) c.in_ok-program.ensures.read) c.in-Err.ensures.refused)
