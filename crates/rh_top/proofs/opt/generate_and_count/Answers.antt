use Rattle.std.proofs.Common.{subst, ◌∙◌}
use Rattle.std.proofs.lemmas.Result.{err_from_is_err_and}
use Rattle.std.specs.Prelude.{Some}
use Rattle.rh_top.specs.Call.{made}
use Rattle.rh_top.specs.Files.{AcceptsProgram, AcceptsRules, RefusesProgram, RefusesRules}
use Rattle.rh_top.specs.Refusals.{at_first, later}
use Rattle.rh_top.proofs.opt.generate_and_count.Goals as goal

pub returns-in_err-file-clause-refused : goal.returns-in_err-file-clause-refused
returns-in_err-file-clause-refused g c =
    let told = err_from_is_err_and c.from_residual-in_err-file.result c.from_residual-in_err-file.ensures.1 in
    let same = c.as_slice.ensures.value ∙ c.in_ok-rules.ensures.rules in
    rw (told.1, told.2) (at_first (subst (λ bytes. RefusesRules (made bytes) c.in_err-file.field-0.0) same c.in_err-file.ensures.refused))

pub returns-in_err-program-clause-refused : goal.returns-in_err-program-clause-refused
returns-in_err-program-clause-refused g c =
    let told = err_from_is_err_and c.from_residual-in_err-program.result c.from_residual-in_err-program.ensures.1 in
    let same = c.as_slice.ensures.value ∙ c.in_ok-rules.ensures.rules in
    let same' = c.as_slice-2.ensures.value ∙ c.in_ok-rules.ensures.program in
    rw (told.1, told.2)
    (later c.in_ok-file.file (subst (λ bytes. AcceptsRules (Some bytes) c.in_ok-file.file) same c.in_ok-file.ensures.read)
    (at_first (subst (λ bytes. RefusesProgram (made bytes) c.in_err-program.field-0.0) same' c.in_err-program.ensures.refused)))

pub returns-clause-refused : goal.returns-clause-refused
returns-clause-refused g c =
    let same = c.as_slice.ensures.value ∙ c.in_ok-rules.ensures.rules in
    let same' = c.as_slice-2.ensures.value ∙ c.in_ok-rules.ensures.program in
    later c.in_ok-file.file (subst (λ bytes. AcceptsRules (Some bytes) c.in_ok-file.file) same c.in_ok-file.ensures.read)
    (later c.in_ok-program.program (subst (λ bytes. AcceptsProgram (Some bytes) c.in_ok-program.program) same' c.in_ok-program.ensures.read) c.in-Err.ensures.refused)
