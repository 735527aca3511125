use Rattle.std.proofs.Common.{Err}
use Rattle.rh_il_text.proofs.OneAnswer.{only_program, only_fault, passed, lexed}
use Rattle.rh_il_text.proofs.read.read_program.Goals as goal

pub returns-in_err-sources-in-Ok-clause-whole : goal.returns-in_err-sources-in-Ok-clause-whole
returns-in_err-sources-in-Ok-clause-whole c =
    let text = c.args.src.now in
    let told = c.from_residual.result in
    only_program text told (passed text told c.in_err-sources-in-Ok.field-0.0 c.from_residual.ensures.1 c.in_err-sources-in-Ok.ensures.fault)

pub returns-in_err-sources-in-Ok-clause-first : goal.returns-in_err-sources-in-Ok-clause-first
returns-in_err-sources-in-Ok-clause-first c =
    let text = c.args.src.now in
    let told = c.from_residual.result in
    only_fault text told (passed text told c.in_err-sources-in-Ok.field-0.0 c.from_residual.ensures.1 c.in_err-sources-in-Ok.ensures.fault)

pub returns-in_ok-sources-in-Ok-clause-whole : goal.returns-in_ok-sources-in-Ok-clause-whole
returns-in_ok-sources-in-Ok-clause-whole c =
    only_program c.args.src.now c.program_of.result (record { program = c.program_of.ensures.program; fault = c.program_of.ensures.fault })

pub returns-in_ok-sources-in-Ok-clause-first : goal.returns-in_ok-sources-in-Ok-clause-first
returns-in_ok-sources-in-Ok-clause-first c =
    only_fault c.args.src.now c.program_of.result (record { program = c.program_of.ensures.program; fault = c.program_of.ensures.fault })

pub returns-in-Err-clause-whole : goal.returns-in-Err-clause-whole
returns-in-Err-clause-whole c =
    let text = c.args.src.now in
    let told = c.of_lexer.result in
    only_program text (Err told) (lexed text told c.in-Err.fault c.of_lexer.ensures c.in-Err.ensures.fault)

pub returns-in-Err-clause-first : goal.returns-in-Err-clause-first
returns-in-Err-clause-first c =
    let text = c.args.src.now in
    let told = c.of_lexer.result in
    only_fault text (Err told) (lexed text told c.in-Err.fault c.of_lexer.ensures c.in-Err.ensures.fault)
