use Rattle.rh_il_step.proofs.Left.{step_keeps}
use Rattle.rh_il_step.proofs.stepping.step.Goals as goal

pub returns-clause-kept : goal.returns-clause-kept
returns-clause-kept c =
    step_keeps c.args.program.now c.count-count.ensures.program c.numbers_fit.ensures c.in-Some.top c.in-Some-statement_at.number c.in-Some-statement_at.stmt c.args.state.now c.execute.new.state c.execute.result c.requires
    c.in-Some.ensures c.in-Some-statement_at.ensures c.execute.ensures
