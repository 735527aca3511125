use Rattle.std.proofs.Common.{refl}
use Rattle.rh_il_step.proofs.Ends.{is_at}
use Rattle.rh_il_step.proofs.runs.stuck_at.Goals as goal

pub returns : goal.returns
returns c = (refl, is_at c.args.program.now c.args.state.now c.in-Some.top c.in-Some-statement_at.node c.in-Some-statement_at.field-0-1 c.in-Some.ensures c.in-Some-statement_at.ensures)
