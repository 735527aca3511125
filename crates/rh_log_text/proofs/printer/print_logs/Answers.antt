use Rattle.std.proofs.Common.{arith}
use Rattle.rh_log_text.proofs.Printed.{all_printed}
use Rattle.rh_log_text.proofs.printer.print_logs.Goals as goal

pub returns-clause-again : goal.returns-clause-again
returns-clause-again c =
    all_printed c.loop-section.out.items c.args.sections.now c.loop-section.section-index
    (omega (arith, c.loop-section.auto.section-index-end, c.loop-section-test.false)) c.loop-section.invariant.0 c.loop-section.invariant.1
