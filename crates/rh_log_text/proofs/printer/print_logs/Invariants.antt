use Rattle.std.proofs.Common.{◌≡◌, take}
use Rattle.rh_log_text.specs.Same.{AreLines}
use Rattle.rh_log_text.specs.Text.{file_lines, logs_text}
use Rattle.rh_log_text.proofs.printer.print_logs.Given as goal

abbrev pub invariant-loop-section : goal.invariant-loop-section
invariant-loop-section l = (l.out.items ≡ logs_text (take l.section-index l.sections)) × AreLines (file_lines (take l.section-index l.sections))
