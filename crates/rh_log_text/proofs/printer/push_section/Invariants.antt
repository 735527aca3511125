use Rattle.std.proofs.Common.{◌≡◌, ◌++◌, flat_map, take}
use Rattle.rh_log_text.specs.Same.{AreLines}
use Rattle.rh_log_text.specs.Text.{lines_text, log_lines}
use Rattle.rh_log_text.proofs.printer.push_section.Given as goal

abbrev pub invariant-loop-log : goal.invariant-loop-log
invariant-loop-log l = (l.out.items ≡ l.initial.out.items ++ lines_text (flat_map log_lines (take l.log-index l.log-items))) × AreLines (flat_map log_lines (take l.log-index l.log-items))
