use Rattle.std.proofs.Common.{◌≡◌, ◌++◌}
use Rattle.rh_report.specs.Output.{rule_lines}
use Rattle.rh_report.proofs.Adding.{lines_from}
use Rattle.rh_report.proofs.lines.push_rule_lines.Given as goal

abbrev pub invariant-loop-number : goal.invariant-loop-number
invariant-loop-number l = l.out.items ++ lines_from l.rules l.rulings l.number ≡ l.initial.out.items ++ rule_lines l.rules l.rulings
