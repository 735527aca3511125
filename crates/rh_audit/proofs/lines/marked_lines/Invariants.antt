use Rattle.std.proofs.Common.{◌≡◌, ◌++◌}
use Rattle.rh_audit.specs.Walk.{marked_lines}
use Rattle.rh_audit.proofs.LinesOf.{lines_from}
use Rattle.rh_audit.proofs.lines.marked_lines.Given as goal

abbrev pub invariant-loop-number : goal.invariant-loop-number
invariant-loop-number l = l.out.items ++ lines_from l.rules l.marks l.number ≡ marked_lines l.rules l.marks
