use Rattle.std.proofs.Common.{◌≡◌, ◌++◌, take}
use Rattle.std.specs.List.{flat_map}
use Rattle.rh_il_text.specs.Known.{closed_marks}
use Rattle.rh_il_text.proofs.marks.push_body.Given as goal

abbrev pub invariant-loop-line : goal.invariant-loop-line
invariant-loop-line l = l.marks.items ≡ l.initial.marks.items ++ flat_map (closed_marks l.vars l.procs) (take l.line-index l.body)
