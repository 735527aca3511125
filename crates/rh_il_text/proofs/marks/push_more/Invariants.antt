use Rattle.std.proofs.Common.{◌≡◌, ◌++◌, take}
use Rattle.rh_il_text.specs.Known.{more_marks}
use Rattle.rh_il_text.proofs.marks.push_more.Given as goal

abbrev pub invariant-loop-name : goal.invariant-loop-name
invariant-loop-name l = l.marks.items ≡ l.initial.marks.items ++ more_marks (take l._name-index l.names)
