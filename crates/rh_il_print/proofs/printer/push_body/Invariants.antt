use Rattle.std.proofs.Common.{◌≡◌, ◌++◌, take}
use Rattle.std.specs.List.{flat_map}
use Rattle.rh_il_print.specs.Text.{line_text}
use Rattle.rh_il_print.proofs.printer.push_body.Given as goal

abbrev pub invariant-loop-stmt : goal.invariant-loop-stmt
invariant-loop-stmt l =
    l.out.items ≡ l.initial.out.items ++ flat_map (line_text l.program l.vars) (take l.stmt-index l.body)
