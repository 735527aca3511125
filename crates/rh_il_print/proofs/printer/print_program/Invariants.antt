use Rattle.std.proofs.Common.{◌≡◌, take}
use Rattle.std.specs.List.{flat_map}
use Rattle.rh_il_print.specs.Text.{proc_text}
use Rattle.rh_il_print.proofs.printer.print_program.Given as goal

abbrev pub invariant-loop-number : goal.invariant-loop-number
invariant-loop-number l = l.out.items ≡ flat_map (proc_text l.program) (take l.number l.program)
