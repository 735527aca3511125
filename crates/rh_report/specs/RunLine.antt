-- How the end of a run is told.
use Rattle.std.specs.Prelude.{ℕ, List, ◌++◌, codes}
use Rattle.std.specs.Fmt.{decimal, signed_decimal}
use Rattle.rh_il.specs.declared.program.Proc.{Proc}
use Rattle.rh_il.specs.declared.value.Value.{Value}
use Rattle.rh_il.specs.declared.value.Value.TheVariants.{Num, Ptr}
use Rattle.rh_il_step.specs.declared.runs.RunEnd.{RunEnd}
use Rattle.rh_il_step.specs.declared.runs.RunEnd.TheVariants.{Returned, Stuck, Running}
use Rattle.rh_il_print.specs.Text.{proc_name}

-- a number, or a pointer by its location
abbrev pub value_text : Value → List ℕ
value_text (Num number) = signed_decimal number
value_text (Ptr location) = codes "&" ++ decimal location

-- after how many steps a run ended
abbrev pub steps_text : ℕ → List ℕ
steps_text steps = codes " after " ++ decimal steps ++ codes "\n"

-- the line of a run that may take so many steps at most
abbrev pub run_line : List Proc → ℕ → RunEnd → List ℕ
run_line procs most (Returned value steps) = codes "returned " ++ value_text value ++ steps_text steps
run_line procs most (Stuck proc node steps) = codes "stuck at " ++ proc_name procs proc ++ codes " " ++ decimal node ++ steps_text steps
run_line procs most Running = codes "running" ++ steps_text most
