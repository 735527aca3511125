-- The canonical text of a program.
use Rattle.std.specs.Prelude.{ℕ, List, [], ◌∷◌, ◌++◌, codes, slice_get}
use Rattle.std.specs.List.{flat_map}
use Rattle.std.specs.Option.{option_map_or}
use Rattle.std.specs.Fmt.{decimal, signed_decimal}
use Rattle.rh_il.specs.declared.value.Op.{Op}
use Rattle.rh_il.specs.declared.program.Base.{Base}
use Rattle.rh_il.specs.declared.program.Base.TheVariants.{Var, Num}
use Rattle.rh_il.specs.declared.program.Stmt.{Stmt}
use Rattle.rh_il.specs.declared.program.Stmt.TheVariants.{Skip, Copy, Address, Load, Compute, Write, New, Call, Goto, If, Return}
use Rattle.rh_il.specs.declared.program.Proc.{Proc}
use Rattle.rh_print.specs.Operators.{op_text}

-- the name at a place
abbrev pub name_at : List (List ℕ) → ℕ → List ℕ
name_at names i = option_map_or (λ name. name) (slice_get names i) []

-- the name of a procedure
abbrev pub proc_name : List Proc → ℕ → List ℕ
proc_name procs i = option_map_or (λ p. p.name) (slice_get procs i) []

abbrev pub base_text : List (List ℕ) → Base → List ℕ
base_text vars (Var x) = name_at vars x
base_text vars (Num c) = signed_decimal c

-- the variable to the left of `:=`
abbrev pub to_text : List (List ℕ) → ℕ → List ℕ
to_text vars to = name_at vars to ++ codes " := "

abbrev pub compute_text : List (List ℕ) → Op → Base → Base → List ℕ
compute_text vars op left right = base_text vars left ++ codes " " ++ op_text op ++ codes " " ++ base_text vars right

abbrev pub call_text : List Proc → List (List ℕ) → ℕ → Base → List ℕ
call_text procs vars proc arg = proc_name procs proc ++ codes "(" ++ base_text vars arg ++ codes ")"

abbrev pub branch_text : List (List ℕ) → Base → ℕ → ℕ → List ℕ
branch_text vars cond taken other =
    codes "if " ++ base_text vars cond ++ codes " goto " ++ decimal taken ++ codes " else " ++ decimal other

-- a statement without its `;`
abbrev pub stmt_text : List Proc → List (List ℕ) → Stmt → List ℕ
stmt_text procs vars Skip = codes "skip"
stmt_text procs vars (Copy to from) = to_text vars to ++ base_text vars from
stmt_text procs vars (Address to of) = to_text vars to ++ codes "&" ++ name_at vars of
stmt_text procs vars (Load to from) = to_text vars to ++ codes "*" ++ name_at vars from
stmt_text procs vars (Compute to op left right) = to_text vars to ++ compute_text vars op left right
stmt_text procs vars (Write to from) = codes "*" ++ to_text vars to ++ base_text vars from
stmt_text procs vars (New to) = to_text vars to ++ codes "new"
stmt_text procs vars (Call to proc arg) = to_text vars to ++ call_text procs vars proc arg
stmt_text procs vars (Goto to) = codes "goto " ++ decimal to
stmt_text procs vars (If cond taken other) = branch_text vars cond taken other
stmt_text procs vars (Return value) = codes "return " ++ base_text vars value

-- a line of a body
abbrev pub line_text : List Proc → List (List ℕ) → Stmt → List ℕ
line_text procs vars stmt = codes "  " ++ stmt_text procs vars stmt ++ codes ";\n"

-- the locals after the parameter
abbrev pub locals_text : List (List ℕ) → List ℕ
locals_text [] = []
locals_text (first ∷ others) = codes " var " ++ first ++ flat_map (λ name. codes ", " ++ name) others

-- what stands between the name and the body: the parameter, and the locals
abbrev pub vars_text : List (List ℕ) → List ℕ
vars_text [] = codes "()"
vars_text (param ∷ locals) = codes "(" ++ param ++ codes ")" ++ locals_text locals

abbrev pub proc_text : List Proc → Proc → List ℕ
proc_text procs proc =
    proc.name ++ vars_text proc.vars ++ codes " {\n" ++ flat_map (line_text procs proc.vars) proc.body ++ codes "}\n"

-- the procedure of a number
abbrev pub text_at : List Proc → ℕ → List ℕ
text_at procs number = option_map_or (proc_text procs) (slice_get procs number) []

-- all procedures, in their order
abbrev pub program_text : List Proc → List ℕ
program_text procs = flat_map (proc_text procs) procs
