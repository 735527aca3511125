-- Procedures with names in place of numbers, as they are printed.
use Rattle.std.specs.Prelude.{ℕ, suc, ℤ, pos, negsuc, true, false, List, map}
use Rattle.rh_il.specs.declared.program.Base.{Base}
use Rattle.rh_il.specs.declared.program.Base.TheVariants.{Var as VarBase, Num as NumBase}
use Rattle.rh_il.specs.declared.program.Stmt.{Stmt}
use Rattle.rh_il.specs.declared.program.Stmt.TheVariants.{Skip as SkipStmt, Copy as CopyStmt, Address as AddressStmt, Load as LoadStmt, Compute as ComputeStmt, Write as WriteStmt, New as NewStmt, Call as CallStmt, Goto as GotoStmt, If as IfStmt, Return as ReturnStmt}
use Rattle.rh_il.specs.declared.program.Proc.{Proc}
use Rattle.rh_il_source.specs.declared.source.Operand.{Operand}
use Rattle.rh_il_source.specs.declared.source.Operand.TheVariants.{Var, Num}
use Rattle.rh_il_source.specs.declared.source.Line.{Line}
use Rattle.rh_il_source.specs.declared.source.Line.TheVariants.{Skip, Copy, Address, Load, Compute, Write, New, Call, Goto, If, Return}
use Rattle.rh_il_source.specs.declared.source.Source.{Source}
use Rattle.rh_il_print.specs.Text.{name_at, proc_name}

-- the sign and the size of a number
abbrev pub number_operand : ℤ → Operand
number_operand (pos n) = Num false n
number_operand (negsuc n) = Num true (suc n)

abbrev pub operand_of : List (List ℕ) → Base → Operand
operand_of vars (VarBase x) = Var (name_at vars x)
operand_of vars (NumBase c) = number_operand c

abbrev pub line_of : List Proc → List (List ℕ) → Stmt → Line
line_of procs vars SkipStmt = Skip
line_of procs vars (CopyStmt to from) = Copy (name_at vars to) (operand_of vars from)
line_of procs vars (AddressStmt to of) = Address (name_at vars to) (name_at vars of)
line_of procs vars (LoadStmt to from) = Load (name_at vars to) (name_at vars from)
line_of procs vars (ComputeStmt to op left right) = Compute (name_at vars to) op (operand_of vars left) (operand_of vars right)
line_of procs vars (WriteStmt to from) = Write (name_at vars to) (operand_of vars from)
line_of procs vars (NewStmt to) = New (name_at vars to)
line_of procs vars (CallStmt to called arg) = Call (name_at vars to) (proc_name procs called) (operand_of vars arg)
line_of procs vars (GotoStmt to) = Goto to
line_of procs vars (IfStmt x taken other) = If (operand_of vars x) taken other
line_of procs vars (ReturnStmt x) = Return (operand_of vars x)

abbrev pub source_of : List Proc → Proc → Source
source_of procs p = record { name = p.name; vars = p.vars; body = map (line_of procs p.vars) p.body }

-- the procedures of a program
abbrev pub sources_of : List Proc → List Source
sources_of procs = map (source_of procs) procs
