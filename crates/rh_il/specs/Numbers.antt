-- The numbers in the statements of a program.
use Rattle.std.specs.Prelude.{ℤ, List, [], ◌∷◌, ◌++◌}
use Rattle.std.specs.List.{AllByRecursion}
use Rattle.rh_list.specs.Each.{Each}
use Rattle.rh_il.specs.declared.program.Base.{Base}
use Rattle.rh_il.specs.declared.program.Base.TheVariants.{Var, Num}
use Rattle.rh_il.specs.declared.program.Proc.{Proc}
use Rattle.rh_il.specs.declared.program.Stmt.{Stmt}
use Rattle.rh_il.specs.declared.program.Stmt.TheVariants.{Copy, Compute, Write, Call, If, Return}
use Rattle.rh_il.specs.Value.{IsNumber}

abbrev pub base_numbers : Base → List ℤ
base_numbers (Num number) = number ∷ []
base_numbers (Var number) = []

-- the numbers that stand as operands in the statement; targets are none
abbrev pub operand_numbers : Stmt → List ℤ
operand_numbers (Copy to from) = base_numbers from
operand_numbers (Compute to op left right) = base_numbers left ++ base_numbers right
operand_numbers (Write to from) = base_numbers from
operand_numbers (Call to callee arg) = base_numbers arg
operand_numbers (If cond taken other) = base_numbers cond
operand_numbers (Return value) = base_numbers value
operand_numbers _ = []

-- the numbers in the statements of the procedure are of 64 bits
abbrev pub HasNumbers : Proc → Type 0
HasNumbers proc = Each (λ stmt. AllByRecursion IsNumber (operand_numbers stmt)) proc.body
