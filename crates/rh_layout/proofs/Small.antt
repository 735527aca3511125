-- A procedure of a program has few constants.
use Rattle.std.proofs.Common.{ℤ, suc, ◌*◌, ◌≤◌, Bool, true, false, List, [], ◌∷◌, length, arith}
use Rattle.std.specs.Prelude.{int_lt, pos, if◌then◌else◌}
use Rattle.std.specs.List.{flat_map}
use Rattle.std.specs.Ordering.{int_eq}
use Rattle.std.proofs.Math.ListN.{length-append}
use Rattle.rh_il.specs.declared.program.Base.{Base}
use Rattle.rh_il.specs.declared.program.Base.TheVariants.{Var, Num}
use Rattle.rh_il.specs.declared.program.Proc.{Proc}
use Rattle.rh_il.specs.declared.program.Stmt.{Stmt}
use Rattle.rh_il.specs.declared.program.Stmt.TheVariants.{Copy, Compute, Write, Call, If, Return}
use Rattle.rh_il.specs.Checks.{ProcPassed}
use Rattle.rh_il.specs.Numbers.{base_numbers, operand_numbers}
use Rattle.rh_domain.specs.Binding.{domain_of}
use Rattle.rh_domain.specs.Constants.{rising, with_number}
use Rattle.rh_domain.specs.Count.{IsSmall}

one_more : (x y : ℤ) (ys rest : List ℤ) (same below : Bool) → length rest ≤ suc (length ys) → length (if same then y ∷ ys else (if below then x ∷ y ∷ ys else y ∷ rest)) ≤ suc (suc (length ys))
one_more x y ys rest true below few = omega arith
one_more x y ys rest false true few = omega arith
one_more x y ys rest false false few = omega (arith, few)

with_few : (x : ℤ) (ys : List ℤ) → length (with_number x ys) ≤ suc (length ys)
with_few x [] = omega arith
with_few x (y ∷ ys) = one_more x y ys (with_number x ys) (int_eq x y) (int_lt x y) (with_few x ys)

rising_few : (xs : List ℤ) → length (rising xs) ≤ length xs
rising_few [] = omega arith
rising_few (x ∷ xs) = let here = with_few x (rising xs) in let rest = rising_few xs in omega (arith, here, rest)

base_few : (base : Base) → length (base_numbers base) ≤ 1
base_few (Num number) = omega arith
base_few (Var number) = omega arith

stmt_few : (stmt : Stmt) → length (operand_numbers stmt) ≤ 2
stmt_few (Copy to from) = let few = base_few from in omega (arith, few)
stmt_few (Compute to op left right) =
    let size = length-append (base_numbers left) (base_numbers right) in
    let one = base_few left in
    let two = base_few right in omega (arith, size, one, two)
stmt_few (Write to from) = let few = base_few from in omega (arith, few)
stmt_few (Call to callee arg) = let few = base_few arg in omega (arith, few)
stmt_few (If condition taken other) = let few = base_few condition in omega (arith, few)
stmt_few (Return value) = let few = base_few value in omega (arith, few)
stmt_few _ = omega arith

body_few : (body : List Stmt) → length (flat_map operand_numbers body) ≤ 2 * length body
body_few [] = omega arith
body_few (stmt ∷ body) =
    let size = length-append (operand_numbers stmt) (flat_map operand_numbers body) in
    let here = stmt_few stmt in
    let rest = body_few body in omega (arith, size, here, rest)

pub small_domain : (proc : Proc) → ProcPassed proc → IsSmall (domain_of proc)
small_domain proc passed =
    let few = rising_few (pos 0 ∷ pos 1 ∷ flat_map operand_numbers proc.body) in
    let rest = body_few proc.body in
    let short = passed.body in
    record { vars = passed.vars; constants = omega (arith, few, rest, short) }
