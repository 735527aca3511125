-- The constants of a procedure.
use Rattle.std.specs.Prelude.{ℤ, pos, int_lt, Bool, List, [], ◌∷◌, if◌then◌else◌}
use Rattle.std.specs.List.{flat_map, list_any}
use Rattle.std.specs.Ordering.{int_eq}
use Rattle.rh_il.specs.declared.program.Proc.{Proc}
use Rattle.rh_il.specs.Numbers.{operand_numbers}

-- a rising list, with the number in its place
abbrev pub with_number : ℤ → List ℤ → List ℤ
with_number x [] = x ∷ []
with_number x (y ∷ ys) = if int_eq x y then y ∷ ys else (if int_lt x y then x ∷ y ∷ ys else y ∷ with_number x ys)

-- the numbers of a list, rising, each once
abbrev pub rising : List ℤ → List ℤ
rising [] = []
rising (x ∷ xs) = with_number x (rising xs)

-- 0, 1 and the operands of the statements, rising
abbrev pub constants_of : Proc → List ℤ
constants_of proc = rising (pos 0 ∷ pos 1 ∷ flat_map operand_numbers proc.body)

abbrev pub is_constant : Proc → ℤ → Bool
is_constant proc number = list_any (int_eq number) (constants_of proc)
