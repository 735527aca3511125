-- What the operators make of two values.
use Rattle.std.specs.Prelude.{ℤ, pos, ◌+ℤ◌, ◌-ℤ◌, ◌*ℤ◌, Bool, true, false, int_lt, if◌then◌else◌, Option, Some, None, unwrap_or}
use Rattle.std.specs.Int.{int_wrap}
use Rattle.std.specs.Ordering.{int_eq}
use mir.Syntax.{w64}
use Rattle.rh_il.specs.declared.value.Value.{Value}
use Rattle.rh_il.specs.declared.value.Value.TheVariants.{Num, Ptr}
use Rattle.rh_il.specs.declared.value.Op.{Op}
use Rattle.rh_il.specs.declared.value.Op.TheVariants.{Add, Sub, Mul, Less, Equal}
use Rattle.rh_il.specs.Value.{value_eq}

-- 1 for yes and 0 for no
abbrev pub truth : Bool → ℤ
truth is_so = if is_so then pos 1 else pos 0

-- of two numbers: sums, differences and products wrap at 64 bits in two's complement
abbrev pub number_of : Op → ℤ → ℤ → ℤ
number_of Add a b = int_wrap w64 (a +ℤ b)
number_of Sub a b = int_wrap w64 (a -ℤ b)
number_of Mul a b = int_wrap w64 (a *ℤ b)
number_of Less a b = truth (int_lt a b)
number_of Equal a b = truth (int_eq a b)

-- of two values; there is none where an operator other than `==` gets a pointer
abbrev pub apply : Op → Value → Value → Option Value
apply Equal a b = Some (Num (truth (value_eq a b)))
apply op (Num a) (Num b) = Some (Num (number_of op a b))
apply op (Num a) (Ptr b) = None
apply op (Ptr a) b = None

-- the same, and 0 where there is none
abbrev pub total : Op → Value → Value → Value
total op a b = unwrap_or (apply op a b) (Num (pos 0))

-- the two are one operator
abbrev pub op_eq : Op → Op → Bool
op_eq Add Add = true
op_eq Sub Sub = true
op_eq Mul Mul = true
op_eq Less Less = true
op_eq Equal Equal = true
op_eq _ _ = false
