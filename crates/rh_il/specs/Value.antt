-- Values: numbers of 64 bits with a sign, and pointers.
use Rattle.std.specs.Prelude.{ℤ, Bool, false, ◌==◌}
use Rattle.std.specs.Ordering.{int_eq}
use Rattle.std.specs.Int.RustNames.{FitsSigned}
use mir.Syntax.{w64}
use Rattle.rh_il.specs.declared.value.Value.{Value}
use Rattle.rh_il.specs.declared.value.Value.TheVariants.{Num, Ptr}

-- the number is one of 64 bits: from -2^63 to 2^63 - 1
abbrev pub IsNumber : ℤ → Type 0
IsNumber number = FitsSigned w64 number

-- the numbers in it are of 64 bits
abbrev pub IsValue : Value → Type 0
IsValue (Num number) = IsNumber number
IsValue (Ptr location) = Unit {0}

-- the two values are one
abbrev pub value_eq : Value → Value → Bool
value_eq (Num a) (Num b) = int_eq a b
value_eq (Ptr a) (Ptr b) = a == b
value_eq (Num a) (Ptr b) = false
value_eq (Ptr a) (Num b) = false
