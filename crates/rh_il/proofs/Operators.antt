-- Operators that are one.
use Rattle.std.proofs.Common.{◌≡◌, true, refl}
use Rattle.rh_il.specs.declared.value.Op.{Op}
use Rattle.rh_il.specs.declared.value.Op.TheVariants.{Add, Sub, Mul, Less, Equal}
use Rattle.rh_il.specs.Op.{op_eq}

pub op_eq-true : (a b : Op) → op_eq a b ≡ true → a ≡ b
op_eq-true Add Add e = refl
op_eq-true Sub Sub e = refl
op_eq-true Mul Mul e = refl
op_eq-true Less Less e = refl
op_eq-true Equal Equal e = refl
op_eq-true _ _ e = cc

pub op_eq-refl : (a : Op) → op_eq a a ≡ true
op_eq-refl Add = refl
op_eq-refl Sub = refl
op_eq-refl Mul = refl
op_eq-refl Less = refl
op_eq-refl Equal = refl
