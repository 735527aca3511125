-- The signs of operators.
use Rattle.std.specs.Prelude.{ℕ, List, codes}
use Rattle.rh_il.specs.declared.value.Op.{Op}
use Rattle.rh_il.specs.declared.value.Op.TheVariants.{Add, Sub, Mul, Less, Equal}

abbrev pub op_text : Op → List ℕ
op_text Add = codes "+"
op_text Sub = codes "-"
op_text Mul = codes "*"
op_text Less = codes "<"
op_text Equal = codes "=="
