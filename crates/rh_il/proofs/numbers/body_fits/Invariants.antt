use Rattle.std.specs.List.{AllByRecursion}
use Rattle.rh_il.specs.Value.{IsNumber}
use Rattle.rh_il.specs.Numbers.{operand_numbers}
use Rattle.rh_list.specs.Each.{EachBefore}
use Rattle.rh_il.proofs.numbers.body_fits.Given as goal

abbrev pub invariant-loop-stmt : goal.invariant-loop-stmt
invariant-loop-stmt l = EachBefore (λ stmt. AllByRecursion IsNumber (operand_numbers stmt)) l.body l.stmt-index
