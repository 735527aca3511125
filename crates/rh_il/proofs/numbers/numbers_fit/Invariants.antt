use Rattle.rh_il.specs.Numbers.{HasNumbers}
use Rattle.rh_list.specs.Each.{EachBefore}
use Rattle.rh_il.proofs.numbers.numbers_fit.Given as goal

abbrev pub invariant-loop-number : goal.invariant-loop-number
invariant-loop-number l = EachBefore HasNumbers l.program l.number
