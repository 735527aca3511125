-- The literals that a clause keeps in itself, or on the heap.
use Rattle.std.specs.Prelude.{List}
use Rattle.rh_term.specs.declared.clause.Lit.{Lit}
use Rattle.rh_term.specs.declared.lits.Inside.{Inside}
use Rattle.rh_term.specs.declared.lits.Inside.TheVariants.{One, Two, Three, Many}

abbrev pub lits_in : Inside → List Lit
lits_in (One lits) = lits
lits_in (Two lits) = lits
lits_in (Three lits) = lits
lits_in (Many lits) = lits.items
