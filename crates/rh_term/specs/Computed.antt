-- The clauses of the computed operators.
use Rattle.std.specs.Prelude.{true, false, List, [], ◌∷◌, map}
use Rattle.std.specs.List.{flat_map}
use Rattle.rh_il.specs.declared.value.Op.{Op as Operator}
use Rattle.rh_il.specs.declared.value.Op.TheVariants.{Add, Sub, Mul, Less, Equal}
use Rattle.rh_term.specs.declared.clause.Clause.{Clause}
use Rattle.rh_term.specs.declared.computed.Computed.{Computed}
use Rattle.rh_term.specs.declared.computed.Operation.{Operation}
use Rattle.rh_term.specs.declared.computed.Triple.{Triple}
use Rattle.rh_term.specs.declared.computed.Triples.{Triples}

abbrev pub triples_in : Triples → Operator → List Triple
triples_in triples Add = triples.add.items
triples_in triples Sub = triples.sub.items
triples_in triples Mul = triples.mul.items
triples_in triples Less = triples.less.items
triples_in triples Equal = triples.equal.items

-- t op u at a place, and three numbers:  t != the first, u != the second, t op u == the third
abbrev pub clause_with : Operation → Triple → Clause
clause_with operation triple = record {
  lits =
      record { left = operation.left; right = triple.left; equal = false }
      ∷ record { left = operation.right; right = triple.right; equal = false }
      ∷ record { left = operation.place; right = triple.outcome; equal = true }
      ∷ [];
}

-- the clauses of one operation
abbrev pub operation_clauses : Triples → Operation → List Clause
operation_clauses triples operation = map (clause_with operation) (triples_in triples operation.op)

abbrev pub computed_clauses : Computed → List Clause
computed_clauses computed = flat_map (operation_clauses computed.triples) computed.operations.items
