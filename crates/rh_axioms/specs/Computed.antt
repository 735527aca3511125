-- The instances of the computed operators, by the numbers of the list that an operator makes of two others.
use Rattle.std.specs.Prelude.{◌≡◌, ℕ, Bool, false, List, [], ◌∷◌, IsTrue}
use Rattle.std.specs.List.{flat_map, list_any}
use Rattle.std.specs.Option.{option_map_or}
use Rattle.rh_il.specs.Op.{op_eq}
use Rattle.rh_il.specs.declared.value.Op.{Op as Operator}
use Rattle.rh_term.specs.declared.term.Term.{Term}
use Rattle.rh_term.specs.declared.term.Term.TheVariants.{Num}
use Rattle.rh_term.specs.declared.computed.Operation.{Operation}
use Rattle.rh_term.specs.declared.computed.Triple.{Triple}
use Rattle.rh_term.specs.declared.computed.Triples.{Triples}
use Rattle.rh_term.specs.Computed.{triples_in}
use Rattle.rh_term.specs.Place.{place_in}
use Rattle.rh_axioms.specs.declared.computed.Number.{Number}
use Rattle.rh_axioms.specs.Parts.{as_num, as_op}
use Rattle.rh_axioms.specs.Rows.{each, of_some, result_of}

-- the number, where the term is one
abbrev pub number_at : ℕ → Term → List Number
number_at place term = of_some (as_num term) (λ value. record { place = place; value = value } ∷ [])

-- the numbers of a list
abbrev pub numbers_of : List Term → List Number
numbers_of terms = each terms number_at

-- two numbers and what the operator makes of them, where that is in the list
abbrev pub triple_of : List Term → Operator → Number → Number → List Triple
triple_of terms op left right =
    of_some (place_in terms (Num (result_of op left.value right.value)))
    (λ outcome. record { left = left.place; right = right.place; outcome = outcome } ∷ [])

abbrev pub triples_with : List Term → List Number → Operator → Number → List Triple
triples_with terms numbers op left = flat_map (triple_of terms op left) numbers

abbrev pub triples_of : List Term → List Number → Operator → List Triple
triples_of terms numbers op = flat_map (triples_with terms numbers op) numbers

-- the term is of this operator
abbrev pub has_operator : Operator → Term → Bool
has_operator op term = option_map_or (λ parts. op_eq parts.0 op) (as_op term) false

-- the triples of each operator that a term has
abbrev pub HasTriples : List Term → Triples → Type 0
HasTriples terms triples =
    (op : Operator) → IsTrue (list_any (has_operator op) terms) → triples_in triples op ≡ triples_of terms (numbers_of terms) op

-- the operation, where the term is one
abbrev pub operation_at : ℕ → Term → List Operation
operation_at place term =
    of_some (as_op term) (λ parts. record { place = place; op = parts.0; left = parts.1; right = parts.2 } ∷ [])

-- the operations of a list
abbrev pub operations_of : List Term → List Operation
operations_of terms = each terms operation_at
