-- The instances by triples are those of the computed operators.
use Rattle.std.proofs.Common.{◌≡◌, ℕ, zero, suc, ◌+◌, Bool, true, false, ◌||◌, ℤ, List, [], ◌∷◌, ◌++◌, Option, Some, None, map, slice_get, refl, ap, sym, subst, arith, ◌∙◌}
use Rattle.std.specs.List.{flat_map, list_any}
use Rattle.std.specs.Option.{option_and_then, option_map_or}
use Rattle.std.proofs.lemmas.Grind.{flat_map-append}
use Rattle.std.proofs.lemmas.List.{append-nil, map-append}
use Rattle.rh_il.specs.Op.{op_eq}
use Rattle.rh_il.specs.declared.value.Op.{Op as Operator}
use Rattle.rh_il.proofs.Operators.{op_eq-refl}
use Rattle.rh_term.specs.declared.clause.Clause.{Clause}
use Rattle.rh_term.specs.declared.term.Term.{Term}
use Rattle.rh_term.specs.declared.term.Term.TheVariants.{Num}
use Rattle.rh_term.specs.declared.computed.Operation.{Operation}
use Rattle.rh_term.specs.declared.computed.Triples.{Triples}
use Rattle.rh_term.specs.Computed.{clause_with, operation_clauses}
use Rattle.rh_term.specs.Place.{place_in}
use Rattle.rh_axioms.specs.declared.computed.Number.{Number}
use Rattle.rh_axioms.specs.declared.instance.Instance.{Instance}
use Rattle.rh_axioms.specs.declared.instance.Instance.TheVariants.{Three}
use Rattle.rh_axioms.specs.Computed.{number_at, numbers_of, triple_of, triples_with, triples_of, operation_at, operations_of, has_operator, HasTriples}
use Rattle.rh_axioms.specs.Instance.{differ, equal, clauses_of}
use Rattle.rh_axioms.specs.Parts.{as_num, as_op}
use Rattle.rh_axioms.specs.Rows.{each_from, each, of_some, where_is, result_of, computed, computed_with, computations}

-- the same is made of a list, where the same is made of each of its terms
each_from_same : {X : Type 0} (terms : List Term) (at : ℕ) (f g : ℕ → Term → List X)
    → ((i : ℕ) (term : Term) → slice_get terms i ≡ Some term → f (at + i) term ≡ g (at + i) term) → each_from at terms f ≡ each_from at terms g
each_from_same [] at f g same = refl
each_from_same (term ∷ terms) at f g same =
    let first : f at term ≡ g at term = subst (λ place. f place term ≡ g place term) (let e : at + 0 ≡ at = omega arith in e) (same 0 term refl) in
    let others : each_from (at + 1) terms f ≡ each_from (at + 1) terms g
    = each_from_same terms (at + 1) f g (λ i other there.
    subst (λ place. f place other ≡ g place other) (let e : at + suc i ≡ at + 1 + i = omega arith in e) (same (suc i) other there)) in
    λ i. first i ++ others i

each_same : {X : Type 0} (terms : List Term) (f g : ℕ → Term → List X)
    → ((i : ℕ) (term : Term) → slice_get terms i ≡ Some term → f i term ≡ g i term) → each terms f ≡ each terms g
each_same terms f g same =
    each_from_same terms 0 f g (λ i term there. subst (λ place. f place term ≡ g place term) (let e : i ≡ 0 + i = omega arith in e) (same i term there))

-- to go over the numbers of a list is to go over its terms
number_first : {X : Type 0} (found : Option ℤ) (at : ℕ) (f : ℕ → ℤ → List X) (made : List X) (numbers : List Number)
    → made ≡ flat_map (λ (n : Number). f n.place n.value) numbers
    → of_some found (f at) ++ made
    ≡ flat_map (λ (n : Number). f n.place n.value) (of_some found (λ value. record { place = at; value = value } ∷ []) ++ numbers)
number_first None at f made numbers e = e
number_first (Some value) at f made numbers e = ap (λ others. f at value ++ others) e

by_numbers : {X : Type 0} (terms : List Term) (at : ℕ) (f : ℕ → ℤ → List X)
    → each_from at terms (λ place term. of_some (as_num term) (f place)) ≡ flat_map (λ (n : Number). f n.place n.value) (each_from at terms number_at)
by_numbers [] at f = refl
by_numbers (term ∷ terms) at f =
    number_first (as_num term) at f (each_from (at + 1) terms (λ place other. of_some (as_num other) (f place))) (each_from (at + 1) terms number_at)
    (by_numbers terms (at + 1) f)

map_flat : {A B C : Type 0} (g : B → C) (h : A → List B) (k : A → List C) → ((a : A) → map g (h a) ≡ k a) → (xs : List A)
    → map g (flat_map h xs) ≡ flat_map k xs
map_flat g h k e [] = refl
map_flat g h k e (x ∷ xs) = let others = map_flat g h k e xs in map-append g (h x) (flat_map h xs) ∙ (λ i. e x i ++ others i)

-- ---- one term of an operator

told : (found : Option ℤ) (make : ℤ → Option Instance) → clauses_of (option_and_then make found) ≡ of_some found (λ value. clauses_of (make value))
told None make = refl
told (Some value) make = refl

module _ (terms : List Term) (operation : Operation) where
  abbrev parts : Operator × ℕ × ℕ
  parts = (operation.op, operation.left, operation.right)

  one_triple : (left right : ℕ) (found : Option ℕ)
      → map (clause_with operation) (of_some found (λ outcome. record { left = left; right = right; outcome = outcome } ∷ []))
      ≡ clauses_of (option_and_then (λ outcome. Some (Three (differ operation.left left) (differ operation.right right) (equal operation.place outcome))) found)
  one_triple left right None = refl
  one_triple left right (Some outcome) = refl

  -- the instances with a left number
  abbrev with_left : ℕ → ℤ → List Clause
  with_left left c = each terms (λ right other. clauses_of (computed terms operation.place parts left c right other))

  -- the instances with two numbers
  abbrev with_both : ℕ → ℤ → ℕ → ℤ → List Clause
  with_both left c right d =
      clauses_of (where_is terms (Num (result_of operation.op c d)) (λ outcome.
      Some (Three (differ operation.left left) (differ operation.right right) (equal operation.place outcome))))

  with_left_is : (left : Number) → map (clause_with operation) (triples_with terms (numbers_of terms) operation.op left) ≡ with_left left.place left.value
  with_left_is left =
      map_flat (clause_with operation) (triple_of terms operation.op left) (λ (right : Number). with_both left.place left.value right.place right.value)
      (λ right. one_triple left.place right.place (place_in terms (Num (result_of operation.op left.value right.value)))) (numbers_of terms)
      ∙ sym (by_numbers terms 0 (with_both left.place left.value))
      ∙ sym (each_same terms (λ right other. clauses_of (computed terms operation.place parts left.place left.value right other))
      (λ right other. of_some (as_num other) (with_both left.place left.value right))
      (λ right other there. told (as_num other) _))

  triples_are : map (clause_with operation) (triples_of terms (numbers_of terms) operation.op) ≡ each terms (computed_with terms operation.place parts)
  triples_are =
      map_flat (clause_with operation) (triples_with terms (numbers_of terms) operation.op) (λ (left : Number). with_left left.place left.value)
      with_left_is (numbers_of terms)
      ∙ sym (by_numbers terms 0 with_left)

-- ---- all terms

or_first : (a b : Bool) → a ≡ true → (a || b) ≡ true
or_first true b e = refl
or_first false b e = cc

or_second : (a b : Bool) → b ≡ true → (a || b) ≡ true
or_second true b e = refl
or_second false b e = e

used : (terms : List Term) (i : ℕ) (term : Term) (op : Operator) → slice_get terms i ≡ Some term → has_operator op term ≡ true
    → list_any (has_operator op) terms ≡ true
used [] i term op e h = cc
used (first ∷ terms) zero term op e h =
    let same : first ≡ term = cc in
    or_first (has_operator op first) (list_any (has_operator op) terms) (ap (has_operator op) same ∙ h)
used (first ∷ terms) (suc i) term op e h = or_second (has_operator op first) (list_any (has_operator op) terms) (used terms i term op e h)

term_is : (terms : List Term) (triples : Triples) → HasTriples terms triples → (place : ℕ) (term : Term) → slice_get terms place ≡ Some term
    → (found : Option (Operator × ℕ × ℕ)) → as_op term ≡ found
    → flat_map (operation_clauses triples) (of_some found (λ parts. record { place = place; op = parts.0; left = parts.1; right = parts.2 } ∷ []))
    ≡ of_some found (λ parts. each terms (computed_with terms place parts))
term_is terms triples has place term there None e = refl
term_is terms triples has place term there (Some parts) e =
    let operation : Operation = record { place = place; op = parts.0; left = parts.1; right = parts.2 } in
    append-nil (operation_clauses triples operation)
    ∙ ap (map (clause_with operation))
    (has parts.0 (used terms place term parts.0 there
    (ap (λ found. option_map_or (λ parts'. op_eq parts'.0 parts.0) found false) e ∙ op_eq-refl parts.0)))
    ∙ triples_are terms operation

flat_each : {X Y : Type 0} (g : X → List Y) (f : ℕ → Term → List X) (terms : List Term) (at : ℕ)
    → flat_map g (each_from at terms f) ≡ each_from at terms (λ place term. flat_map g (f place term))
flat_each g f [] at = refl
flat_each g f (term ∷ terms) at =
    flat_map-append g (f at term) (each_from (at + 1) terms f)
    ∙ ap (λ others. flat_map g (f at term) ++ others) (flat_each g f terms (at + 1))

-- the instances by triples are all of them
pub computations_are : (terms : List Term) (triples : Triples) → HasTriples terms triples
    → flat_map (operation_clauses triples) (operations_of terms) ≡ each terms (computations terms)
computations_are terms triples has =
    flat_each (operation_clauses triples) operation_at terms 0
    ∙ each_same terms (λ place term. flat_map (operation_clauses triples) (operation_at place term)) (computations terms)
    (λ place term there. term_is terms triples has place term there (as_op term) refl)
