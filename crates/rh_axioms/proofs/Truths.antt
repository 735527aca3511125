-- The instances of a schema are true in every model.
use Rattle.std.proofs.Common.{◌≡◌, ◌≢◌, ℕ, Bool, true, false, List, Option, Some, None, take, slice_get, refl, ap, sym, subst, arith, ◌∙◌, ℤ, pos}
use Rattle.std.specs.Prelude.{nat_lt, ◌==◌, if◌then◌else◌}
use Rattle.std.specs.Option.{option_and_then}
use Rattle.std.proofs.lemmas.Bool.{both_ways, eqb-true, false_from_ne_true, ltb-true}
use Rattle.rh_il.specs.Op.{total}
use Rattle.rh_il.specs.Value.{IsValue, value_eq}
use Rattle.rh_il.specs.declared.value.Op.{Op as Operator}
use Rattle.rh_il.specs.declared.value.Op.TheVariants.{Add, Sub, Mul, Less, Equal}
use Rattle.rh_il.specs.declared.value.Value.{Value}
use Rattle.rh_il.specs.declared.value.Value.TheVariants.{Num as ANumber}
use Rattle.rh_term.specs.declared.clause.Clause.{Clause}
use Rattle.rh_term.specs.declared.term.Term.{Term}
use Rattle.rh_term.specs.declared.term.Term.TheVariants.{Num, Cst, Addr, Sel, Upd, Op, Kind, IsNum, IsPtr, Una, Yes}
use Rattle.rh_term.specs.Clause.{Sameness, is_true_clause}
use Rattle.rh_term.specs.Model.{Model, IsModel, Denotation, AValue, AKind, is_number, value_of, store_of, value_at, store_at, denotation_at, denotation_in, denotations, same_in}
use Rattle.rh_term.specs.Place.{place_in}
use Rattle.rh_term.specs.Store.{read, select, update, is_unheld}
use Rattle.rh_term.specs.Term.{IsTermList, HasParts}
use Rattle.rh_term.proofs.Alike.{value_of-alike}
use Rattle.rh_term.proofs.Known.{known_at}
use Rattle.rh_term.proofs.Placed.{place_stands}
use Rattle.rh_term.proofs.Stores.{value_eq-true}
use Rattle.rh_axioms.specs.declared.table.Axiom.{Axiom}
use Rattle.rh_axioms.specs.declared.table.Axiom.TheVariants.{A1, A2, A3, A4, A5, A6, A7, A8, A9, A10, A11, A12, A13, A14, A15, A16, A17, A18, A19, A20, A21, A22, A23, A24}
use Rattle.rh_axioms.specs.declared.instance.Instance.{Instance}
use Rattle.rh_axioms.specs.declared.instance.Instance.TheVariants.{One, Two, Three}
use Rattle.rh_axioms.specs.Instance.{equal, differ, clauses_of}
use Rattle.rh_axioms.specs.Parts.{as_num, as_sel, as_upd, as_op, as_kind, as_una, operands}
use Rattle.rh_axioms.specs.Rows.{read_back, read_before, write_nothing_new, number_kind, constant_kind, address_kind, operation_kind, kind_of, kinds_differ, result_of, unit_on_the_right, unit_on_the_left, zero_on_the_right, zero_on_the_left, same_operands, different_operands, commutes, other_order, unheld_after, single, number_pairs, computations, reads_of_unheld, row}
use Rattle.rh_axioms.specs.Laws.{HoldsInModels, TablesHold}
use Rattle.rh_axioms.proofs.Arithmetic.{total_is_number, computes, add_nothing, nothing_plus, take_nothing, by_one, once, by_zero, zero_by, from_itself, equals_itself, equals_no_other, no_less, commuted, select_written, select_other, update_same, unheld_select, still_unheld}
use Rattle.rh_axioms.proofs.Inverse.{num_of, sel_of, upd_of, op_of, kind_of as is_kind, una_of, operands_of}
use Rattle.rh_axioms.proofs.Literals.{one_differs, one_equals, then_equal, else_equal, never_both, both_then_equal, then_else_equal, alike_values, alike_stores, alike_kinds, alike_answers, kinds_alike, answers_alike}
use Rattle.rh_axioms.proofs.Passing.{AllPass, Passes, one_passes, through, of_some_pass, each_pass, flat_map_pass}
use Rattle.rh_axioms.proofs.Sorts.{value_part, store_part, value_at_in_range}
use Rattle.rh_axioms.proofs.Standing.{parts_at, written}

module _ (model : Model) (is_model : IsModel model) (terms : List Term) (list : IsTermList terms) where
  abbrev K : List Denotation
  K = denotations model terms

  abbrev D : ℕ → Denotation
  D i = denotation_at K i

  abbrev V : ℕ → Value
  V i = value_at K i

  abbrev S : ℕ → List Value
  S i = store_at K i

  abbrev same : Sameness
  same = same_in model terms

  abbrev truth : Clause → Bool
  truth = is_true_clause same

  stands : (i : ℕ) (t u : Term) → slice_get terms i ≡ Some t → t ≡ u → D i ≡ denotation_in model K u
  stands i t u there e = known_at model terms list i t there ∙ ap (denotation_in model K) e

  found : (t : Term) (p : ℕ) → place_in terms t ≡ Some p → D p ≡ denotation_in model K t
  found t p e = known_at model terms list p t (place_stands terms t p e)

  -- one value, where two terms are one
  one_value : (i j : ℕ) → same i j ≡ true → V i ≡ V j
  one_value i j h = value_of-alike (D i) (D j) h

  -- two values, where they are not
  two_values : (i j : ℕ) → D i ≡ AValue (V i) → D j ≡ AValue (V j) → same i j ≡ false → V i ≢ V j
  two_values i j f g h e = both_ways (same i j) h (alike_values (D i) (D j) (V i) (V j) f g e)

  module _ (place : ℕ) (term : Term) (there : slice_get terms place ≡ Some term) where
    read_back_true : Passes truth (read_back terms place term)
    read_back_true =
        through truth (as_sel term) _ (λ read e.
        through truth (option_and_then as_upd (slice_get terms read.0)) _ (λ write f.
        through truth (place_in terms (Kind write.1)) _ (λ kind g.
        through truth (place_in terms IsPtr) _ (λ is_ptr h.
        let w = written terms read.0 write (slice_get terms read.0) refl f in
        let inner = parts_at terms list read.0 (Upd write.0 write.1 write.2) (Upd write.0 write.1 write.2) w.there refl in
        let store : S read.0 ≡ update (S write.0) (V write.1) (V write.2) = ap store_of (known_at model terms list read.0 (Upd write.0 write.1 write.2) w.there) in
        one_passes truth (Three (differ write.1 read.1) (differ kind is_ptr) (equal place write.2))
        (both_then_equal (same write.1 read.1) (same kind is_ptr) (same place write.2) (λ at pointer.
        let is_pointer : is_number (V write.1) ≡ false
        = kinds_alike (D kind) (D is_ptr) (is_number (V write.1)) false (found (Kind write.1) kind g) (found IsPtr is_ptr h) pointer in
        alike_values (D place) (D write.2) (select (S read.0) (V read.1)) (V write.2)
        (stands place term (Sel read.0 read.1) there (sel_of term read e))
        (value_part model terms list read.0 write.2 inner.2)
        (ap (λ s. select s (V read.1)) store ∙ ap (select (update (S write.0) (V write.1) (V write.2))) (sym (one_value write.1 read.1 at))
        ∙ select_written (S write.0) (V write.1) (V write.2) is_pointer)))))))

    read_before_true : Passes truth (read_before terms place term)
    read_before_true =
        through truth (as_sel term) _ (λ read e.
        through truth (option_and_then as_upd (slice_get terms read.0)) _ (λ write f.
        through truth (place_in terms (Sel write.0 read.1)) _ (λ before g.
        let parts = parts_at terms list place term (Sel read.0 read.1) there (sel_of term read e) in
        let w = written terms read.0 write (slice_get terms read.0) refl f in
        let inner = parts_at terms list read.0 (Upd write.0 write.1 write.2) (Upd write.0 write.1 write.2) w.there refl in
        let store : S read.0 ≡ update (S write.0) (V write.1) (V write.2) = ap store_of (known_at model terms list read.0 (Upd write.0 write.1 write.2) w.there) in
        one_passes truth (Two (equal write.1 read.1) (equal place before))
        (else_equal (same write.1 read.1) (same place before) (λ apart.
        alike_values (D place) (D before) (select (S read.0) (V read.1)) (select (S write.0) (V read.1))
        (stands place term (Sel read.0 read.1) there (sel_of term read e))
        (found (Sel write.0 read.1) before g)
        (ap (λ s. select s (V read.1)) store
        ∙ select_other (S write.0) (V write.1) (V write.2) (V read.1)
        (two_values write.1 read.1 (value_part model terms list read.0 write.1 inner.1) (value_part model terms list place read.1 parts.1) apart)))))))

    write_nothing_new_true : Passes truth (write_nothing_new terms place term)
    write_nothing_new_true =
        through truth (as_upd term) _ (λ write e.
        through truth (place_in terms (Sel write.0 write.1)) _ (λ held f.
        let parts = parts_at terms list place term (Upd write.0 write.1 write.2) there (upd_of term write e) in
        one_passes truth (Two (differ write.2 held) (equal place write.0))
        (then_equal (same write.2 held) (same place write.0) (λ equal'.
        let holds : V write.2 ≡ select (S write.0) (V write.1) = one_value write.2 held equal' ∙ ap value_of (found (Sel write.0 write.1) held f) in
        alike_stores (D place) (D write.0) (update (S write.0) (V write.1) (V write.2)) (S write.0)
        (stands place term (Upd write.0 write.1 write.2) there (upd_of term write e))
        (store_part model terms list place write.0 parts.0)
        (λ l. ap (λ v. read (update (S write.0) (V write.1) v) l) holds ∙ update_same (S write.0) (V write.1) l)))))

    -- a schema of kinds is right about the kind of the terms that it knows
    abbrev IsRight : (Term → Option Term) → Type 0
    IsRight kind = (t sort : Term) → kind t ≡ Some sort → denotation_in model K sort ≡ AKind (is_number (value_of (denotation_in model K t)))

    kind_true : (kind : Term → Option Term) → IsRight kind → Passes truth (kind_of kind terms place term)
    kind_true kind right =
        through truth (as_kind term) _ (λ value e.
        through truth (option_and_then kind (slice_get terms value)) _ (λ sort f.
        through truth (place_in terms sort) _ (λ is g.
        one_passes truth (One (equal place is))
        (one_equals (same place is)
        (alike_kinds (D place) (D is) (is_number (V value)) (is_number (V value))
        (stands place term (Kind value) there (is_kind term value e))
        (found sort is g ∙ its_kind value sort (slice_get terms value) refl f) refl)))))
      where
        its_kind : (value : ℕ) (sort : Term) (at : Option Term) → slice_get terms value ≡ at → option_and_then kind at ≡ Some sort
            → denotation_in model K sort ≡ AKind (is_number (V value))
        its_kind value sort None at f = cc
        its_kind value sort (Some t) at f =
            right t sort f ∙ ap (λ d. AKind (is_number (value_of d))) (sym (known_at model terms list value t at))

    number_right : IsRight number_kind
    number_right (Num n) sort e = let f : IsNum ≡ sort = cc in subst (λ s. denotation_in model K s ≡ AKind true) f refl
    number_right _ sort e = cc

    constant_right : IsRight constant_kind
    constant_right (Cst m) sort e = let f : IsNum ≡ sort = cc in subst (λ s. denotation_in model K s ≡ AKind true) f refl
    constant_right _ sort e = cc

    address_right : IsRight address_kind
    address_right (Addr m) sort e = let f : IsPtr ≡ sort = cc in subst (λ s. denotation_in model K s ≡ AKind false) f refl
    address_right _ sort e = cc

    operation_right : IsRight operation_kind
    operation_right (Op o a b) sort e =
        let f : IsNum ≡ sort = cc in
        subst (λ s. denotation_in model K s ≡ AKind (is_number (total o (V a) (V b)))) f (ap AKind (sym (total_is_number o (V a) (V b))))
    operation_right _ sort e = cc

    -- ---- operations

    module _ (op : Operator) (parts : ℕ × ℕ) (e : operands op term ≡ Some parts) where
      its_parts : HasParts (take place terms) (Op op parts.0 parts.1)
      its_parts = parts_at terms list place term (Op op parts.0 parts.1) there (operands_of op term parts e)

      left_value : D parts.0 ≡ AValue (V parts.0)
      left_value = value_part model terms list place parts.0 its_parts.0

      right_value : D parts.1 ≡ AValue (V parts.1)
      right_value = value_part model terms list place parts.1 its_parts.1

      outcome : D place ≡ AValue (total op (V parts.0) (V parts.1))
      outcome = stands place term (Op op parts.0 parts.1) there (operands_of op term parts e)

    -- the value of a term that is one with a number
    is_the_number : (i p : ℕ) (n : ℤ) → place_in terms (Num n) ≡ Some p → same i p ≡ true → V i ≡ ANumber n
    is_the_number i p n f h = one_value i p h ∙ ap value_of (found (Num n) p f)

    is_a_number : (i kind is_num : ℕ) → place_in terms (Kind i) ≡ Some kind → place_in terms IsNum ≡ Some is_num → same kind is_num ≡ true → is_number (V i) ≡ true
    is_a_number i kind is_num g h k = kinds_alike (D kind) (D is_num) (is_number (V i)) true (found (Kind i) kind g) (found IsNum is_num h) k

    unit_right_true : (op : Operator) (unit : ℤ) → ((v : Value) → IsValue v → is_number v ≡ true → total op v (ANumber unit) ≡ v)
        → Passes truth (unit_on_the_right op unit terms place term)
    unit_right_true op unit law =
        through truth (operands op term) _ (λ parts e.
        through truth (place_in terms (Num unit)) _ (λ number f.
        through truth (place_in terms (Kind parts.0)) _ (λ kind g.
        through truth (place_in terms IsNum) _ (λ is_num h.
        one_passes truth (Three (differ parts.1 number) (differ kind is_num) (equal place parts.0))
        (both_then_equal (same parts.1 number) (same kind is_num) (same place parts.0) (λ at sort.
        alike_values (D place) (D parts.0) (total op (V parts.0) (V parts.1)) (V parts.0) (outcome op parts e) (left_value op parts e)
        (ap (total op (V parts.0)) (is_the_number parts.1 number unit f at)
        ∙ law (V parts.0) (value_at_in_range model is_model terms list parts.0) (is_a_number parts.0 kind is_num g h sort))))))))

    unit_left_true : (op : Operator) (unit : ℤ) → ((v : Value) → IsValue v → is_number v ≡ true → total op (ANumber unit) v ≡ v)
        → Passes truth (unit_on_the_left op unit terms place term)
    unit_left_true op unit law =
        through truth (operands op term) _ (λ parts e.
        through truth (place_in terms (Num unit)) _ (λ number f.
        through truth (place_in terms (Kind parts.1)) _ (λ kind g.
        through truth (place_in terms IsNum) _ (λ is_num h.
        one_passes truth (Three (differ parts.0 number) (differ kind is_num) (equal place parts.1))
        (both_then_equal (same parts.0 number) (same kind is_num) (same place parts.1) (λ at sort.
        alike_values (D place) (D parts.1) (total op (V parts.0) (V parts.1)) (V parts.1) (outcome op parts e) (right_value op parts e)
        (ap (λ v. total op v (V parts.1)) (is_the_number parts.0 number unit f at)
        ∙ law (V parts.1) (value_at_in_range model is_model terms list parts.1) (is_a_number parts.1 kind is_num g h sort))))))))

    zero_right_true : Passes truth (zero_on_the_right terms place term)
    zero_right_true =
        through truth (operands Mul term) _ (λ parts e.
        through truth (place_in terms (Num (pos 0))) _ (λ zero' f.
        one_passes truth (Two (differ parts.1 zero') (equal place zero'))
        (then_equal (same parts.1 zero') (same place zero') (λ at.
        alike_values (D place) (D zero') (total Mul (V parts.0) (V parts.1)) (ANumber (pos 0)) (outcome Mul parts e) (found (Num (pos 0)) zero' f)
        (ap (total Mul (V parts.0)) (is_the_number parts.1 zero' (pos 0) f at) ∙ by_zero (V parts.0))))))

    zero_left_true : Passes truth (zero_on_the_left terms place term)
    zero_left_true =
        through truth (operands Mul term) _ (λ parts e.
        through truth (place_in terms (Num (pos 0))) _ (λ zero' f.
        one_passes truth (Two (differ parts.0 zero') (equal place zero'))
        (then_equal (same parts.0 zero') (same place zero') (λ at.
        alike_values (D place) (D zero') (total Mul (V parts.0) (V parts.1)) (ANumber (pos 0)) (outcome Mul parts e) (found (Num (pos 0)) zero' f)
        (ap (λ v. total Mul v (V parts.1)) (is_the_number parts.0 zero' (pos 0) f at) ∙ zero_by (V parts.1))))))

    same_operands_true : (op : Operator) (n : ℤ) → ((v : Value) → total op v v ≡ ANumber n) → Passes truth (same_operands op n terms place term)
    same_operands_true op n law =
        through truth (operands op term) _ (λ parts e.
        through truth (place_in terms (Num n)) _ (λ number f.
        one_passes truth (Two (differ parts.0 parts.1) (equal place number))
        (then_equal (same parts.0 parts.1) (same place number) (λ at.
        alike_values (D place) (D number) (total op (V parts.0) (V parts.1)) (ANumber n) (outcome op parts e) (found (Num n) number f)
        (ap (λ v. total op v (V parts.1)) (one_value parts.0 parts.1 at) ∙ law (V parts.1))))))

    different_operands_true : Passes truth (different_operands terms place term)
    different_operands_true =
        through truth (operands Equal term) _ (λ parts e.
        through truth (place_in terms (Num (pos 0))) _ (λ zero' f.
        one_passes truth (Two (equal parts.0 parts.1) (equal place zero'))
        (else_equal (same parts.0 parts.1) (same place zero') (λ apart.
        alike_values (D place) (D zero') (total Equal (V parts.0) (V parts.1)) (ANumber (pos 0)) (outcome Equal parts e) (found (Num (pos 0)) zero' f)
        (equals_no_other (V parts.0) (V parts.1)
        (false_from_ne_true (value_eq (V parts.0) (V parts.1)) (λ t.
        two_values parts.0 parts.1 (left_value Equal parts e) (right_value Equal parts e) apart (value_eq-true (V parts.0) (V parts.1) t))))))))

    either_true : (b : Bool) (yes' : Option Instance) → (b ≡ true → Passes truth yes') → Passes truth (if b then yes' else None)
    either_true true yes' h = h refl
    either_true false yes' h = refl

    other_order_true : Passes truth (other_order terms place term)
    other_order_true =
        through truth (as_op term) _ (λ parts e.
        either_true (commutes parts.0) _ (λ commuting.
        through truth (place_in terms (Op parts.0 parts.2 parts.1)) _ (λ later f.
        either_true (nat_lt place later) (Some (One (equal place later))) (λ after.
        one_passes truth (One (equal place later))
        (one_equals (same place later)
        (alike_values (D place) (D later) (total parts.0 (V parts.1) (V parts.2)) (total parts.0 (V parts.2) (V parts.1))
        (stands place term (Op parts.0 parts.1 parts.2) there (op_of term parts e)) (found (Op parts.0 parts.2 parts.1) later f)
        (commuted parts.0 (V parts.1) (V parts.2) commuting)))))))

    -- ---- what no cell holds

    unheld_after_true : Passes truth (unheld_after terms place term)
    unheld_after_true =
        through truth (as_una term) _ (λ unheld e.
        through truth (option_and_then as_upd (slice_get terms unheld.0)) _ (λ write f.
        through truth (place_in terms (Una write.0 unheld.1)) _ (λ before g.
        through truth (place_in terms Yes) _ (λ yes' h.
        let parts = parts_at terms list place term (Una unheld.0 unheld.1) there (una_of term unheld e) in
        let w = written terms unheld.0 write (slice_get terms unheld.0) refl f in
        let inner = parts_at terms list unheld.0 (Upd write.0 write.1 write.2) (Upd write.0 write.1 write.2) w.there refl in
        let store : S unheld.0 ≡ update (S write.0) (V write.1) (V write.2) = ap store_of (known_at model terms list unheld.0 (Upd write.0 write.1 write.2) w.there) in
        one_passes truth (Three (differ before yes') (equal write.2 unheld.1) (equal place yes'))
        (then_else_equal (same before yes') (same write.2 unheld.1) (same place yes') (λ was apart.
        let unheld_before : is_unheld (S write.0) (V unheld.1) ≡ true
        = answers_alike (D before) (D yes') (is_unheld (S write.0) (V unheld.1)) true (found (Una write.0 unheld.1) before g) (found Yes yes' h) was in
        let other : V write.2 ≢ V unheld.1
        = two_values write.2 unheld.1 (value_part model terms list unheld.0 write.2 inner.2) (value_part model terms list place unheld.1 parts.1) apart in
        alike_answers (D place) (D yes') (is_unheld (S unheld.0) (V unheld.1)) true
        (stands place term (Una unheld.0 unheld.1) there (una_of term unheld e)) (found Yes yes' h)
        (ap (λ s. is_unheld s (V unheld.1)) store ∙ still_unheld (S write.0) (V write.1) (V write.2) (V unheld.1) unheld_before other)))))))

    single_true : (schema : Axiom) → Passes truth (single schema terms place term)
    single_true A1 = read_back_true
    single_true A2 = read_before_true
    single_true A3 = write_nothing_new_true
    single_true A4 = kind_true number_kind number_right
    single_true A5 = kind_true constant_kind constant_right
    single_true A6 = kind_true address_kind address_right
    single_true A7 = kind_true operation_kind operation_right
    single_true A8 = refl
    single_true A9 = refl
    single_true A10 = refl
    single_true A11 = unit_right_true Add (pos 0) add_nothing
    single_true A12 = unit_left_true Add (pos 0) nothing_plus
    single_true A13 = unit_right_true Sub (pos 0) take_nothing
    single_true A14 = same_operands_true Sub (pos 0) from_itself
    single_true A15 = unit_right_true Mul (pos 1) by_one
    single_true A16 = unit_left_true Mul (pos 1) once
    single_true A17 = zero_right_true
    single_true A18 = zero_left_true
    single_true A19 = same_operands_true Equal (pos 1) equals_itself
    single_true A20 = different_operands_true
    single_true A21 = same_operands_true Less (pos 0) no_less
    single_true A22 = other_order_true
    single_true A23 = refl
    single_true A24 = unheld_after_true

    -- ---- two terms and three

    number_pairs_true : AllPass truth (number_pairs terms place term)
    number_pairs_true =
        of_some_pass truth (as_num term) _ (λ c e.
        each_pass truth terms _ (λ later other at.
        through truth (as_num other) _ (λ d f.
        either_true (nat_lt place later) (Some (One (differ place later))) (λ after.
        one_passes truth (One (differ place later))
        (one_differs (same place later) (false_from_ne_true (same place later) (λ t.
        let values : ANumber c ≡ ANumber d
        = sym (ap value_of (stands place term (Num c) there (num_of term c e))) ∙ one_value place later t ∙ ap value_of (stands later other (Num d) at (num_of other d f)) in
        let numbers : c ≡ d = cc in
        let terms' : term ≡ other = num_of term c e ∙ ap Num numbers ∙ sym (num_of other d f) in
        let places : place ≡ later = list.different place later other (there ∙ ap Some terms') at in
        absurd (omega (arith, places, ltb-true place later after)))))))))

    reads_true : AllPass truth (reads_of_unheld terms place term)
    reads_true =
        of_some_pass truth (as_una term) _ (λ unheld e.
        each_pass truth terms _ (λ at other there'.
        of_some_pass truth (as_sel other) _ (λ read f.
        either_true (read.0 == unheld.0) _ (λ one_store.
        through truth (place_in terms Yes) _ (λ yes' g.
        one_passes truth (Two (differ place yes') (differ at unheld.1))
        (never_both (same place yes') (same at unheld.1) (λ was held.
        let store : S read.0 ≡ S unheld.0 = ap S (eqb-true read.0 unheld.0 one_store) in
        unheld_select (S unheld.0) (V unheld.1) (V read.1)
        (answers_alike (D place) (D yes') (is_unheld (S unheld.0) (V unheld.1)) true
        (stands place term (Una unheld.0 unheld.1) there (una_of term unheld e)) (found Yes yes' g) was)
        (sym (ap (λ s. select s (V read.1)) store) ∙ sym (ap value_of (stands at other (Sel read.0 read.1) there' (sel_of other read f)))
        ∙ one_value at unheld.1 held))))))))

    computations_true : AllPass truth (computations terms place term)
    computations_true =
        of_some_pass truth (as_op term) _ (λ operation e.
        each_pass truth terms _ (λ left number in_left.
        of_some_pass truth (as_num number) _ (λ c f.
        each_pass truth terms _ (λ right other in_right.
        through truth (as_num other) _ (λ d g.
        through truth (place_in terms (Num (result_of operation.0 c d))) _ (λ outcome' h.
        one_passes truth (Three (differ operation.1 left) (differ operation.2 right) (equal place outcome'))
        (both_then_equal (same operation.1 left) (same operation.2 right) (same place outcome') (λ at_left at_right.
        let first : V operation.1 ≡ ANumber c = one_value operation.1 left at_left ∙ ap value_of (stands left number (Num c) in_left (num_of number c f)) in
        let second : V operation.2 ≡ ANumber d = one_value operation.2 right at_right ∙ ap value_of (stands right other (Num d) in_right (num_of other d g)) in
        alike_values (D place) (D outcome') (total operation.0 (V operation.1) (V operation.2)) (ANumber (result_of operation.0 c d))
        (stands place term (Op operation.0 operation.1 operation.2) there (op_of term operation e)) (found (Num (result_of operation.0 c d)) outcome' h)
        (ap (λ v. total operation.0 v (V operation.2)) first ∙ ap (total operation.0 (ANumber c)) second ∙ sym (computes operation.0 c d))))))))))

  kinds_true : Passes truth (kinds_differ terms)
  kinds_true =
      through truth (place_in terms IsNum) _ (λ is_num e.
      through truth (place_in terms IsPtr) _ (λ is_ptr f.
      one_passes truth (One (differ is_num is_ptr))
      (one_differs (same is_num is_ptr) (false_from_ne_true (same is_num is_ptr) (λ t.
      let equal' : true ≡ false = kinds_alike (D is_num) (D is_ptr) true false (found IsNum is_num e) (found IsPtr is_ptr f) t in cc)))))

  row_true : (schema : Axiom) → AllPass truth (row terms schema)
  row_true A8 = kinds_true
  row_true A9 = each_pass truth terms (number_pairs terms) number_pairs_true
  row_true A10 = each_pass truth terms (computations terms) computations_true
  row_true A23 = each_pass truth terms (reads_of_unheld terms) reads_true
  row_true schema = each_pass truth terms (λ place term. clauses_of (single schema terms place term)) (λ place term there. single_true place term there schema)

pub schema_holds : (schema : Axiom) → HoldsInModels schema
schema_holds schema model terms is_model list = row_true model is_model terms list schema

pub tables_hold : TablesHold
tables_hold schemas model terms is_model list = flat_map_pass (is_true_clause (same_in model terms)) (row terms) schemas (row_true model is_model terms list)
