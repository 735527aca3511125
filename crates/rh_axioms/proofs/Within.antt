-- The instances are over the list.
use Rattle.std.proofs.Common.{◌≡◌, ℕ, ◌<◌, Bool, true, false, ◌&&◌, List, Option, Some, None, length, slice_get, refl, ℤ, pos}
use Rattle.std.specs.Prelude.{nat_lt, ◌==◌, if◌then◌else◌}
use Rattle.std.specs.List.{list_all}
use Rattle.std.specs.Option.{option_and_then}
use Rattle.std.proofs.lemmas.Bool.{and_from, lt-ltb}
use Rattle.std.proofs.lemmas.Option.{slice_get_within}
use Rattle.rh_il.specs.declared.value.Op.{Op as Operator}
use Rattle.rh_il.specs.declared.value.Op.TheVariants.{Add, Sub, Mul, Less, Equal}
use Rattle.rh_term.specs.declared.clause.Lit.{Lit}
use Rattle.rh_term.specs.declared.clause.Clause.{Clause}
use Rattle.rh_term.specs.declared.term.Term.{Term}
use Rattle.rh_term.specs.declared.term.Term.TheVariants.{Num, Sel, Upd, Op, Kind, IsNum, IsPtr, Una, Yes}
use Rattle.rh_term.specs.Clause.{is_within, are_within}
use Rattle.rh_term.specs.Place.{place_in}
use Rattle.rh_term.specs.Term.{IsTermList}
use Rattle.rh_axioms.specs.declared.table.Axiom.{Axiom}
use Rattle.rh_axioms.specs.declared.table.Axiom.TheVariants.{A1, A2, A3, A4, A5, A6, A7, A8, A9, A10, A11, A12, A13, A14, A15, A16, A17, A18, A19, A20, A21, A22, A23, A24}
use Rattle.rh_axioms.specs.declared.instance.Instance.{Instance}
use Rattle.rh_axioms.specs.declared.instance.Instance.TheVariants.{One, Two, Three}
use Rattle.rh_axioms.specs.Instance.{equal, differ, clauses_of}
use Rattle.rh_axioms.specs.Parts.{as_num, as_sel, as_upd, as_op, as_kind, as_una, operands}
use Rattle.rh_axioms.specs.Rows.{read_back, read_before, write_nothing_new, number_kind, constant_kind, address_kind, operation_kind, kind_of, kinds_differ, result_of, unit_on_the_right, unit_on_the_left, zero_on_the_right, zero_on_the_left, same_operands, different_operands, commutes, other_order, unheld_after, single, number_pairs, computations, reads_of_unheld, row, instances_of}
use Rattle.rh_axioms.proofs.Inverse.{sel_of, upd_of, op_of, una_of, operands_of}
use Rattle.rh_axioms.proofs.Passing.{AllPass, Passes, one_passes, through, of_some_pass, each_pass, flat_map_pass}
use Rattle.rh_axioms.proofs.Standing.{value_there, store_there, parts_at, found_there, written}

module _ (terms : List Term) (list : IsTermList terms) where
  abbrev fits : Clause → Bool
  fits clause = list_all (is_within (length terms)) clause.lits

  lit : (e : Bool) (a b : ℕ) → a < length terms → b < length terms → (nat_lt a (length terms) && nat_lt b (length terms)) ≡ true
  lit e a b h k = and_from (nat_lt a (length terms)) (nat_lt b (length terms)) (lt-ltb a (length terms) h) (lt-ltb b (length terms) k)

  one : (a : Lit) → is_within (length terms) a ≡ true → Passes fits (Some (One a))
  one a h = one_passes fits (One a) (and_from _ _ h refl)

  two : (a b : Lit) → is_within (length terms) a ≡ true → is_within (length terms) b ≡ true → Passes fits (Some (Two a b))
  two a b h k = one_passes fits (Two a b) (and_from _ _ h (and_from _ _ k refl))

  three : (a b c : Lit) → is_within (length terms) a ≡ true → is_within (length terms) b ≡ true → is_within (length terms) c ≡ true → Passes fits (Some (Three a b c))
  three a b c h k l = one_passes fits (Three a b c) (and_from _ _ h (and_from _ _ k (and_from _ _ l refl)))

  module _ (place : ℕ) (term : Term) (there : slice_get terms place ≡ Some term) where
    here : place < length terms
    here = slice_get_within terms place term there

    read_back_fits : Passes fits (read_back terms place term)
    read_back_fits =
        through fits (as_sel term) _ (λ read e.
        through fits (option_and_then as_upd (slice_get terms read.0)) _ (λ write f.
        through fits (place_in terms (Kind write.1)) _ (λ kind g.
        through fits (place_in terms IsPtr) _ (λ is_ptr h.
        let parts = parts_at terms list place term (Sel read.0 read.1) there (sel_of term read e) in
        let w = written terms read.0 write (slice_get terms read.0) refl f in
        let inner = parts_at terms list read.0 (Upd write.0 write.1 write.2) (Upd write.0 write.1 write.2) w.there refl in
        let in_read = value_there terms list place read.1 parts.1 in
        let in_address = value_there terms list read.0 write.1 inner.1 in
        let in_value = value_there terms list read.0 write.2 inner.2 in
        three (differ write.1 read.1) (differ kind is_ptr) (equal place write.2)
        (lit false write.1 read.1 in_address in_read)
        (lit false kind is_ptr (found_there terms list (Kind write.1) kind g) (found_there terms list IsPtr is_ptr h))
        (lit true place write.2 here in_value)))))

    read_before_fits : Passes fits (read_before terms place term)
    read_before_fits =
        through fits (as_sel term) _ (λ read e.
        through fits (option_and_then as_upd (slice_get terms read.0)) _ (λ write f.
        through fits (place_in terms (Sel write.0 read.1)) _ (λ before g.
        let parts = parts_at terms list place term (Sel read.0 read.1) there (sel_of term read e) in
        let w = written terms read.0 write (slice_get terms read.0) refl f in
        let inner = parts_at terms list read.0 (Upd write.0 write.1 write.2) (Upd write.0 write.1 write.2) w.there refl in
        two (equal write.1 read.1) (equal place before)
        (lit true write.1 read.1 (value_there terms list read.0 write.1 inner.1) (value_there terms list place read.1 parts.1))
        (lit true place before here (found_there terms list (Sel write.0 read.1) before g)))))

    write_nothing_new_fits : Passes fits (write_nothing_new terms place term)
    write_nothing_new_fits =
        through fits (as_upd term) _ (λ write e.
        through fits (place_in terms (Sel write.0 write.1)) _ (λ held f.
        let parts = parts_at terms list place term (Upd write.0 write.1 write.2) there (upd_of term write e) in
        two (differ write.2 held) (equal place write.0)
        (lit false write.2 held (value_there terms list place write.2 parts.2) (found_there terms list (Sel write.0 write.1) held f))
        (lit true place write.0 here (store_there terms list place write.0 parts.0))))

    kind_fits : (kind : Term → Option Term) → Passes fits (kind_of kind terms place term)
    kind_fits kind =
        through fits (as_kind term) _ (λ value e.
        through fits (option_and_then kind (slice_get terms value)) _ (λ sort f.
        through fits (place_in terms sort) _ (λ is g.
        one (equal place is) (lit true place is here (found_there terms list sort is g)))))

    -- the operands of an operation stand in the list
    left_there : (op : Operator) (parts : ℕ × ℕ) → operands op term ≡ Some parts → parts.0 < length terms
    left_there op parts e = value_there terms list place parts.0 (parts_at terms list place term (Op op parts.0 parts.1) there (operands_of op term parts e)).0

    right_there : (op : Operator) (parts : ℕ × ℕ) → operands op term ≡ Some parts → parts.1 < length terms
    right_there op parts e = value_there terms list place parts.1 (parts_at terms list place term (Op op parts.0 parts.1) there (operands_of op term parts e)).1

    unit_right_fits : (op : Operator) (unit : ℤ) → Passes fits (unit_on_the_right op unit terms place term)
    unit_right_fits op unit =
        through fits (operands op term) _ (λ parts e.
        through fits (place_in terms (Num unit)) _ (λ number f.
        through fits (place_in terms (Kind parts.0)) _ (λ kind g.
        through fits (place_in terms IsNum) _ (λ is_num h.
        three (differ parts.1 number) (differ kind is_num) (equal place parts.0)
        (lit false parts.1 number (right_there op parts e) (found_there terms list (Num unit) number f))
        (lit false kind is_num (found_there terms list (Kind parts.0) kind g) (found_there terms list IsNum is_num h))
        (lit true place parts.0 here (left_there op parts e))))))

    unit_left_fits : (op : Operator) (unit : ℤ) → Passes fits (unit_on_the_left op unit terms place term)
    unit_left_fits op unit =
        through fits (operands op term) _ (λ parts e.
        through fits (place_in terms (Num unit)) _ (λ number f.
        through fits (place_in terms (Kind parts.1)) _ (λ kind g.
        through fits (place_in terms IsNum) _ (λ is_num h.
        three (differ parts.0 number) (differ kind is_num) (equal place parts.1)
        (lit false parts.0 number (left_there op parts e) (found_there terms list (Num unit) number f))
        (lit false kind is_num (found_there terms list (Kind parts.1) kind g) (found_there terms list IsNum is_num h))
        (lit true place parts.1 here (right_there op parts e))))))

    zero_right_fits : Passes fits (zero_on_the_right terms place term)
    zero_right_fits =
        through fits (operands Mul term) _ (λ parts e.
        through fits (place_in terms (Num (pos 0))) _ (λ zero' f.
        let in_zero = found_there terms list (Num (pos 0)) zero' f in
        two (differ parts.1 zero') (equal place zero') (lit false parts.1 zero' (right_there Mul parts e) in_zero) (lit true place zero' here in_zero)))

    zero_left_fits : Passes fits (zero_on_the_left terms place term)
    zero_left_fits =
        through fits (operands Mul term) _ (λ parts e.
        through fits (place_in terms (Num (pos 0))) _ (λ zero' f.
        let in_zero = found_there terms list (Num (pos 0)) zero' f in
        two (differ parts.0 zero') (equal place zero') (lit false parts.0 zero' (left_there Mul parts e) in_zero) (lit true place zero' here in_zero)))

    same_operands_fits : (op : Operator) (outcome : ℤ) → Passes fits (same_operands op outcome terms place term)
    same_operands_fits op outcome =
        through fits (operands op term) _ (λ parts e.
        through fits (place_in terms (Num outcome)) _ (λ number f.
        two (differ parts.0 parts.1) (equal place number)
        (lit false parts.0 parts.1 (left_there op parts e) (right_there op parts e))
        (lit true place number here (found_there terms list (Num outcome) number f))))

    different_operands_fits : Passes fits (different_operands terms place term)
    different_operands_fits =
        through fits (operands Equal term) _ (λ parts e.
        through fits (place_in terms (Num (pos 0))) _ (λ zero' f.
        two (equal parts.0 parts.1) (equal place zero')
        (lit true parts.0 parts.1 (left_there Equal parts e) (right_there Equal parts e))
        (lit true place zero' here (found_there terms list (Num (pos 0)) zero' f))))

    either_fits : (b : Bool) (yes' : Option Instance) → Passes fits yes' → Passes fits (if b then yes' else None)
    either_fits true yes' h = h
    either_fits false yes' h = refl

    other_order_fits : Passes fits (other_order terms place term)
    other_order_fits =
        through fits (as_op term) _ (λ parts e.
        either_fits (commutes parts.0) _
        (through fits (place_in terms (Op parts.0 parts.2 parts.1)) _ (λ later f.
        either_fits (nat_lt place later) (Some (One (equal place later)))
        (one (equal place later) (lit true place later here (found_there terms list (Op parts.0 parts.2 parts.1) later f))))))

    unheld_after_fits : Passes fits (unheld_after terms place term)
    unheld_after_fits =
        through fits (as_una term) _ (λ unheld e.
        through fits (option_and_then as_upd (slice_get terms unheld.0)) _ (λ write f.
        through fits (place_in terms (Una write.0 unheld.1)) _ (λ before g.
        through fits (place_in terms Yes) _ (λ yes' h.
        let parts = parts_at terms list place term (Una unheld.0 unheld.1) there (una_of term unheld e) in
        let w = written terms unheld.0 write (slice_get terms unheld.0) refl f in
        let inner = parts_at terms list unheld.0 (Upd write.0 write.1 write.2) (Upd write.0 write.1 write.2) w.there refl in
        let in_yes = found_there terms list Yes yes' h in
        three (differ before yes') (equal write.2 unheld.1) (equal place yes')
        (lit false before yes' (found_there terms list (Una write.0 unheld.1) before g) in_yes)
        (lit true write.2 unheld.1 (value_there terms list unheld.0 write.2 inner.2) (value_there terms list place unheld.1 parts.1))
        (lit true place yes' here in_yes)))))

    single_fits : (schema : Axiom) → Passes fits (single schema terms place term)
    single_fits A1 = read_back_fits
    single_fits A2 = read_before_fits
    single_fits A3 = write_nothing_new_fits
    single_fits A4 = kind_fits number_kind
    single_fits A5 = kind_fits constant_kind
    single_fits A6 = kind_fits address_kind
    single_fits A7 = kind_fits operation_kind
    single_fits A8 = refl
    single_fits A9 = refl
    single_fits A10 = refl
    single_fits A11 = unit_right_fits Add (pos 0)
    single_fits A12 = unit_left_fits Add (pos 0)
    single_fits A13 = unit_right_fits Sub (pos 0)
    single_fits A14 = same_operands_fits Sub (pos 0)
    single_fits A15 = unit_right_fits Mul (pos 1)
    single_fits A16 = unit_left_fits Mul (pos 1)
    single_fits A17 = zero_right_fits
    single_fits A18 = zero_left_fits
    single_fits A19 = same_operands_fits Equal (pos 1)
    single_fits A20 = different_operands_fits
    single_fits A21 = same_operands_fits Less (pos 0)
    single_fits A22 = other_order_fits
    single_fits A23 = refl
    single_fits A24 = unheld_after_fits

    number_pairs_fit : AllPass fits (number_pairs terms place term)
    number_pairs_fit =
        of_some_pass fits (as_num term) _ (λ number e.
        each_pass fits terms _ (λ later other at.
        through fits (as_num other) _ (λ d f.
        either_fits (nat_lt place later) (Some (One (differ place later)))
        (one (differ place later) (lit false place later here (slice_get_within terms later other at))))))

    reads_fit : AllPass fits (reads_of_unheld terms place term)
    reads_fit =
        of_some_pass fits (as_una term) _ (λ unheld e.
        each_pass fits terms _ (λ at other there'.
        of_some_pass fits (as_sel other) _ (λ read f.
        either_fits (read.0 == unheld.0) _
        (through fits (place_in terms Yes) _ (λ yes' g.
        let parts = parts_at terms list place term (Una unheld.0 unheld.1) there (una_of term unheld e) in
        two (differ place yes') (differ at unheld.1)
        (lit false place yes' here (found_there terms list Yes yes' g))
        (lit false at unheld.1 (slice_get_within terms at other there') (value_there terms list place unheld.1 parts.1)))))))

    computations_fit : AllPass fits (computations terms place term)
    computations_fit =
        of_some_pass fits (as_op term) _ (λ operation e.
        each_pass fits terms _ (λ left number in_left.
        of_some_pass fits (as_num number) _ (λ c f.
        each_pass fits terms _ (λ right other in_right.
        through fits (as_num other) _ (λ d g.
        through fits (place_in terms (Num (result_of operation.0 c d))) _ (λ outcome h.
        let parts = parts_at terms list place term (Op operation.0 operation.1 operation.2) there (op_of term operation e) in
        three (differ operation.1 left) (differ operation.2 right) (equal place outcome)
        (lit false operation.1 left (value_there terms list place operation.1 parts.0) (slice_get_within terms left number in_left))
        (lit false operation.2 right (value_there terms list place operation.2 parts.1) (slice_get_within terms right other in_right))
        (lit true place outcome here (found_there terms list (Num (result_of operation.0 c d)) outcome h))))))))

  kinds_fit : Passes fits (kinds_differ terms)
  kinds_fit =
      through fits (place_in terms IsNum) _ (λ is_num e.
      through fits (place_in terms IsPtr) _ (λ is_ptr f.
      one (differ is_num is_ptr) (lit false is_num is_ptr (found_there terms list IsNum is_num e) (found_there terms list IsPtr is_ptr f))))

  row_fits : (schema : Axiom) → AllPass fits (row terms schema)
  row_fits A8 = kinds_fit
  row_fits A9 = each_pass fits terms (number_pairs terms) number_pairs_fit
  row_fits A10 = each_pass fits terms (computations terms) computations_fit
  row_fits A23 = each_pass fits terms (reads_of_unheld terms) reads_fit
  row_fits schema = each_pass fits terms (λ place term. clauses_of (single schema terms place term)) (λ place term there. single_fits place term there schema)

  pub instances_fit : (schemas : List Axiom) → are_within (length terms) (instances_of schemas terms) ≡ true
  instances_fit schemas = flat_map_pass fits (row terms) schemas row_fits
