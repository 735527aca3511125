-- Laws of the operators and of stores.
use Rattle.std.proofs.Common.{◌≡◌, ◌≢◌, suc, true, false, List, length, refl, ap, sym, subst, arith, ◌∙◌, inl, inr, pos, ℤ, negsuc, lit<}
use Rattle.std.specs.Prelude.{◌+ℤ◌, ◌-ℤ◌, ◌*ℤ◌, ◌*◌, neg_ℤ, int_lt}
use Rattle.std.proofs.Math.IntN.{*ℤ_comm}
use Rattle.std.specs.Int.{int_wrap}
use Rattle.std.proofs.lemmas.Bool.{cases_eq, cases_Bool, both_ways, false_from_ne_true, le-ltb}
use Rattle.std.proofs.lemmas.Int.{ints, int_wrap_fits}
use Rattle.std.proofs.lemmas.List.{get_or_past}
use mir.Syntax.{w64}
use Rattle.rh_il.specs.Op.{total, truth}
use Rattle.rh_il.specs.Value.{IsNumber, IsValue, value_eq}
use Rattle.rh_il.specs.declared.value.Op.{Op as Operator}
use Rattle.rh_il.specs.declared.value.Op.TheVariants.{Add, Sub, Mul, Less, Equal}
use Rattle.rh_il.specs.declared.value.Value.{Value}
use Rattle.rh_il.specs.declared.value.Value.TheVariants.{Num as ANumber, Ptr as APointer}
use Rattle.rh_term.specs.Store.{nothing, read, write, select, update, is_unheld}
use Rattle.rh_term.specs.Model.{is_number}
use Rattle.rh_term.proofs.Stores.{SameReads, value_eq-true, value_eq-refl, value_eq-same, read-write_same, read-write_other, is_unheld-true, unheld-true}
use Rattle.rh_axioms.specs.Rows.{number_in, result_of, commutes}

abbrev a_zero : Value
a_zero = ANumber (pos 0)

abbrev a_one : Value
a_one = ANumber (pos 1)

-- ---- operators

pub total_is_number : (op : Operator) (a b : Value) → is_number (total op a b) ≡ true
total_is_number Equal a b = refl
total_is_number Add (ANumber a) (ANumber b) = refl
total_is_number Sub (ANumber a) (ANumber b) = refl
total_is_number Mul (ANumber a) (ANumber b) = refl
total_is_number Less (ANumber a) (ANumber b) = refl
total_is_number _ (ANumber a) (APointer b) = refl
total_is_number _ (APointer a) b = refl

pub its_number : (v : Value) → is_number v ≡ true → ANumber (number_in v) ≡ v
its_number (ANumber n) h = refl
its_number (APointer l) h = cc

pub computes : (op : Operator) (c d : ℤ) → ANumber (result_of op c d) ≡ total op (ANumber c) (ANumber d)
computes op c d = its_number (total op (ANumber c) (ANumber d)) (total_is_number op (ANumber c) (ANumber d))

wrapped : (x n : ℤ) → x ≡ n → IsNumber n → int_wrap w64 x ≡ n
wrapped x n e h = ap (int_wrap w64) e ∙ int_wrap_fits w64 n h

pub add_nothing : (v : Value) → IsValue v → is_number v ≡ true → total Add v a_zero ≡ v
add_nothing (ANumber n) h k = ap ANumber (wrapped (n +ℤ pos 0) n (omega (arith, ints)) h)
add_nothing (APointer l) h k = cc

pub nothing_plus : (v : Value) → IsValue v → is_number v ≡ true → total Add a_zero v ≡ v
nothing_plus (ANumber n) h k = ap ANumber (wrapped (pos 0 +ℤ n) n (omega (arith, ints)) h)
nothing_plus (APointer l) h k = cc

pub take_nothing : (v : Value) → IsValue v → is_number v ≡ true → total Sub v a_zero ≡ v
take_nothing (ANumber n) h k = ap ANumber (wrapped (n -ℤ pos 0) n (omega (arith, ints)) h)
take_nothing (APointer l) h k = cc

times_one : (n : ℤ) → n *ℤ pos 1 ≡ n
times_one (pos n) = ap pos (omega arith)
times_one (negsuc n) = ap (λ x. neg_ℤ (pos x)) (let e : suc n * 1 ≡ suc n = omega arith in e)

one_times : (n : ℤ) → pos 1 *ℤ n ≡ n
one_times n = *ℤ_comm (pos 1) n ∙ times_one n

times_zero : (n : ℤ) → n *ℤ pos 0 ≡ pos 0
times_zero (pos n) = ap pos (omega arith)
times_zero (negsuc n) = ap (λ x. neg_ℤ (pos x)) (let e : suc n * 0 ≡ 0 = omega arith in e)

zero_times : (n : ℤ) → pos 0 *ℤ n ≡ pos 0
zero_times n = *ℤ_comm (pos 0) n ∙ times_zero n

zero_fits : IsNumber (pos 0)
zero_fits = record { sfits = lit< tt }

pub by_one : (v : Value) → IsValue v → is_number v ≡ true → total Mul v a_one ≡ v
by_one (ANumber n) h k = ap ANumber (wrapped (n *ℤ pos 1) n (times_one n) h)
by_one (APointer l) h k = cc

pub once : (v : Value) → IsValue v → is_number v ≡ true → total Mul a_one v ≡ v
once (ANumber n) h k = ap ANumber (wrapped (pos 1 *ℤ n) n (one_times n) h)
once (APointer l) h k = cc

pub by_zero : (v : Value) → total Mul v a_zero ≡ a_zero
by_zero (ANumber n) = ap ANumber (wrapped (n *ℤ pos 0) (pos 0) (times_zero n) zero_fits)
by_zero (APointer l) = refl

pub zero_by : (v : Value) → total Mul a_zero v ≡ a_zero
zero_by (ANumber n) = ap ANumber (wrapped (pos 0 *ℤ n) (pos 0) (zero_times n) zero_fits)
zero_by (APointer l) = refl

pub from_itself : (v : Value) → total Sub v v ≡ a_zero
from_itself (ANumber n) = ap ANumber (wrapped (n -ℤ n) (pos 0) (omega (arith, ints)) zero_fits)
from_itself (APointer l) = refl

pub equals_itself : (v : Value) → total Equal v v ≡ a_one
equals_itself v = ap (λ b. ANumber (truth b)) (value_eq-refl v)

pub equals_no_other : (v w : Value) → value_eq v w ≡ false → total Equal v w ≡ a_zero
equals_no_other v w e = ap (λ b. ANumber (truth b)) e

not_less : (n : ℤ) → int_lt n n ≡ false
not_less (pos n) = le-ltb n n (omega arith)
not_less (negsuc n) = le-ltb n n (omega arith)

pub no_less : (v : Value) → total Less v v ≡ a_zero
no_less (ANumber n) = ap (λ b. ANumber (truth b)) (not_less n)
no_less (APointer l) = refl

value_eq-sym : (a b : Value) → value_eq a b ≡ value_eq b a
value_eq-sym a b =
    elim (cases_Bool (value_eq a b)) [
      | inl t ↦ t ∙ sym (value_eq-same b a (sym (value_eq-true a b t)))
      | inr f ↦ f ∙ sym (false_from_ne_true (value_eq b a) (λ t. both_ways (value_eq a b) f (value_eq-same a b (sym (value_eq-true b a t)))))
    ]

plus_comm : (a b : ℤ) → a +ℤ b ≡ b +ℤ a
plus_comm a b = omega (arith, ints)

times_comm : (a b : ℤ) → a *ℤ b ≡ b *ℤ a
times_comm a b = *ℤ_comm a b

pub commuted : (op : Operator) (a b : Value) → commutes op ≡ true → total op a b ≡ total op b a
commuted Add (ANumber a) (ANumber b) e = ap (λ n. ANumber (int_wrap w64 n)) (plus_comm a b)
commuted Mul (ANumber a) (ANumber b) e = ap (λ n. ANumber (int_wrap w64 n)) (times_comm a b)
commuted Equal a b e = ap (λ t. ANumber (truth t)) (value_eq-sym a b)
commuted Sub a b e = cc
commuted Less a b e = cc
commuted _ (ANumber a) (APointer b) e = refl
commuted _ (APointer a) (ANumber b) e = refl
commuted _ (APointer a) (APointer b) e = refl

-- ---- stores

pub select_written : (s : List Value) (a v : Value) → is_number a ≡ false → select (update s a v) a ≡ v
select_written s (ANumber n) v e = cc
select_written s (APointer l) v e = read-write_same s l v

pub select_other : (s : List Value) (a v b : Value) → a ≢ b → select (update s a v) b ≡ select s b
select_other s (ANumber n) v b ne = refl
select_other s (APointer l) v (ANumber n) ne = refl
select_other s (APointer l) v (APointer k) ne = read-write_other s l v k (λ e. ne (ap APointer (sym e)))

pub update_same : (s : List Value) (a : Value) → SameReads (update s a (select s a)) s
update_same s (ANumber n) l = refl
update_same s (APointer m) l =
    elim (cases_eq l m) [
      | inl e ↦ subst (λ x. read (write s m (read s m)) x ≡ read s x) (sym e) (read-write_same s m (read s m))
      | inr ne ↦ read-write_other s m (read s m) l ne
    ]

pub unheld_select : (s : List Value) (a b : Value) → is_unheld s a ≡ true → select s b ≢ a
unheld_select s a (ANumber n) h e = is_unheld-true s a h (length s) (get_or_past s (length s) nothing (omega arith) ∙ e)
unheld_select s a (APointer l) h e = is_unheld-true s a h l e

pub still_unheld : (s : List Value) (a v b : Value) → is_unheld s b ≡ true → v ≢ b → is_unheld (update s a v) b ≡ true
still_unheld s (ANumber n) v b h ne = h
still_unheld s (APointer m) v b h ne =
    unheld-true (write s m v) b (λ l e.
    elim (cases_eq l m) [
      | inl at ↦ ne (sym (read-write_same s m v) ∙ ap (read (write s m v)) (sym at) ∙ e)
      | inr off ↦ is_unheld-true s b h l (sym (read-write_other s m v l off) ∙ e)
    ])
