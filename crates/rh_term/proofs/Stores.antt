-- Stores that read alike, and what is written to them.
use Rattle.std.proofs.Common.{◌≡◌, ◌≢◌, ℕ, zero, suc, true, List, [], ◌∷◌, refl, ap, sym, subst, ◌∙◌, inl, inr}
use Rattle.std.proofs.lemmas.Bool.{and_parts, and_from, eqb-true, eq-eqb, not-true, false_from_ne_true, not_from_false, both_ways, cases_eq}
use Rattle.std.proofs.lemmas.Bool.Decides.{Decides-int_eq, same_from_decides}
use Rattle.rh_il.specs.Value.{value_eq}
use Rattle.rh_il.specs.declared.value.Value.{Value}
use Rattle.rh_il.specs.declared.value.Value.TheVariants.{Num, Ptr}
use Rattle.rh_term.specs.Store.{nothing, read, write, same_store, is_unheld, select, update}

pub value_eq-true : (a b : Value) → value_eq a b ≡ true → a ≡ b
value_eq-true (Num a) (Num b) e = ap Num ((Decides-int_eq a b).0 e)
value_eq-true (Ptr a) (Ptr b) e = ap Ptr (eqb-true a b e)
value_eq-true (Num a) (Ptr b) e = cc
value_eq-true (Ptr a) (Num b) e = cc

pub value_eq-refl : (a : Value) → value_eq a a ≡ true
value_eq-refl (Num a) = (Decides-int_eq a a).1 refl
value_eq-refl (Ptr a) = eq-eqb a a refl

pub value_eq-same : (a b : Value) → a ≡ b → value_eq a b ≡ true
value_eq-same a b e = subst (λ x. value_eq a x ≡ true) e (value_eq-refl a)

-- the stores hold the same at each location
abbrev pub SameReads : List Value → List Value → Type 0
SameReads left right = (location : ℕ) → read left location ≡ read right location

pub same_store-reads : (left right : List Value) → same_store left right ≡ true → SameReads left right
same_store-reads [] [] e l = refl
same_store-reads (a ∷ s) [] e zero = value_eq-true a nothing (and_parts _ _ e).0
same_store-reads (a ∷ s) [] e (suc l) = same_store-reads s [] (and_parts _ _ e).1 l
same_store-reads [] (b ∷ t) e zero = value_eq-true nothing b (and_parts _ _ e).0
same_store-reads [] (b ∷ t) e (suc l) = same_store-reads [] t (and_parts _ _ e).1 l
same_store-reads (a ∷ s) (b ∷ t) e zero = value_eq-true a b (and_parts _ _ e).0
same_store-reads (a ∷ s) (b ∷ t) e (suc l) = same_store-reads s t (and_parts _ _ e).1 l

pub reads-same_store : (left right : List Value) → SameReads left right → same_store left right ≡ true
reads-same_store [] [] h = refl
reads-same_store (a ∷ s) [] h = and_from _ _ (value_eq-same a nothing (h 0)) (reads-same_store s [] (λ l. h (suc l)))
reads-same_store [] (b ∷ t) h = and_from _ _ (value_eq-same nothing b (h 0)) (reads-same_store [] t (λ l. h (suc l)))
reads-same_store (a ∷ s) (b ∷ t) h = and_from _ _ (value_eq-same a b (h 0)) (reads-same_store s t (λ l. h (suc l)))

pub read-write_same : (store : List Value) (l : ℕ) (v : Value) → read (write store l v) l ≡ v
read-write_same [] zero v = refl
read-write_same [] (suc l) v = read-write_same [] l v
read-write_same (x ∷ s) zero v = refl
read-write_same (x ∷ s) (suc l) v = read-write_same s l v

pub read-write_other : (store : List Value) (l : ℕ) (v : Value) (k : ℕ) → k ≢ l → read (write store l v) k ≡ read store k
read-write_other [] zero v zero ne = absurd (ne refl)
read-write_other [] zero v (suc k) ne = refl
read-write_other [] (suc l) v zero ne = refl
read-write_other [] (suc l) v (suc k) ne = read-write_other [] l v k (λ e. ne (ap suc e))
read-write_other (x ∷ s) zero v zero ne = absurd (ne refl)
read-write_other (x ∷ s) zero v (suc k) ne = refl
read-write_other (x ∷ s) (suc l) v zero ne = refl
read-write_other (x ∷ s) (suc l) v (suc k) ne = read-write_other s l v k (λ e. ne (ap suc e))

pub is_unheld-true : (store : List Value) (v : Value) → is_unheld store v ≡ true → (l : ℕ) → read store l ≢ v
is_unheld-true [] v e l same = both_ways _ (not-true _ e) (value_eq-same nothing v same)
is_unheld-true (x ∷ s) v e zero same = both_ways _ (not-true _ (and_parts _ _ e).0) (value_eq-same x v same)
is_unheld-true (x ∷ s) v e (suc l) same = is_unheld-true s v (and_parts _ _ e).1 l same

pub unheld-true : (store : List Value) (v : Value) → ((l : ℕ) → read store l ≢ v) → is_unheld store v ≡ true
unheld-true [] v h = not_from_false _ (false_from_ne_true _ (λ e. h 0 (value_eq-true nothing v e)))
unheld-true (x ∷ s) v h =
    and_from _ _ (not_from_false _ (false_from_ne_true _ (λ e. h 0 (value_eq-true x v e)))) (unheld-true s v (λ l. h (suc l)))

-- ---- what is read, written and held is the same in stores that read alike

pub select-same : (s t : List Value) (a : Value) → SameReads s t → select s a ≡ select t a
select-same s t (Num n) h = refl
select-same s t (Ptr l) h = h l

pub update-same : (s t : List Value) (a v : Value) → SameReads s t → SameReads (update s a v) (update t a v)
update-same s t (Num n) v h = h
update-same s t (Ptr l) v h = λ k.
    elim (cases_eq k l) [
      | inl e ↦ subst (λ x. read (write s l v) x ≡ read (write t l v) x) (sym e) (read-write_same s l v ∙ sym (read-write_same t l v))
      | inr ne ↦ read-write_other s l v k ne ∙ h k ∙ sym (read-write_other t l v k ne)
    ]

pub is_unheld-same : (s t : List Value) (v : Value) → SameReads s t → is_unheld s v ≡ is_unheld t v
is_unheld-same s t v h =
    same_from_decides {P = (l : ℕ) → read s l ≢ v} (is_unheld s v) (is_unheld t v)
    (is_unheld-true s v, unheld-true s v)
    ((λ e l same. is_unheld-true t v e l (sym (h l) ∙ same)), (λ f. unheld-true t v (λ l same. f l (h l ∙ same))))
