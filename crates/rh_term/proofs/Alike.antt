-- What terms stand for: which are alike, and that terms with parts that are alike are alike.
use Rattle.std.proofs.Common.{◌≡◌, ℕ, Bool, true, List, refl, ap, sym, ◌∙◌}
use Rattle.std.specs.Bool.{beq}
use Rattle.std.specs.Cmp.{booleans_Decides}
use Rattle.rh_il.specs.Op.{total}
use Rattle.rh_il.specs.declared.value.Op.{Op as Operator}
use Rattle.rh_il.specs.declared.value.Value.{Value}
use Rattle.rh_term.specs.declared.term.Term.{Term}
use Rattle.rh_term.specs.Store.{read, is_unheld, select, update}
use Rattle.rh_term.specs.Model.{Model, Denotation, AValue, AStore, AKind, AnAnswer, alike, is_number, value_of, store_of, value_at, store_at, denotation_at, denotation_in, agree}
use Rattle.rh_term.specs.Partition.{Congruent, alone, sel, upd, op, kind, una}
use Rattle.rh_term.proofs.Stores.{SameReads, value_eq-true, value_eq-refl, value_eq-same, same_store-reads, reads-same_store, select-same, update-same, is_unheld-same}

beq-true : (a b : Bool) → beq a b ≡ true → a ≡ b
beq-true a b = (booleans_Decides a b).0

beq-same : (a b : Bool) → a ≡ b → beq a b ≡ true
beq-same a b = (booleans_Decides a b).1

pub alike-refl : (d : Denotation) → alike d d ≡ true
alike-refl (AValue a) = value_eq-refl a
alike-refl (AStore a) = reads-same_store a a (λ l. refl)
alike-refl (AKind a) = beq-same a a refl
alike-refl (AnAnswer a) = beq-same a a refl

pub alike-sym : (d e : Denotation) → alike d e ≡ true → alike e d ≡ true
alike-sym (AValue a) (AValue b) h = value_eq-same b a (sym (value_eq-true a b h))
alike-sym (AStore a) (AStore b) h = reads-same_store b a (λ l. sym (same_store-reads a b h l))
alike-sym (AKind a) (AKind b) h = beq-same b a (sym (beq-true a b h))
alike-sym (AnAnswer a) (AnAnswer b) h = beq-same b a (sym (beq-true a b h))
alike-sym _ _ h = cc

pub alike-trans : (d e f : Denotation) → alike d e ≡ true → alike e f ≡ true → alike d f ≡ true
alike-trans (AValue a) (AValue b) (AValue c) h k = value_eq-same a c (value_eq-true a b h ∙ value_eq-true b c k)
alike-trans (AStore a) (AStore b) (AStore c) h k = reads-same_store a c (λ l. same_store-reads a b h l ∙ same_store-reads b c k l)
alike-trans (AKind a) (AKind b) (AKind c) h k = beq-same a c (beq-true a b h ∙ beq-true b c k)
alike-trans (AnAnswer a) (AnAnswer b) (AnAnswer c) h k = beq-same a c (beq-true a b h ∙ beq-true b c k)
alike-trans _ _ _ h k = cc

pub value_of-alike : (d e : Denotation) → alike d e ≡ true → value_of d ≡ value_of e
value_of-alike (AValue a) (AValue b) h = value_eq-true a b h
value_of-alike (AStore a) (AStore b) h = refl
value_of-alike (AKind a) (AKind b) h = refl
value_of-alike (AnAnswer a) (AnAnswer b) h = refl
value_of-alike _ _ h = cc

pub store_of-alike : (d e : Denotation) → alike d e ≡ true → SameReads (store_of d) (store_of e)
store_of-alike (AValue a) (AValue b) h = λ l. refl
store_of-alike (AStore a) (AStore b) h = same_store-reads a b h
store_of-alike (AKind a) (AKind b) h = λ l. refl
store_of-alike (AnAnswer a) (AnAnswer b) h = λ l. refl
store_of-alike _ _ h = cc

pub value_at-same : (known : List Denotation) (i j : ℕ) → agree known i j ≡ true → value_at known i ≡ value_at known j
value_at-same known i j h = value_of-alike (denotation_at known i) (denotation_at known j) h

pub store_at-same : (known : List Denotation) (i j : ℕ) → agree known i j ≡ true → SameReads (store_at known i) (store_at known j)
store_at-same known i j h = store_of-alike (denotation_at known i) (denotation_at known j) h

selects : (s t : List Value) (a b : Value) → SameReads s t → a ≡ b → select s a ≡ select t b
selects s t a b h e = select-same s t a h ∙ ap (select t) e

updates : (s t : List Value) (a b v w : Value) → SameReads s t → a ≡ b → v ≡ w → SameReads (update s a v) (update t b w)
updates s t a b v w h e f l = update-same s t a v h l ∙ ap (λ x. read (update t x v) l) e ∙ ap (λ x. read (update t b x) l) f

holds : (s t : List Value) (a b : Value) → SameReads s t → a ≡ b → is_unheld s a ≡ is_unheld t b
holds s t a b h e = is_unheld-same s t a h ∙ ap (is_unheld t) e

operates : (o : Operator) (a b v w : Value) → a ≡ b → v ≡ w → total o a v ≡ total o b w
operates o a b v w e f = cc

-- terms whose parts stand for one thing stand for one thing
pub congruent_alike : (model : Model) (known : List Denotation) {t u : Term} → Congruent (agree known) t u
    → alike (denotation_in model known t) (denotation_in model known u) ≡ true
congruent_alike model known (alone {term}) = alike-refl (denotation_in model known term)
congruent_alike model known (sel s a) = value_eq-same _ _ (selects _ _ _ _ (store_at-same known _ _ s) (value_at-same known _ _ a))
congruent_alike model known (upd s a v) =
    reads-same_store _ _
    (updates _ _ _ _ _ _ (store_at-same known _ _ s) (value_at-same known _ _ a) (value_at-same known _ _ v))
congruent_alike model known (op {o} t u) =
    value_eq-same _ _ (operates o _ _ _ _ (value_at-same known _ _ t) (value_at-same known _ _ u))
congruent_alike model known (kind t) = beq-same _ _ (ap is_number (value_at-same known _ _ t))
congruent_alike model known (una s a) = beq-same _ _ (holds _ _ _ _ (store_at-same known _ _ s) (value_at-same known _ _ a))
