-- What the terms of a list stand for: values, stores, and numbers of 64 bits.
use Rattle.std.proofs.Common.{◌≡◌, ℕ, zero, suc, Bool, true, false, IsTrue, List, [], ◌∷◌, Some, length, take, slice_get, refl, ap, sym, subst, ◌∙◌, inl, inr, lit<}
use Rattle.std.specs.List.{All, AllByRecursion, fold}
use Rattle.std.specs.Prelude.{int_lt}
use Rattle.std.proofs.lemmas.Bool.{cases_lt, cases_eq}
use Rattle.std.proofs.lemmas.List.{get_or_past}
use Rattle.std.proofs.lemmas.Int.{SFits-int_wrap}
use mir.Syntax.{w64}
use Rattle.rh_list.proofs.Appended.{pushed}
use Rattle.rh_il.specs.Op.{total, truth}
use Rattle.rh_il.specs.Value.{IsNumber, IsValue, value_eq}
use Rattle.rh_il.specs.declared.value.Op.{Op as Operator}
use Rattle.rh_il.specs.declared.value.Op.TheVariants.{Add, Sub, Mul, Less, Equal}
use Rattle.rh_il.specs.declared.value.Value.{Value}
use Rattle.rh_il.specs.declared.value.Value.TheVariants.{Num as ANumber, Ptr as APointer}
use Rattle.rh_term.specs.declared.term.Term.{Term}
use Rattle.rh_term.specs.declared.term.Term.TheVariants.{Num, Cst, Addr, Any, Fresh, Answer, Before, After, Start, Sel, Upd, Op}
use Rattle.rh_term.specs.Term.{IsTermList, HasNumber, is_at, is_value_term, is_store_term}
use Rattle.rh_term.specs.Store.{nothing, read, write, select, update}
use Rattle.rh_term.specs.Model.{Model, IsModel, Denotation, AValue, AStore, AKind, AnAnswer, value_of, store_of, value_at, store_at, denotation_at, denotation_in, denotations}
use Rattle.rh_term.proofs.Known.{known_at, grow}
use Rattle.rh_term.proofs.Stores.{read-write_same, read-write_other}
use Rattle.rh_axioms.proofs.Standing.{Stands, in_front}

-- ---- sorts

value_sort : (model : Model) (known : List Denotation) (t : Term) → is_value_term t ≡ true → denotation_in model known t ≡ AValue (value_of (denotation_in model known t))
value_sort model known (Num a) e = refl
value_sort model known (Cst a) e = refl
value_sort model known (Addr a) e = refl
value_sort model known Any e = refl
value_sort model known Fresh e = refl
value_sort model known Answer e = refl
value_sort model known (Sel a b) e = refl
value_sort model known (Op a b c) e = refl
value_sort model known _ e = cc

store_sort : (model : Model) (known : List Denotation) (t : Term) → is_store_term t ≡ true → denotation_in model known t ≡ AStore (store_of (denotation_in model known t))
store_sort model known Before e = refl
store_sort model known After e = refl
store_sort model known Start e = refl
store_sort model known (Upd a b c) e = refl
store_sort model known _ e = cc

module _ (model : Model) (terms : List Term) (list : IsTermList terms) where
  pub value_stands : (i : ℕ) → Stands is_value_term terms i → denotation_at (denotations model terms) i ≡ AValue (value_at (denotations model terms) i)
  value_stands i h =
      let e = known_at model terms list i h.term h.there in
      e ∙ value_sort model (denotations model terms) h.term h.passes ∙ ap (λ d. AValue (value_of d)) (sym e)

  pub store_stands : (i : ℕ) → Stands is_store_term terms i → denotation_at (denotations model terms) i ≡ AStore (store_at (denotations model terms) i)
  store_stands i h =
      let e = known_at model terms list i h.term h.there in
      e ∙ store_sort model (denotations model terms) h.term h.passes ∙ ap (λ d. AStore (store_of d)) (sym e)

  pub value_part : (k i : ℕ) → IsTrue (is_at is_value_term (take k terms) i) → denotation_at (denotations model terms) i ≡ AValue (value_at (denotations model terms) i)
  value_part k i h = value_stands i (in_front is_value_term k terms i h)

  pub store_part : (k i : ℕ) → IsTrue (is_at is_store_term (take k terms) i) → denotation_at (denotations model terms) i ≡ AStore (store_at (denotations model terms) i)
  store_part k i h = store_stands i (in_front is_store_term k terms i h)

-- ---- numbers of 64 bits

abbrev InRange : Denotation → Type 0
InRange (AValue v) = IsValue v
InRange (AStore s) = (l : ℕ) → IsValue (read s l)
InRange (AKind b) = Unit {0}
InRange (AnAnswer b) = Unit {0}

nothing_in_range : IsValue nothing
nothing_in_range = record { sfits = lit< tt }

reads_in_range : (s : List Value) → All IsValue s → (l : ℕ) → IsValue (read s l)
reads_in_range s h l = elim (cases_lt l (length s)) [
  | inl below ↦ h l nothing below
  | inr past ↦ subst IsValue (sym (get_or_past s l nothing past)) nothing_in_range
]

truth_in_range : (b : Bool) → IsNumber (truth b)
truth_in_range true = record { sfits = lit< tt }
truth_in_range false = record { sfits = lit< tt }

total_in_range : (op : Operator) (a b : Value) → IsValue (total op a b)
total_in_range Add (ANumber a) (ANumber b) = SFits-int_wrap w64 _
total_in_range Sub (ANumber a) (ANumber b) = SFits-int_wrap w64 _
total_in_range Mul (ANumber a) (ANumber b) = SFits-int_wrap w64 _
total_in_range Less (ANumber a) (ANumber b) = truth_in_range (int_lt a b)
total_in_range Equal a b = truth_in_range (value_eq a b)
total_in_range Add (ANumber a) (APointer b) = nothing_in_range
total_in_range Sub (ANumber a) (APointer b) = nothing_in_range
total_in_range Mul (ANumber a) (APointer b) = nothing_in_range
total_in_range Less (ANumber a) (APointer b) = nothing_in_range
total_in_range Add (APointer a) b = nothing_in_range
total_in_range Sub (APointer a) b = nothing_in_range
total_in_range Mul (APointer a) b = nothing_in_range
total_in_range Less (APointer a) b = nothing_in_range

select_in_range : (s : List Value) (a : Value) → ((l : ℕ) → IsValue (read s l)) → IsValue (select s a)
select_in_range s (ANumber n) h = nothing_in_range
select_in_range s (APointer l) h = h l

update_in_range : (s : List Value) (a v : Value) → ((l : ℕ) → IsValue (read s l)) → IsValue v → (l : ℕ) → IsValue (read (update s a v) l)
update_in_range s (ANumber n) v h k l = h l
update_in_range s (APointer m) v h k l = elim (cases_eq l m) [
  | inl e ↦ subst (λ x. IsValue (read (write s m v) x)) (sym e) (subst IsValue (sym (read-write_same s m v)) k)
  | inr ne ↦ subst IsValue (sym (read-write_other s m v l ne)) (h l)
]

value_in_range : (d : Denotation) → InRange d → IsValue (value_of d)
value_in_range (AValue v) h = h
value_in_range (AStore s) h = nothing_in_range
value_in_range (AKind b) h = nothing_in_range
value_in_range (AnAnswer b) h = nothing_in_range

store_in_range : (d : Denotation) → InRange d → (l : ℕ) → IsValue (read (store_of d) l)
store_in_range (AValue v) h l = nothing_in_range
store_in_range (AStore s) h l = h l
store_in_range (AKind b) h l = nothing_in_range
store_in_range (AnAnswer b) h l = nothing_in_range

at_in_range : (known : List Denotation) → AllByRecursion InRange known → (i : ℕ) → InRange (denotation_at known i)
at_in_range [] h i = tt
at_in_range (d ∷ known) h zero = h.0
at_in_range (d ∷ known) h (suc i) = at_in_range known h.1 i

module _ (model : Model) (is_model : IsModel model) where
  denotation_in_range : (known : List Denotation) (term : Term) → AllByRecursion InRange known → HasNumber term → InRange (denotation_in model known term)
  denotation_in_range known (Num a) h n = n
  denotation_in_range known (Cst a) h n = is_model.numbers a
  denotation_in_range known Any h n = is_model.any
  denotation_in_range known Fresh h n = is_model.fresh
  denotation_in_range known Answer h n = is_model.answer
  denotation_in_range known Before h n = reads_in_range model.before is_model.before
  denotation_in_range known After h n = reads_in_range model.after is_model.after
  denotation_in_range known Start h n = reads_in_range model.start is_model.start
  denotation_in_range known (Sel a b) h n = select_in_range (store_at known a) (value_at known b) (store_in_range (denotation_at known a) (at_in_range known h a))
  denotation_in_range known (Upd a b c) h n = update_in_range (store_at known a) (value_at known b) (value_at known c) (store_in_range (denotation_at known a) (at_in_range known h a)) (value_in_range (denotation_at known c) (at_in_range known h c))
  denotation_in_range known (Op a b c) h n = total_in_range a (value_at known b) (value_at known c)
  denotation_in_range known _ h n = tt

  all_in_range : (terms : List Term) (known : List Denotation) → ((i : ℕ) (term : Term) → slice_get terms i ≡ Some term → HasNumber term)
      → AllByRecursion InRange known → AllByRecursion InRange (fold (grow model) known terms)
  all_in_range [] known numbers h = h
  all_in_range (t ∷ ts) known numbers h =
      all_in_range ts (grow model known t) (λ i term e. numbers (suc i) term e)
      (pushed InRange known (denotation_in model known t) h (denotation_in_range known t h (numbers zero t refl)))

  -- the value of a term is one of 64 bits
  pub value_at_in_range : (terms : List Term) → IsTermList terms → (i : ℕ) → IsValue (value_at (denotations model terms) i)
  value_at_in_range terms list i =
      value_in_range (denotation_at (denotations model terms) i) (at_in_range (denotations model terms) (all_in_range terms [] list.numbers tt) i)
