-- Models, and what terms stand for in them.
use Rattle.std.specs.Prelude.{ℕ, ℤ, Bool, true, false, List, [], ◌∷◌, ◌++◌, slice_index_or}
use Rattle.std.specs.Bool.{beq}
use Rattle.std.specs.List.{fold, All}
use Rattle.rh_il.specs.Value.{IsNumber, IsValue, value_eq}
use Rattle.rh_il.specs.Op.{total}
use Rattle.rh_il.specs.declared.value.Value.{Value}
use Rattle.rh_il.specs.declared.value.Value.TheVariants.{Num as ANumber, Ptr as APointer}
use Rattle.rh_term.specs.declared.term.Term.{Term}
use Rattle.rh_term.specs.declared.term.Term.TheVariants.{Num, Cst, Addr, Any, Fresh, Answer, Before, After, Start, Sel, Upd, Op, Kind, IsNum, IsPtr, Una, Yes}
use Rattle.rh_term.specs.Clause.{Sameness}
use Rattle.rh_term.specs.Store.{nothing, same_store, is_unheld, select, update}

-- what the terms without parts stand for
pub record Model : Type 0 where
  pub number : ℕ → ℤ
  pub location : ℕ → ℕ
  pub any : Value
  pub fresh : Value
  pub answer : Value
  pub before : List Value
  pub after : List Value
  pub start : List Value

-- the numbers of the model are those of 64 bits
pub record IsModel (model : Model) : Type 0 where
  pub numbers : (meta : ℕ) → IsNumber (model.number meta)
  pub any : IsValue model.any
  pub fresh : IsValue model.fresh
  pub answer : IsValue model.answer
  pub before : All IsValue model.before
  pub after : All IsValue model.after
  pub start : All IsValue model.start

-- what a term stands for: a value, a store, whether a value is a number, or whether no cell holds a value
pub data Denotation : Type 0 where
  AValue : Value → Denotation
  AStore : List Value → Denotation
  AKind : Bool → Denotation
  AnAnswer : Bool → Denotation

-- the two are one; stores are one where they hold the same at each location
abbrev pub alike : Denotation → Denotation → Bool
alike (AValue a) (AValue b) = value_eq a b
alike (AStore a) (AStore b) = same_store a b
alike (AKind a) (AKind b) = beq a b
alike (AnAnswer a) (AnAnswer b) = beq a b
alike _ _ = false

abbrev pub is_number : Value → Bool
is_number (ANumber number) = true
is_number (APointer location) = false

abbrev pub value_of : Denotation → Value
value_of (AValue value) = value
value_of _ = nothing

abbrev pub store_of : Denotation → List Value
store_of (AStore store) = store
store_of _ = []

-- what the term at a place stands for
abbrev pub denotation_at : List Denotation → ℕ → Denotation
denotation_at known place = slice_index_or known place (AnAnswer false)

abbrev pub value_at : List Denotation → ℕ → Value
value_at known place = value_of (denotation_at known place)

abbrev pub store_at : List Denotation → ℕ → List Value
store_at known place = store_of (denotation_at known place)

-- what a term stands for, where it is known what the terms before it stand for
abbrev pub denotation_in : Model → List Denotation → Term → Denotation
denotation_in model known (Num number) = AValue (ANumber number)
denotation_in model known (Cst meta) = AValue (ANumber (model.number meta))
denotation_in model known (Addr meta) = AValue (APointer (model.location meta))
denotation_in model known Any = AValue model.any
denotation_in model known Fresh = AValue model.fresh
denotation_in model known Answer = AValue model.answer
denotation_in model known Before = AStore model.before
denotation_in model known After = AStore model.after
denotation_in model known Start = AStore model.start
denotation_in model known (Sel store address) = AValue (select (store_at known store) (value_at known address))
denotation_in model known (Upd store address value) =
    AStore (update (store_at known store) (value_at known address) (value_at known value))
denotation_in model known (Op op left right) = AValue (total op (value_at known left) (value_at known right))
denotation_in model known (Kind value) = AKind (is_number (value_at known value))
denotation_in model known IsNum = AKind true
denotation_in model known IsPtr = AKind false
denotation_in model known (Una store value) = AnAnswer (is_unheld (store_at known store) (value_at known value))
denotation_in model known Yes = AnAnswer true

-- what the terms of a list stand for, each by those before it
abbrev pub denotations : Model → List Term → List Denotation
denotations model terms = fold (λ known term. known ++ denotation_in model known term ∷ []) [] terms

-- the terms at two places stand for one thing
abbrev pub agree : List Denotation → Sameness
agree known i j = alike (denotation_at known i) (denotation_at known j)

-- which terms are one in a model
abbrev pub same_in : Model → List Term → Sameness
same_in model terms = agree (denotations model terms)
