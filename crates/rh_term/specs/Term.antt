-- Lists of terms.
use Rattle.std.specs.Prelude.{◌≡◌, ℕ, ◌<◌, ◌≤◌, Bool, true, false, List, [], ◌∷◌, ◌++◌, Some, IsTrue, length, take, slice_get}
use Rattle.std.specs.Option.{option_map_or}
use Rattle.rh_il.specs.Value.{IsNumber}
use Rattle.rh_term.specs.declared.term.Term.{Term}
use Rattle.rh_term.specs.declared.term.Term.TheVariants.{Num, Cst, Addr, Any, Fresh, Answer, Before, After, Start, Sel, Upd, Op, Kind, Una}

-- the term stands for a value
abbrev pub is_value_term : Term → Bool
is_value_term (Num number) = true
is_value_term (Cst meta) = true
is_value_term (Addr meta) = true
is_value_term Any = true
is_value_term Fresh = true
is_value_term Answer = true
is_value_term (Sel store address) = true
is_value_term (Op op left right) = true
is_value_term _ = false

-- the term stands for a store
abbrev pub is_store_term : Term → Bool
is_store_term Before = true
is_store_term After = true
is_store_term Start = true
is_store_term (Upd store address value) = true
is_store_term _ = false

-- there is a term at the place, and it passes the test
abbrev pub is_at : (Term → Bool) → List Term → ℕ → Bool
is_at test terms place = option_map_or test (slice_get terms place) false

abbrev pub is_value_at : List Term → ℕ → Bool
is_value_at terms place = is_at is_value_term terms place

abbrev pub is_store_at : List Term → ℕ → Bool
is_store_at terms place = is_at is_store_term terms place

-- the parts of a term stand in the list, and are of the right sorts: a store for the first part of
-- `Sel`, `Upd` and `Una`, and a value for every other part
abbrev pub HasParts : List Term → Term → Type 0
HasParts terms (Sel store address) = IsTrue (is_store_at terms store) × IsTrue (is_value_at terms address)
HasParts terms (Upd store address value) =
    IsTrue (is_store_at terms store) × IsTrue (is_value_at terms address) × IsTrue (is_value_at terms value)
HasParts terms (Op op left right) = IsTrue (is_value_at terms left) × IsTrue (is_value_at terms right)
HasParts terms (Kind value) = IsTrue (is_value_at terms value)
HasParts terms (Una store value) = IsTrue (is_store_at terms store) × IsTrue (is_value_at terms value)
HasParts terms _ = Unit {0}

-- the number of the term is one of 64 bits
abbrev pub HasNumber : Term → Type 0
HasNumber (Num number) = IsNumber number
HasNumber _ = Unit {0}

-- a list of different terms, in which the parts of each stand before it
pub record IsTermList (terms : List Term) : Type 0 where
  pub different : (i j : ℕ) (term : Term) → slice_get terms i ≡ Some term → slice_get terms j ≡ Some term → i ≡ j
  pub parts : (i : ℕ) (term : Term) → slice_get terms i ≡ Some term → HasParts (take i terms) term
  pub numbers : (i : ℕ) (term : Term) → slice_get terms i ≡ Some term → HasNumber term

-- the new list is the old one, with the term at its end where it was not in it; the term stands at the place
pub record IsAdded (old new : List Term) (term : Term) (place : ℕ) : Type 0 where
  pub stands : slice_get new place ≡ Some term
  pub was_there : place < length old → new ≡ old
  pub was_new : length old ≤ place → new ≡ old ++ term ∷ []
