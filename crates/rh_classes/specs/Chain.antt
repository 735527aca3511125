-- Chains of the places whose terms may be congruent.
use Rattle.std.specs.Prelude.{◌≡◌, ℕ, ◌<◌, ◌≤◌, ◌+◌, ◌*◌, ◌%◌, List, Option, Some, None, length, slice_get, slice_index}
use Rattle.std.specs.Option.{option_map, option_and_then}
use Rattle.rh_il.specs.declared.value.Op.{Op as Operator}
use Rattle.rh_il.specs.declared.value.Op.TheVariants.{Add, Sub, Mul, Less, Equal}
use Rattle.rh_term.specs.declared.term.Term.{Term}
use Rattle.rh_term.specs.declared.term.Term.TheVariants.{Sel, Upd, Op, Kind, Una}
use Rattle.rh_term.specs.Partition.{Congruent, joined}
use Rattle.rh_classes.specs.declared.chains.TheConstants.{BUCKETS}

unfoldable pub mixed : ℕ → ℕ → ℕ → ℕ → ℕ
mixed head first second third = ((head * 331 + first) * 331 + second) * 331 + third

abbrev pub operator_number : Operator → ℕ
operator_number Add = 0
operator_number Sub = 1
operator_number Mul = 2
operator_number Less = 3
operator_number Equal = 4

-- a number of a term with parts, by its head, its operator and the labels of its parts
abbrev pub key_of : List ℕ → Term → Option ℕ
key_of labels (Sel store address) = Some (mixed 5 (slice_index labels store) (slice_index labels address) 0)
key_of labels (Upd store address value) =
    Some (mixed 6 (slice_index labels store) (slice_index labels address) (slice_index labels value))
key_of labels (Op op left right) = Some (mixed (operator_number op) (slice_index labels left) (slice_index labels right) 0)
key_of labels (Kind value) = Some (mixed 7 (slice_index labels value) 0 0)
key_of labels (Una store value) = Some (mixed 8 (slice_index labels store) (slice_index labels value) 0)
key_of labels _ = None

abbrev pub bucket_of : List ℕ → Term → Option ℕ
bucket_of labels term = option_map (λ key. key % BUCKETS) (key_of labels term)

-- the bucket of the term at a place
abbrev pub bucket_at : List Term → List ℕ → ℕ → Option ℕ
bucket_at terms labels place = option_and_then (bucket_of labels) (slice_get terms place)

-- the link leads from a bound to the last place of the bucket below it
pub record Leads (terms : List Term) (labels : List ℕ) (bucket bound link : ℕ) : Type 0 where
  pub within : link ≤ bound
  pub own : (place : ℕ) → place + 1 ≡ link → bucket_at terms labels place ≡ Some bucket
  pub last : (place : ℕ) → link ≤ place → place < bound → bucket_at terms labels place ≡ Some bucket → ⊥

-- each place below a bound links to the last place of its bucket before it
abbrev pub AreLinked : List Term → List ℕ → List ℕ → ℕ → Type 0
AreLinked terms labels links bound =
    (place bucket : ℕ) → place < bound → bucket_at terms labels place ≡ Some bucket
    → Leads terms labels bucket place (slice_index links place)

-- the places below a bound are in the chains of their buckets
pub record AreChained (terms : List Term) (labels heads links : List ℕ) (bound : ℕ) : Type 0 where
  pub from_head : (bucket : ℕ) → bucket < BUCKETS → Leads terms labels bucket bound (slice_index heads bucket)
  pub from_link : AreLinked terms labels links bound

-- no place from one on and before another has a term that is congruent to the one there
abbrev pub IsNew : List Term → List ℕ → ℕ → ℕ → Type 0
IsNew terms labels place from =
    (j : ℕ) (t u : Term) → from ≤ j → j < place → slice_get terms place ≡ Some t → slice_get terms j ≡ Some u
    → Congruent (joined labels) t u → ⊥

-- along the chain of a place none of the places before the link's is congruent
pub record IsReached (terms : List Term) (labels : List ℕ) (place link : ℕ) : Type 0 where
  pub within : link ≤ place
  pub own : (j : ℕ) → j + 1 ≡ link → (bucket : ℕ) × (bucket_at terms labels j ≡ Some bucket) × (bucket_at terms labels place ≡ Some bucket)
  pub passed : IsNew terms labels place link

-- an earlier place has a term that is congruent to the one at a place
pub record IsAlike (terms : List Term) (labels : List ℕ) (place earlier : ℕ) : Type 0 where
  pub below : earlier < place
  pub left : Term
  pub right : Term
  pub left_at : slice_get terms place ≡ Some left
  pub right_at : slice_get terms earlier ≡ Some right
  pub congruent : Congruent (joined labels) left right

-- there is a head for each bucket and a link for each label
abbrev pub HasRoom : List ℕ → List ℕ → List ℕ → Type 0
HasRoom labels heads links = (length heads ≡ BUCKETS) × (length links ≡ length labels)
