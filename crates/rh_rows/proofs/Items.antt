-- Items that stand in lists made from lists.
use Rattle.std.proofs.Common.{ℕ, zero, suc, ◌≡◌, ◌+◌, ◌<◌, Bool, true, false, cond, List, [], ◌∷◌, ◌++◌, map, length, Some, inl, inr, refl, ap, sym, ◌∙◌, subst, arith}
use Rattle.std.specs.List.{All, Contains, filter, flat_map, list_all, list_any, range_with_len}
use Rattle.std.specs.Prelude.{◌||◌, slice_get, slice_index_or, if◌then◌else◌}
use Rattle.std.proofs.lemmas.Bool.{and_from, false≢true}
use Rattle.std.proofs.lemmas.Option.{same_Some}
use Rattle.rh_list.proofs.AtPlace.{passes_at}
use Rattle.rh_ground.proofs.Members.{IsItem}

indexed : {X : Type 0} (xs : List X) (x : X) (k : ℕ) → k < length xs → slice_index_or xs k x ≡ x → IsItem x xs
indexed [] x k below is = absurd (omega (arith, below))
indexed (y ∷ ys) x zero below is = inl (sym is)
indexed (y ∷ ys) x (suc k) below is = inr (indexed ys x k (omega (arith, below)) is)

pub item_of_contains : {X : Type 0} (xs : List X) (x : X) → Contains xs x → IsItem x xs
item_of_contains xs x has = indexed xs x has.0 has.1 has.2

pub contains_of_item : {X : Type 0} (xs : List X) (x : X) → IsItem x xs → Contains xs x
contains_of_item [] x there = absurd there
contains_of_item (y ∷ ys) x (inl same) = (0, omega arith, sym same)
contains_of_item (y ∷ ys) x (inr there) = let rest = contains_of_item ys x there in (suc rest.0, (let below = rest.1 in omega (arith, below)), rest.2)

-- an item stands at a place, and what stands at a place is an item
pub item_at : {X : Type 0} (xs : List X) (x : X) (i : ℕ) → slice_get xs i ≡ Some x → IsItem x xs
item_at [] x i read = absurd cc
item_at (y ∷ ys) x zero read = inl (sym (same_Some y x read))
item_at (y ∷ ys) x (suc i) read = inr (item_at ys x i read)

pub place_of : {X : Type 0} (xs : List X) (x : X) → IsItem x xs → (i : ℕ) × (slice_get xs i ≡ Some x)
place_of [] x there = absurd there
place_of (y ∷ ys) x (inl same) = (0, ap Some (sym same))
place_of (y ∷ ys) x (inr there) = let rest = place_of ys x there in (suc rest.0, rest.1)

pub in_front : {X : Type 0} (x : X) (xs ys : List X) → IsItem x xs → IsItem x (xs ++ ys)
in_front x [] ys there = absurd there
in_front x (z ∷ xs) ys (inl same) = inl same
in_front x (z ∷ xs) ys (inr there) = inr (in_front x xs ys there)

pub in_back : {X : Type 0} (x : X) (xs ys : List X) → IsItem x ys → IsItem x (xs ++ ys)
in_back x [] ys there = there
in_back x (z ∷ xs) ys there = inr (in_back x xs ys there)

pub in_map : {X Y : Type 0} (f : X → Y) (x : X) (xs : List X) → IsItem x xs → IsItem (f x) (map f xs)
in_map f x [] there = absurd there
in_map f x (z ∷ xs) (inl same) = inl (ap f same)
in_map f x (z ∷ xs) (inr there) = inr (in_map f x xs there)

pub in_flat_map : {X Y : Type 0} (f : X → List Y) (y : Y) (x : X) (xs : List X) → IsItem x xs → IsItem y (f x) → IsItem y (flat_map f xs)
in_flat_map f y x [] there inner = absurd there
in_flat_map f y x (z ∷ xs) (inl same) inner = in_front y (f z) (flat_map f xs) (subst (λ w. IsItem y (f w)) same inner)
in_flat_map f y x (z ∷ xs) (inr there) inner = in_back y (f z) (flat_map f xs) (in_flat_map f y x xs there inner)

pub in_range : (from i count : ℕ) → i < count → IsItem (from + i) (range_with_len from count)
in_range from i zero below = absurd (omega (arith, below))
in_range from zero (suc count) below = inl (omega arith)
in_range from (suc i) (suc count) below =
    let same : (from + 1) + i ≡ from + suc i = omega arith in
    inr (subst (λ k. IsItem k (range_with_len (from + 1) count)) same (in_range (from + 1) i count (omega (arith, below))))

-- one item, where a test holds
pub item_of_if : {X : Type 0} (test : Bool) (x y : X) → IsItem x (if test then y ∷ [] else []) → (test ≡ true) × (x ≡ y)
item_of_if true x y (inl same) = (refl, same)
item_of_if true x y (inr there) = absurd there
item_of_if false x y there = absurd there

pub in_if : {X : Type 0} (test : Bool) (x : X) → test ≡ true → IsItem x (if test then x ∷ [] else [])
in_if true x holds = inl refl
in_if false x holds = absurd cc

-- what all items pass, each passes
pub passes_item : {X : Type 0} (test : X → Bool) (xs : List X) (x : X) → list_all test xs ≡ true → IsItem x xs → test x ≡ true
passes_item test xs x all there = let at = place_of xs x there in passes_at test xs at.0 x all at.1

pub all_of_items : {X : Type 0} (P : X → Type 0) (xs : List X) → ((x : X) → IsItem x xs → P x) → All P xs
all_of_items P [] each k d below = absurd (omega (arith, below))
all_of_items P (x ∷ xs) each zero d below = each x (inl refl)
all_of_items P (x ∷ xs) each (suc k) d below = all_of_items P xs (λ y there. each y (inr there)) k d (omega (arith, below))

-- what is left of a list stood in it
pub item_of_filter : {X : Type 0} (test : X → Bool) (x : X) (xs : List X) → IsItem x (filter test xs) → IsItem x xs
item_of_filter test x [] there = absurd there
item_of_filter {X} test x (y ∷ ys) there =
    elim (test y) as (λ b. IsItem x (cond b (y ∷ filter test ys) (filter test ys)) → IsItem x (y ∷ ys)) [
      | true ↦ λ item. elim item as (λ _. IsItem x (y ∷ ys)) [ inl same ↦ inl same | inr later ↦ inr (item_of_filter test x ys later) ]
      | false ↦ λ item. inr (item_of_filter test x ys item)
    ] there

-- and what each has by its place, an item has
pub item_has : {X : Type 0} (P : X → Type 0) (xs : List X) (x : X) → All P xs → IsItem x xs → P x
item_has P [] x all there = absurd there
item_has P (y ∷ ys) x all (inl same) = subst P (sym same) (all 0 y (omega arith))
item_has P (y ∷ ys) x all (inr there) = item_has P ys x (λ k d below. all (suc k) d (omega (arith, below))) there

pub each_passes : {X : Type 0} (test : X → Bool) (xs : List X) → ((x : X) → IsItem x xs → test x ≡ true) → list_all test xs ≡ true
each_passes test [] each = refl
each_passes test (x ∷ xs) each = and_from (test x) (list_all test xs) (each x (inl refl)) (each_passes test xs (λ y there. each y (inr there)))

-- some item passes
pub some_item : {X : Type 0} (test : X → Bool) (xs : List X) → list_any test xs ≡ true → (x : X) × IsItem x xs × (test x ≡ true)
some_item test [] any = absurd (false≢true any)
some_item {X} test (x ∷ xs) any =
    elim (test x) as (λ b. test x ≡ b → (b || list_any test xs) ≡ true → (y : X) × IsItem y (x ∷ xs) × (test y ≡ true)) [
      | true ↦ λ is told. (x, inl refl, is)
      | false ↦ λ is told. let rest = some_item test xs told in (rest.0, inr rest.1, rest.2)
    ] refl any

pub some_passes : {X : Type 0} (test : X → Bool) (xs : List X) (x : X) → IsItem x xs → test x ≡ true → list_any test xs ≡ true
some_passes test [] x there is = absurd there
some_passes test (y ∷ ys) x (inl same) is = ap (λ b. b || list_any test ys) (ap test (sym same) ∙ is)
some_passes test (y ∷ ys) x (inr there) is =
    let rest = some_passes test ys x there is in elim (test y) as (λ b. (b || list_any test ys) ≡ true) [ true ↦ refl | false ↦ rest ]
