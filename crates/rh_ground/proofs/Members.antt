-- Items of lists that are made from lists.
use Rattle.std.proofs.Common.{ℕ, zero, suc, ◌≡◌, ◌+◌, ◌<◌, ◌≤◌, Bool, true, false, cond, List, [], ◌∷◌, ◌++◌, map, Some, ◌⊎◌, inl, inr, refl, ap, sym, ◌∙◌, subst, arith}
use Rattle.std.specs.List.{flat_map, find, enumerate_from, range_with_len}
use Rattle.std.specs.Option.{option_map}
use Rattle.std.specs.Prelude.{slice_get}

-- the item stands in the list
abbrev pub IsItem : {X : Type 0} → X → List X → Type 0
IsItem x [] = ⊥
IsItem x (y ∷ ys) = (x ≡ y) ⊎ IsItem x ys

pub item_of_append : {X : Type 0} (x : X) (xs ys : List X) → IsItem x (xs ++ ys) → IsItem x xs ⊎ IsItem x ys
item_of_append x [] ys there = inr there
item_of_append x (z ∷ xs) ys (inl same) = inl (inl same)
item_of_append x (z ∷ xs) ys (inr there) = elim (item_of_append x xs ys there) as (λ _. IsItem x (z ∷ xs) ⊎ IsItem x ys) [ inl front ↦ inl (inr front) | inr back ↦ inr back ]

pub item_of_map : {X Y : Type 0} (f : X → Y) (y : Y) (xs : List X) → IsItem y (map f xs) → (x : X) × IsItem x xs × (y ≡ f x)
item_of_map f y [] there = absurd there
item_of_map f y (x ∷ xs) (inl same) = (x, inl refl, same)
item_of_map f y (x ∷ xs) (inr there) = let found = item_of_map f y xs there in (found.0, inr found.1, found.2)

pub item_of_flat_map : {X Y : Type 0} (f : X → List Y) (y : Y) (xs : List X) → IsItem y (flat_map f xs) → (x : X) × IsItem x xs × IsItem y (f x)
item_of_flat_map f y [] there = absurd there
item_of_flat_map f y (x ∷ xs) there =
    elim (item_of_append y (f x) (flat_map f xs) there) as (λ _. (x' : _) × IsItem x' (x ∷ xs) × IsItem y (f x'))
    [ inl front ↦ (x, inl refl, front) | inr back ↦ let found = item_of_flat_map f y xs back in (found.0, inr found.1, found.2) ]

-- what is found is an item, and passes the test
pub found_item : {X : Type 0} (test : X → Bool) (x : X) (xs : List X) → find test xs ≡ Some x → IsItem x xs × (test x ≡ true)
found_item test x [] found = cc
found_item {X} test x (y ∷ ys) found =
    elim (test y) as (λ b. test y ≡ b → cond b (Some y) (find test ys) ≡ Some x → IsItem x (y ∷ ys) × (test x ≡ true)) [
      | true ↦ λ passes is. let same : y ≡ x = cc in (inl (sym same), subst (λ z. test z ≡ true) same passes)
      | false ↦ λ fails is. let rest = found_item test x ys is in (inr rest.0, rest.1)
    ] refl found

pub item_of_range : (k from count : ℕ) → IsItem k (range_with_len from count) → (from ≤ k) × (k < from + count)
item_of_range k from zero there = absurd there
item_of_range k from (suc count) (inl same) = (omega (arith, same), omega (arith, same))
item_of_range k from (suc count) (inr there) = let rest = item_of_range k (from + 1) count there in (omega (arith, rest.0, rest.1), omega (arith, rest.0, rest.1))

-- reading the numbered items, each with something made of it
pub read_numbered : {X Y : Type 0} (f : ℕ → X → Y) (from : ℕ) (xs : List X) (i : ℕ)
    → slice_get (map (λ at. f at.0 at.1) (enumerate_from from xs)) i ≡ option_map (f (from + i)) (slice_get xs i)
read_numbered f from [] i = refl
read_numbered f from (x ∷ xs) zero = let same : from + 0 ≡ from = omega arith in ap (λ n. Some (f n x)) (sym same)
read_numbered f from (x ∷ xs) (suc i) =
    let same : (from + 1) + i ≡ from + suc i = omega arith in
    read_numbered f (from + 1) xs i ∙ ap (λ n. option_map (f n) (slice_get xs i)) same

-- from the first number on
pub read_all_numbered : {X Y : Type 0} (f : ℕ → X → Y) (xs : List X) (i : ℕ) → slice_get (map (λ at. f at.0 at.1) (enumerate_from 0 xs)) i ≡ option_map (f i) (slice_get xs i)
read_all_numbered f xs i = let same : 0 + i ≡ i = omega arith in read_numbered f 0 xs i ∙ ap (λ n. option_map (f n) (slice_get xs i)) same
