-- What holds of each item of a list.
use Rattle.std.proofs.Common.{◌≡◌, ℕ, zero, suc, ◌<◌, ◌≤◌, Bool, true, false, not, List, [], ◌∷◌, length, map, Some, refl, sym, ap, subst, arith}
use Rattle.std.proofs.lemmas.Bool.{and_parts, or_parts}
use Rattle.std.specs.Prelude.{slice_get}
use Rattle.std.specs.List.{list_all, list_any, AllByRecursion}
use Rattle.rh_rule_source.proofs.SourceInRange.{IsFilled}

pub not_true : (t : Bool) → not t ≡ true → t ≡ false
not_true true h = sym h
not_true false h = refl

-- what every item that is read of a list has, all items have
pub each_has : {X : Type 0} (P : X → Type 0) (xs : List X) → ((i : ℕ) (x : X) → slice_get xs i ≡ Some x → P x) → AllByRecursion P xs
each_has P [] has = tt
each_has P (x ∷ xs) has = (has 0 x refl, each_has P xs (λ i y read. has (suc i) y read))

-- ---- tests

-- what a test that all items pass tells of each of them
pub each_passes : {X : Type 0} (test : X → Bool) (xs : List X) → list_all test xs ≡ true → AllByRecursion (λ x. test x ≡ true) xs
each_passes test [] all = tt
each_passes test (x ∷ xs) all = let parts = and_parts (test x) (list_all test xs) all in (parts.0, each_passes test xs parts.1)

-- what a test that no item passes tells of each of them
pub each_fails : {X : Type 0} (test : X → Bool) (xs : List X) → list_any test xs ≡ false → AllByRecursion (λ x. test x ≡ false) xs
each_fails test [] all = tt
each_fails test (x ∷ xs) all = let parts = or_parts (test x) (list_any test xs) all in (parts.0, each_fails test xs parts.1)

-- ---- several facts of each item

-- two facts of each item, as one
pub each_both : {X : Type 0} (P Q : X → Type 0) (xs : List X) → AllByRecursion P xs → AllByRecursion Q xs → AllByRecursion (λ x. P x × Q x) xs
each_both P Q [] p q = tt
each_both P Q (x ∷ xs) p q = ((p.0, q.0), each_both P Q xs p.1 q.1)

-- three facts of each item, as another one
pub each_of_three : {X : Type 0} (P Q R G : X → Type 0) → ((x : X) → P x → Q x → R x → G x) → (xs : List X) → AllByRecursion P xs → AllByRecursion Q xs → AllByRecursion R xs → AllByRecursion G xs
each_of_three P Q R G all [] p q r = tt
each_of_three P Q R G all (x ∷ xs) p q r = (all x p.0 q.0 r.0, each_of_three P Q R G all xs p.1 q.1 r.1)

-- ---- a first item

-- what stands for a list with a first item has one
pub filled : {S X : Type 0} (f : S → X) (sources : List S) (xs : List X) → map f sources ≡ xs → IsFilled xs → IsFilled sources
filled f [] xs means first = subst IsFilled (sym means) first
filled f (s ∷ ss) xs means first = tt

-- a list that is not shorter than 1 has a first item
pub some_first : {X : Type 0} (xs : List X) → 1 ≤ length xs → IsFilled xs
some_first [] some = absurd (omega (arith, some))
some_first (x ∷ xs) some = tt
