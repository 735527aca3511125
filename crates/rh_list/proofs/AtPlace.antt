-- What stands at a place of a list, and what it has in common with the other items.
use Rattle.std.proofs.Common.{◌≡◌, ℕ, zero, suc, ◌<◌, Bool, true, List, [], ◌∷◌, length, Some, refl, sym, ap, ◌∙◌, subst, arith}
use Rattle.std.proofs.lemmas.Bool.{and_parts}
use Rattle.std.proofs.lemmas.Option.{same_Some}
use Rattle.std.specs.Prelude.{slice_get}
use Rattle.std.specs.List.{list_all, AllByRecursion}

-- what stands at a place below the length
pub read_at : {X : Type 0} (xs : List X) (i : ℕ) → i < length xs → (x : X) × (slice_get xs i ≡ Some x)
read_at [] i below = absurd (omega arith)
read_at (x ∷ xs) zero below = (x, refl)
read_at (x ∷ xs) (suc i) below = read_at xs i (omega arith)

-- what all items have, the one at a place has
pub has_at : {X : Type 0} (P : X → Type 0) (xs : List X) (i : ℕ) (x : X) → AllByRecursion P xs → slice_get xs i ≡ Some x → P x
has_at P [] i x all read = absurd cc
has_at P (y ∷ ys) zero x all read = subst P (same_Some y x read) all.0
has_at P (y ∷ ys) (suc i) x all read = has_at P ys i x all.1 read

-- a test that all items pass, the one at a place passes
pub passes_at : {X : Type 0} (test : X → Bool) (xs : List X) (i : ℕ) (x : X) → list_all test xs ≡ true → slice_get xs i ≡ Some x → test x ≡ true
passes_at test [] i x all read = absurd cc
passes_at test (y ∷ ys) zero x all read = sym (ap test (same_Some y x read)) ∙ (and_parts (test y) (list_all test ys) all).0
passes_at test (y ∷ ys) (suc i) x all read = passes_at test ys i x (and_parts (test y) (list_all test ys) all).1 read
