-- What each item of a list has.
use Rattle.std.specs.Prelude.{ℕ, ◌≡◌, ◌<◌, List, Some, slice_get}

-- each item of a list has the property
abbrev pub Each : {X : Type 0} → (X → Type 0) → List X → Type 0
Each {X} P xs = (i : ℕ) (x : X) → slice_get xs i ≡ Some x → P x

-- each of the first items has it
abbrev pub EachBefore : {X : Type 0} → (X → Type 0) → List X → ℕ → Type 0
EachBefore {X} P xs n = (i : ℕ) (x : X) → i < n → slice_get xs i ≡ Some x → P x
