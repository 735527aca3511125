-- A run of bytes at the front of a text, and what comes after it.
use Rattle.std.proofs.Common.{◌≡◌, ℕ, zero, suc, ◌+◌, ◌<◌, Bool, true, false, cond, List, [], ◌∷◌, take, drop, get_or, refl, arith}
use Rattle.std.proofs.Math.Numerals.{one-add}
use Rattle.std.specs.List.{prefix_len, list_all}

-- every byte of the run passes
pub run_passes : (p : ℕ → Bool) (xs : List ℕ) → list_all p (take (prefix_len p xs) xs) ≡ true
run_passes p [] = refl
run_passes p (x ∷ xs) =
    elim (p x) as (λ b. p x ≡ b → list_all p (take (cond b (1 + prefix_len p xs) 0) (x ∷ xs)) ≡ true)
    [ true ↦ λ e. rw one-add (rw e (run_passes p xs)) | false ↦ λ e. refl ] refl

-- the byte after the run doesn't
pub run_stops : (p : ℕ → Bool) (xs : List ℕ) → prefix_len p (drop (prefix_len p xs) xs) ≡ 0
run_stops p [] = refl
run_stops p (x ∷ xs) =
    elim (p x) as (λ b. p x ≡ b → prefix_len p (drop (cond b (1 + prefix_len p xs) 0) (x ∷ xs)) ≡ 0)
    [ true ↦ λ e. rw one-add (run_stops p xs) | false ↦ λ e. rw e refl ] refl

-- a run isn't empty if the first byte passes
pub run_nonempty : (p : ℕ → Bool) (x : ℕ) (xs : List ℕ) → p x ≡ true → 0 < prefix_len p (x ∷ xs)
run_nonempty p x xs e = rw e (omega arith)

-- the first byte of a part that isn't empty
pub first_of_take : (xs : List ℕ) (n : ℕ) → 0 < n → get_or (take n xs) 0 0 ≡ get_or xs 0 0
first_of_take [] (suc n) h = refl
first_of_take (x ∷ xs) (suc n) h = refl
first_of_take [] zero h = refl
first_of_take (x ∷ xs) zero h = absurd (omega arith)
