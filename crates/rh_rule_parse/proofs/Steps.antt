-- Cases that answers go by.
use Rattle.std.proofs.Common.{◌≡◌, ℕ, ◌+◌, ◌<◌, ◌≤◌, arith, inl, inr, ◌⊎◌, ⊎_elim}
use Rattle.std.specs.Prelude.{Result, Ok, Err, IfOk}
use Rattle.std.proofs.lemmas.Bool.{cases_lt}

-- the first of the numbers from k on, or a later one
pub first_or_later : (k n : ℕ) → k ≤ n → (n ≡ k) ⊎ (k + 1 ≤ n)
first_or_later k n h = ⊎_elim (λ (later : k < n). inr (omega arith)) (λ (low : n ≤ k). inl (omega arith)) (cases_lt k n)

-- what follows of a value from two facts, of a result that may be none
pub both_ok : {T E : Type 0} (P P' Q : T → Type 0) (r : Result T E) → ((t : T) → P t → P' t → Q t) → IfOk r P → IfOk r P' → IfOk r Q
both_ok P P' Q (Ok t) follows a b = follows t a b
both_ok P P' Q (Err e) follows a b = tt
