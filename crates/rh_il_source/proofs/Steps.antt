-- Cases that answers go by.
use Rattle.std.proofs.Common.{◌≡◌, ℕ, ◌+◌, ◌<◌, ◌≤◌, arith, inl, inr, ◌⊎◌, ⊎_elim}
use Rattle.std.specs.Prelude.{Result, Ok, Err, IfOk}
use Rattle.std.proofs.lemmas.Bool.{cases_lt}

-- the first of the numbers from k on, or a later one
pub first_or_later : (k n : ℕ) → k ≤ n → (n ≡ k) ⊎ (k + 1 ≤ n)
first_or_later k n h = ⊎_elim (λ (later : k < n). inr (omega arith)) (λ (low : n ≤ k). inl (omega arith)) (cases_lt k n)

-- what follows of a value, of a result that may be none
pub ok_then : {T E : Type 0} (P Q : T → Type 0) (r : Result T E) → ((t : T) → P t → Q t) → IfOk r P → IfOk r Q
ok_then P Q (Ok t) follows is = follows t is
ok_then P Q (Err e) follows is = tt
