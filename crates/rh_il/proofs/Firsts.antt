-- The first that there is, of so many.
use Rattle.std.proofs.Common.{◌≡◌, ℕ, zero, suc, ◌+◌, ◌<◌, List, length, get_or, Option, Some, None, Result, Ok, Err, refl, sym, ap, ◌∙◌, arith, ⊎_elim}
use Rattle.std.proofs.Math.Numerals.{add-one}
use Rattle.std.proofs.lemmas.Bool.{cases_lt}
use Rattle.std.proofs.lemmas.Option.{slice_get-get_or}
use Rattle.std.specs.Prelude.{slice_get}
use Rattle.std.specs.Option.{option_and_then}
use Rattle.std.specs.Result.{IsErrAnd, result_err}
use Rattle.rh_il.specs.Checks.{first_some}

-- one more that isn't there
pub first_none : {X : Type 0} (n : ℕ) (found : ℕ → Option X) → first_some n found ≡ None → found n ≡ None → first_some (n + 1) found ≡ None
first_none n found before here = rw (add-one, before, here) refl

-- the first is there
pub first_here : {X : Type 0} (n m : ℕ) (found : ℕ → Option X) (x : X) → first_some n found ≡ None → found n ≡ Some x → n < m → first_some m found ≡ Some x
first_here n zero found x before here lt = absurd (omega arith)
first_here n (suc m) found x before here lt =
    ⊎_elim
    (λ earlier. rw (first_here n m found x before here earlier) refl)
    (λ last. let same : n ≡ m = omega arith in rw (ap (λ k. first_some k found) (sym same) ∙ before, ap found (sym same) ∙ here) refl)
    (cases_lt n m)

-- what a loop that stops at the first fault returns
pub stops : {X T : Type 0} (n m : ℕ) (found : ℕ → Option X) (given : X) (result : Result T X) → first_some n found ≡ None → Some given ≡ found n → IsErrAnd result (λ fault. fault ≡ given) → n < m → result_err result ≡ first_some m found
stops n m found given (Ok value) before here is lt = elim is [ ]
stops n m found given (Err fault) before here is lt = ap Some is ∙ sym (first_here n m found given before (sym here) lt)

-- what is found at a place within the list
pub found_at : {X Y : Type 0} (f : X → Option Y) (xs : List X) (i : ℕ) (d : X) → i < length xs → f (get_or xs i d) ≡ option_and_then f (slice_get xs i)
found_at f xs i d lt = ap (option_and_then f) (sym (slice_get-get_or xs i d lt))
