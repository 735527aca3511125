-- The number that digits stand for, as a loop reads them.
use Rattle.std.proofs.Common.{◌≡◌, ℕ, zero, suc, ◌+◌, ◌-◌, ◌*◌, ◌^◌, ◌<◌, ◌≤◌, true, List, [], ◌∷◌, ◌++◌, length, take, drop, get_or, refl, sym, ap, ◌∙◌, subst, arith, take-append-drop}
use Rattle.std.proofs.lemmas.List.{take_more}
use Rattle.std.proofs.lemmas.Grind.{pow_more}
use Rattle.std.proofs.lemmas.Bool.{and_parts, leb-true, lt-leb, le-leb}
use Rattle.std.specs.Prelude.{Some, None}
use Rattle.std.specs.List.{list_all}
use Rattle.std.specs.Char.{is_ascii_digit}
use Rattle.rh_text.specs.Pieces.{decimal_after, decimal_value}
use Rattle.rh_text.specs.Decimal.{up_to_limit}

decimal_after-append : (n : ℕ) (ds es : List ℕ) → decimal_after n (ds ++ es) ≡ decimal_after (decimal_after n ds) es
decimal_after-append n [] es = refl
decimal_after-append n (d ∷ ds) es = decimal_after-append (10 * n + (d - 48)) ds es

-- one more digit
pub decimal_more : (ds : List ℕ) (i : ℕ) → i < length ds → decimal_value (take (i + 1) ds) ≡ 10 * decimal_value (take i ds) + (get_or ds i 0 - 48)
decimal_more ds i h =
    ap decimal_value (take_more ds i 0 h) ∙ decimal_after-append 0 (take i ds) (get_or ds i 0 ∷ [])

decimal_after-ge : (n : ℕ) (ds : List ℕ) → n ≤ decimal_after n ds
decimal_after-ge n [] = omega arith
decimal_after-ge n (d ∷ ds) = let more = decimal_after-ge (10 * n + (d - 48)) ds in omega arith

-- the number of the first digits is no more than that of all
pub decimal_take-le : (ds : List ℕ) (i : ℕ) → decimal_value (take i ds) ≤ decimal_value ds
decimal_take-le ds i =
    let split = sym (decimal_after-append 0 (take i ds) (drop i ds)) ∙ ap decimal_value (take-append-drop i ds) in
    subst (λ m. decimal_value (take i ds) ≤ m) split (decimal_after-ge (decimal_value (take i ds)) (drop i ds))

-- a digit of digits
pub digit_of_digits : (ds : List ℕ) (i : ℕ) → list_all is_ascii_digit ds ≡ true → i < length ds → (48 ≤ get_or ds i 0) × (get_or ds i 0 ≤ 57)
digit_of_digits [] i all h = absurd (omega arith)
digit_of_digits (d ∷ ds) zero all h =
    let parts = and_parts _ _ (and_parts _ _ all).0 in (leb-true 48 d parts.0, leb-true d 57 parts.1)
digit_of_digits (d ∷ ds) (suc i) all h = digit_of_digits ds i (and_parts _ _ all).1 (omega arith)

pub within_limit : (n m : ℕ) → n ≡ m → n ≤ 2 ^ 63 → Some n ≡ up_to_limit m
within_limit n m e h = rw (← e) (rw (le-leb n (2 ^ 63) h) refl)

pub over_limit : (n : ℕ) → 2 ^ 63 < n → None ≡ up_to_limit n
over_limit n h = rw (lt-leb n (2 ^ 63) h) refl

-- the number so far has no more digits than were read
pub decimal_bound : (value digit len : ℕ) → value < 10 ^ len → digit ≤ 9 → value * 10 + digit < 10 ^ (len + 1)
decimal_bound value digit len below small = rw pow_more (omega arith)
