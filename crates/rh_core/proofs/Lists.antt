-- Workers by number, and the bits of words that change.
use Rattle.std.proofs.Common.{◌≡◌, ◌≢◌, ℕ, zero, suc, ◌+◌, ◌^◌, ◌-◌, ◌<◌, ◌≤◌, inl, inr, false, List, [], ◌∷◌, ◌++◌, length, get_or, set, replicate, bit_and, bit_or, min, max, refl, sym, ap, subst, arith, ◌∙◌, w64, sum_by}
use Rattle.std.specs.Int.{bit_at, bit_not}
use Rattle.std.proofs.lemmas.Bool.{cases_eq, cases_lt}
use Rattle.std.proofs.Common.{length-set}
use Rattle.std.proofs.lemmas.List.Sums.{sum_by-cons, sum_by-set, get_or-le-sum_by}
use Rattle.std.proofs.lemmas.List.{get_or_past, get_or-set_same, get_or-set_other}
use Rattle.std.proofs.lemmas.Nat.Bits.{bit_at-lt, bit_at_and, bit_at_or, bit_at_not}
use Rattle.rh_core.specs.State.{WorkerState, CoreState, spent, worker_at, IsLive}
use Rattle.rh_core.specs.Moves.{taken, united}

-- a live worker is one of the list
pub live_inside : (s : CoreState) (worker : ℕ) → IsLive s worker → worker < length s.workers
live_inside s worker live =
    elim (cases_lt worker (length s.workers)) [
      | inl within ↦ within
      | inr past ↦
          let none : worker_at s worker ≡ spent = get_or_past s.workers worker spent past in
          let off : (worker_at s worker).live ≡ false = ap (λ (w : WorkerState). w.live) none in
          absurd (cc)
    ]

-- a list at an index after a write there or elsewhere
pub by_place : {A : Type 0} (P : A → Type 0) (xs : List A) (i j : ℕ) (y d : A) → i < length xs → (j ≡ i → P y) → (j ≢ i → P (get_or xs j d)) → P (get_or (set xs i y) j d)
by_place P xs i j y d within here other =
    elim (cases_eq j i) [
      | inl same ↦ subst (λ k. P (get_or (set xs i y) k d)) (sym same) (subst P (sym (get_or-set_same xs i y d within)) (here same))
      | inr differs ↦ subst P (sym (get_or-set_other xs i j y d differs)) (other differs)
    ]

-- ---- bits

-- what an and-step leaves and what it takes are together what it found
pub parted : (found mask place : ℕ) → mask < 2 ^ 64 → place < 64 → bit_at (bit_and found mask) place + bit_at (taken found mask) place ≡ bit_at found place
parted found mask place small within =
    let left : bit_at (bit_and found mask) place ≡ min (bit_at found place) (bit_at mask place) = bit_at_and found mask place in
    let right : bit_at (taken found mask) place ≡ min (bit_at found place) (bit_at (bit_not w64 mask) place) = bit_at_and found (bit_not w64 mask) place in
    let turned : bit_at (bit_not w64 mask) place ≡ 1 - bit_at mask place = bit_at_not w64 mask place small within in
    let f = bit_at-lt found place in
    let m = bit_at-lt mask place in
    omega arith

-- the bits of two words that share none
pub added : (a b place : ℕ) → bit_at a place + bit_at b place ≤ 1 → bit_at (bit_or a b) place ≡ bit_at a place + bit_at b place
added a b place apart =
    let either : bit_at (bit_or a b) place ≡ max (bit_at a place) (bit_at b place) = bit_at_or a b place in
    omega arith

pub united_length : (xs ys : List ℕ) → length (united xs ys) ≡ length xs
united_length [] ys = refl
united_length (x ∷ xs) [] = refl
united_length (x ∷ xs) (y ∷ ys) = ap suc (united_length xs ys)

pub united_at : (xs ys : List ℕ) (i : ℕ) → length xs ≡ length ys → get_or (united xs ys) i 0 ≡ bit_or (get_or xs i 0) (get_or ys i 0)
united_at [] [] i e = refl
united_at [] (y ∷ ys) i e = absurd (omega arith)
united_at (x ∷ xs) [] i e = absurd (omega arith)
united_at (x ∷ xs) (y ∷ ys) zero e = refl
united_at (x ∷ xs) (y ∷ ys) (suc i) e = united_at xs ys i (omega arith)

-- a list with one more at its end
pub by_push : {A : Type 0} (P : A → Type 0) (xs : List A) (y d : A) (j : ℕ) → P (get_or xs j d) → P y → P d → P (get_or (xs ++ y ∷ []) j d)
by_push P [] y d zero here last past = last
by_push P [] y d (suc j) here last past = past
by_push P (x ∷ xs) y d zero here last past = here
by_push P (x ∷ xs) y d (suc j) here last past = by_push P xs y d j here last past

-- n times the same
pub by_copies : {A : Type 0} (P : A → Type 0) (n : ℕ) (x d : A) (j : ℕ) → P x → P d → P (get_or (replicate n x) j d)
by_copies P zero x d j here past = past
by_copies P (suc n) x d zero here past = here
by_copies P (suc n) x d (suc j) here past = by_copies P n x d j here past

pub none_of_copies : {A : Type 0} (f : A → ℕ) (n : ℕ) (x : A) → f x ≡ 0 → sum_by f (replicate n x) ≡ 0
none_of_copies f zero x none = refl
none_of_copies f (suc n) x none = sum_by-cons f x (replicate n x) ∙ (let rest = none_of_copies f n x none in omega arith)

-- two of a list
pub two_of : {A : Type 0} (f : A → ℕ) (xs : List A) (i j : ℕ) (d : A) → i < length xs → j < length xs → i ≢ j → f d ≡ 0 → f (get_or xs i d) + f (get_or xs j d) ≤ sum_by f xs
two_of f xs i j d i_in j_in differ none =
    let without : sum_by f (set xs j d) + f (get_or xs j d) ≡ sum_by f xs + f d = sum_by-set f xs j d d j_in in
    let long : length (set xs j d) ≡ length xs = length-set xs j d in
    let first : f (get_or (set xs j d) i d) ≤ sum_by f (set xs j d) = get_or-le-sum_by f (set xs j d) i d (omega arith) in
    let same : f (get_or (set xs j d) i d) ≡ f (get_or xs i d) = ap f (get_or-set_other xs j i d d differ) in
    omega arith
