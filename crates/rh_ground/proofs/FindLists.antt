-- Finding in lists that are put together, and lists to which one item was added.
use Rattle.std.proofs.Common.{ℕ, ◌≡◌, Bool, true, false, cond, List, [], ◌∷◌, ◌++◌, map, length, take, Some, None, refl, ap, ◌∙◌, arith}
use Rattle.std.specs.List.{find}
use Rattle.std.specs.Option.{option_map, option_or}

pub find_append : {X : Type 0} (test : X → Bool) (xs ys : List X) → find test (xs ++ ys) ≡ option_or (find test xs) (find test ys)
find_append test [] ys = refl
find_append {X} test (x ∷ xs) ys =
    elim (test x) as (λ b. cond b (Some x) (find test (xs ++ ys)) ≡ option_or (cond b (Some x) (find test xs)) (find test ys))
    [ true ↦ refl | false ↦ find_append test xs ys ]

pub find_map : {X Y : Type 0} (test : Y → Bool) (f : X → Y) (xs : List X) → find test (map f xs) ≡ option_map f (find (λ x. test (f x)) xs)
find_map test f [] = refl
find_map {X} {Y} test f (x ∷ xs) =
    elim (test (f x)) as (λ b. cond b (Some (f x)) (find test (map f xs)) ≡ option_map f (cond b (Some x) (find (λ y. test (f y)) xs)))
    [ true ↦ refl | false ↦ find_map test f xs ]

pub find_same : {X : Type 0} (test other : X → Bool) (xs : List X) → ((x : X) → test x ≡ other x) → find test xs ≡ find other xs
find_same test other [] same = refl
find_same {X} test other (x ∷ xs) same = ap (λ b. cond b (Some x) (find test xs)) (same x) ∙ ap (cond (other x) (Some x)) (find_same test other xs same)

pub find_none : {X : Type 0} (test : X → Bool) (xs : List X) → ((x : X) → test x ≡ false) → find test xs ≡ None
find_none test [] fails = refl
find_none {X} test (x ∷ xs) fails = ap (λ b. cond b (Some x) (find test xs)) (fails x) ∙ find_none test xs fails

pub append_one : {X : Type 0} (xs : List X) (x : X) (ys : List X) → (xs ++ x ∷ []) ++ ys ≡ xs ++ x ∷ ys
append_one [] x ys = refl
append_one (z ∷ xs) x ys = ap (λ r. z ∷ r) (append_one xs x ys)

pub append_nothing : {X : Type 0} (xs : List X) → xs ++ [] ≡ xs
append_nothing [] = refl
append_nothing (x ∷ xs) = ap (λ r. x ∷ r) (append_nothing xs)

take_before : {X : Type 0} (xs ys : List X) → take (length xs) (xs ++ ys) ≡ xs
take_before [] ys = refl
take_before (x ∷ xs) ys = ap (λ r. x ∷ r) (take_before xs ys)

-- what was pushed is gone again
pub cut_back : {X : Type 0} (before after old : List X) (x : X) (size : ℕ) → after ≡ take size before → before ≡ old ++ x ∷ [] → size ≡ length old → after ≡ old
cut_back before after old x size is before_is size_is =
    is ∙ ap (λ n. take n before) size_is ∙ ap (take (length old)) before_is ∙ take_before old (x ∷ [])

pub nothing_left : {X : Type 0} (xs : List X) → length xs ≡ 0 → xs ≡ []
nothing_left [] size = refl
nothing_left (x ∷ xs) size = absurd (omega (arith, size))
