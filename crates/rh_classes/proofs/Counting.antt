-- How many numbers below a bound pass a test.
use Rattle.std.proofs.Common.{◌≡◌, ℕ, zero, suc, ◌<◌, ◌≤◌, ◌+◌, ◌==◌, Bool, true, false, List, slice_index, arith, refl, inl, inr, subst}
use Rattle.std.specs.Prelude.{if◌then◌else◌}
use Rattle.std.proofs.lemmas.Bool.{cond-true, cond-false, cases_order}

abbrev pub count_below : (ℕ → Bool) → ℕ → ℕ
count_below test zero = 0
count_below test (suc n) = count_below test n + (if test n then 1 else 0)

one : (p q : Bool) → (q ≡ true → p ≡ true) → (if q then 1 else 0) ≤ (if p then 1 else 0)
one true true h = omega arith
one true false h = omega arith
one false true h = let e : false ≡ true = h refl in cc
one false false h = omega arith

pub count_less : (p q : ℕ → Bool) (n : ℕ) → ((k : ℕ) → k < n → q k ≡ true → p k ≡ true) → count_below q n ≤ count_below p n
count_less p q zero h = omega arith
count_less p q (suc n) h =
    omega (arith, count_less p q n (λ k below. h k (omega (arith, below))), one (p n) (q n) (h n (omega arith)))

pub count_fewer : (p q : ℕ → Bool) (n : ℕ) → ((k : ℕ) → k < n → q k ≡ true → p k ≡ true)
    → (at : ℕ) → at < n → p at ≡ true → q at ≡ false → count_below q n < count_below p n
count_fewer p q zero h at before t f = absurd (omega (arith, before))
count_fewer p q (suc n) h at before t f =
    elim (cases_order at n) [
      | inl e ↦ let yes' : p n ≡ true = subst (λ x. p x ≡ true) e t in let no' : q n ≡ false = subst (λ x. q x ≡ false) e f in
          omega (arith, count_less p q n (λ k below. h k (omega (arith, below))), cond-true {A = ℕ} (p n) 1 0 yes', cond-false {A = ℕ} (q n) 1 0 no')
      | inr other ↦ elim other [
        | inl below ↦ omega (arith, count_fewer p q n (λ k less. h k (omega (arith, less))) at below t f, one (p n) (q n) (h n (omega arith)))
        | inr above ↦ absurd (omega (arith, above, before))
      ]
    ]

-- how many classes a partition of n places has: the places that are their own label
abbrev pub classes : List ℕ → ℕ → ℕ
classes labels n = count_below (λ k. slice_index labels k == k) n
