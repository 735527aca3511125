-- The lowest bit of a word from a place on, and the part of a word up to it.
use Rattle.std.proofs.Common.{ℕ, ◌≡◌, ◌≢◌, ◌+◌, ◌-◌, ◌/◌, ◌%◌, ◌^◌, ◌<◌, ◌≤◌, inl, inr, ap, sym, arith, w64, ◌∙◌}
use Rattle.std.specs.Int.{bit_at, trailing_zeros}
use Rattle.std.proofs.Math.Nat.{div-div-eq-div-mul, div-le_self}
use Rattle.std.proofs.lemmas.Bool.{cases_lt}
use Rattle.std.proofs.lemmas.Nat.{pow-add}
use Rattle.std.proofs.lemmas.Nat.Bits.{bit_at-trailing_zeros, bit_at-zero, bit_at_above}

-- the bits of a word that was moved down
pub bit_at_moved : (word from place : ℕ) → bit_at (word / 2 ^ from) place ≡ bit_at word (from + place)
bit_at_moved word from place = ap (λ n. n % 2) (div-div-eq-div-mul word (2 ^ from) (2 ^ place) ∙ ap (λ n. word / n) (sym (pow-add 2 from place)))

moved_back : (word from other : ℕ) → from ≤ other → bit_at (word / 2 ^ from) (other - from) ≡ bit_at word other
moved_back word from other after =
    let place : from + (other - from) ≡ other = omega (arith, after) in
    bit_at_moved word from (other - from) ∙ ap (bit_at word) place

pub none_left : (word from other : ℕ) → word / 2 ^ from ≡ 0 → from ≤ other → bit_at word other ≡ 0
none_left word from other none after = sym (moved_back word from other after) ∙ ap (λ n. bit_at n (other - from)) none ∙ bit_at-zero (other - from)

-- the lowest bit of what is left
pub record IsLowest (word from place : ℕ) : Type 0 where
  pub after : from ≤ place
  pub set : bit_at word place ≡ 1
  pub least : (other : ℕ) → from ≤ other → other < place → bit_at word other ≡ 0

pub lowest : (word from : ℕ) → word < 2 ^ 64 → 0 < word / 2 ^ from → word / 2 ^ from < 2 ^ 64 → IsLowest word from (from + trailing_zeros w64 (word / 2 ^ from))
lowest word from small some fits =
    let is = bit_at-trailing_zeros w64 (word / 2 ^ from) some fits in
    record {
      after = omega arith;
      set = sym (bit_at_moved word from (trailing_zeros w64 (word / 2 ^ from))) ∙ is.1;
      least = λ other after before. sym (moved_back word from other after) ∙ is.2 (other - from) (omega (arith, after, before));
    }

-- a bit that is set stands below the width
pub below_width : (word place : ℕ) → word < 2 ^ 64 → bit_at word place ≡ 1 → place < 64
below_width word place small set =
    elim (cases_lt place 64) as (λ _. place < 64) [
      | inl below ↦ below
      | inr above ↦ let none = bit_at_above word 64 place small (omega (arith, above)) in absurd (omega (arith, set, none))
    ]

quotient_small : (word d : ℕ) → word < 2 ^ 64 → word / d < 2 ^ 64
quotient_small word d small = let less = div-le_self word d in omega (arith, less, small)

-- what stands at the place that is found
pub found_lowest : (word from : ℕ) → word < 2 ^ 64 → word / 2 ^ from ≢ 0 → IsLowest word from (from + trailing_zeros w64 (word / 2 ^ from))
found_lowest word from small some =
    let left : ℕ = word / 2 ^ from in
    let more : 0 < left = (let is : left ≢ 0 = some in omega (arith, is)) in
    lowest word from small more (quotient_small word (2 ^ from) small)
