-- How many bits a word has, place by place.
use Rattle.std.proofs.Common.{◌≡◌, ◌≢◌, inl, inr, ℕ, zero, suc, ◌+◌, ◌*◌, ◌/◌, ◌%◌, ◌^◌, ◌<◌, ◌≤◌, bit_or, refl, sym, subst, arith}
use Rattle.std.specs.Int.{bit_at}
use Rattle.std.specs.Int.RustNames.{count_ones}
use Rattle.std.proofs.Math.Nat.{pow-suc}
use Rattle.std.proofs.lemmas.Bool.{cases_eq}
use Rattle.std.proofs.lemmas.Nat.{ones-le, ones_cat, ones_le_self, zero_from_ones, div-add-mod', mod_below, pow_pos, div_below}
use Rattle.std.proofs.lemmas.Nat.Bits.{bit_at_cat_low}
use Rattle.std.proofs.lemmas.Bool.{cases_lt}
use Rattle.std.proofs.lemmas.Nat.Bits.{same_from_bits_below}
use Rattle.rh_system.specs.Bits.{IsSubword}
use Rattle.rh_system.proofs.Supports.{subword_le}
use Rattle.rh_core.proofs.Lists.{added}

-- f of each place below k, added up
pub over : ℕ → (ℕ → ℕ) → ℕ
over zero f = 0
over (suc k) f = over k f + f k

pub over_same : (k : ℕ) (f g : ℕ → ℕ) → ((i : ℕ) → i < k → f i ≡ g i) → over k f ≡ over k g
unfolding over
over_same zero f g same = refl
over_same (suc k) f g same =
    let rest : over k f ≡ over k g = over_same k f g (λ i below. same i (omega arith)) in
    let last : f k ≡ g k = same k (omega arith) in
    omega arith

pub over_sum : (k : ℕ) (f g : ℕ → ℕ) → over k (λ i. f i + g i) ≡ over k f + over k g
unfolding over
over_sum zero f g = refl
over_sum (suc k) f g = let rest = over_sum k f g in omega arith

pub over_le : (k : ℕ) (f g : ℕ → ℕ) → ((i : ℕ) → i < k → f i ≤ g i) → over k f ≤ over k g
unfolding over
over_le zero f g le = omega arith
over_le (suc k) f g le =
    let rest : over k f ≤ over k g = over_le k f g (λ i below. le i (omega arith)) in
    let last : f k ≤ g k = le k (omega arith) in
    omega arith

not_zero : 1 ≢ zero
not_zero e = cc

-- a digit has as many ones as its value
digit_ones : (a : ℕ) → a < 2 → count_ones a ≡ a
digit_ones zero h = let le : count_ones 0 ≤ 0 = ones_le_self 0 in omega arith
digit_ones (suc zero) h =
    let le : count_ones 1 ≤ 1 = ones_le_self 1 in
    elim (cases_eq (count_ones 1) 0) [ inl e ↦ absurd (not_zero (zero_from_ones 1 e)) | inr some ↦ omega arith ]
digit_ones (suc (suc a)) h = absurd (omega arith)

pub ones_over : (k n : ℕ) → n < 2 ^ k → count_ones n ≡ over k (bit_at n)
unfolding over
ones_over zero n h = let le : count_ones n ≤ 0 = ones-le 0 n h in omega arith
ones_over (suc k) n h =
    let a : ℕ = n / 2 ^ k in
    let r : ℕ = n % 2 ^ k in
    let is : a * 2 ^ k + r ≡ n = div-add-mod' n (2 ^ k) in
    let low : r < 2 ^ k = mod_below n (2 ^ k) (pow_pos k) in
    let bound : n < 2 * 2 ^ k = let p : 2 ^ suc k ≡ 2 ^ k * 2 = pow-suc 2 k in omega arith in
    let digit : a < 2 = div_below n (2 ^ k) 2 (pow_pos k) bound in
    let parts : count_ones n ≡ count_ones a + count_ones r = subst (λ (x : ℕ). count_ones x ≡ count_ones a + count_ones r) is (ones_cat k a r low) in
    let rest : count_ones r ≡ over k (bit_at r) = ones_over k r low in
    let same : over k (bit_at r) ≡ over k (bit_at n) =
    over_same k (bit_at r) (bit_at n) (λ i below. sym (subst (λ (x : ℕ). bit_at x i ≡ bit_at r i) is (bit_at_cat_low a k r i below))) in
    let top : a % 2 ≡ a = omega arith in
    let one : count_ones a ≡ a = digit_ones a digit in
    omega arith

-- two words that share no bit have the bits of both together
pub ones_added : (a b : ℕ) → a < 2 ^ 64 → b < 2 ^ 64 → bit_or a b < 2 ^ 64 → ((place : ℕ) → place < 64 → bit_at a place + bit_at b place ≤ 1) → count_ones (bit_or a b) ≡ count_ones a + count_ones b
ones_added a b a_fits b_fits fits apart =
    let whole : count_ones (bit_or a b) ≡ over 64 (bit_at (bit_or a b)) = ones_over 64 (bit_or a b) fits in
    let first : count_ones a ≡ over 64 (bit_at a) = ones_over 64 a a_fits in
    let second : count_ones b ≡ over 64 (bit_at b) = ones_over 64 b b_fits in
    let same : over 64 (bit_at (bit_or a b)) ≡ over 64 (λ i. bit_at a i + bit_at b i) =
    over_same 64 (bit_at (bit_or a b)) (λ i. bit_at a i + bit_at b i) (λ i below. added a b i (apart i below)) in
    let sum : over 64 (λ i. bit_at a i + bit_at b i) ≡ over 64 (bit_at a) + over 64 (bit_at b) = over_sum 64 (bit_at a) (bit_at b) in
    omega arith

below_pow : (n : ℕ) → n < 2 ^ n
below_pow zero = omega arith
below_pow (suc n) = let h : n < 2 ^ n = below_pow n in let p : 2 ^ suc n ≡ 2 ^ n * 2 = pow-suc 2 n in omega arith

-- a word within another has no more bits
pub ones_within : (a b : ℕ) → IsSubword a b → count_ones a ≤ count_ones b
ones_within a b within =
    let le : a ≤ b = subword_le a b within in
    let big : b < 2 ^ b = below_pow b in
    let first : count_ones a ≡ over b (bit_at a) = ones_over b a (omega arith) in
    let second : count_ones b ≡ over b (bit_at b) = ones_over b b big in
    let sums : over b (bit_at a) ≤ over b (bit_at b) = over_le b (bit_at a) (bit_at b) (λ i below. within i) in
    omega arith

-- sums of which one is no larger term by term are equal only where all terms are
same_terms : (k : ℕ) (f g : ℕ → ℕ) → ((i : ℕ) → i < k → f i ≤ g i) → over k g ≤ over k f → (i : ℕ) → i < k → f i ≡ g i
unfolding over
same_terms zero f g le ge i below = absurd (omega arith)
same_terms (suc k) f g le ge i below =
    let rest : over k f ≤ over k g = over_le k f g (λ j b. le j (omega arith)) in
    let last : f k ≤ g k = le k (omega arith) in
    elim (cases_eq i k) [
      | inl same ↦ subst (λ j. f j ≡ g j) (sym same) (let e : f k ≡ g k = omega arith in e)
      | inr differs ↦ same_terms k f g (λ j b. le j (omega arith)) (omega arith) i (omega arith)
    ]

-- a word within another one, and not the same, has fewer bits
pub ones_fewer : (a b : ℕ) → b < 2 ^ 64 → IsSubword a b → a ≢ b → count_ones a < count_ones b
ones_fewer a b fits within differs =
    let le : a ≤ b = subword_le a b within in
    let a_fits : a < 2 ^ 64 = omega arith in
    let first : count_ones a ≡ over 64 (bit_at a) = ones_over 64 a a_fits in
    let second : count_ones b ≡ over 64 (bit_at b) = ones_over 64 b fits in
    elim (cases_lt (count_ones a) (count_ones b)) [
      | inl less ↦ less
      | inr more ↦ absurd (differs (same_from_bits_below 64 a b a_fits fits (same_terms 64 (bit_at a) (bit_at b) (λ i below. within i) (omega arith))))
    ]
