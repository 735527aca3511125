-- Ranks among the bits of words, word by word.
use Rattle.std.proofs.Common.{ℕ, zero, suc, ◌≡◌, ◌+◌, ◌*◌, ◌/◌, ◌%◌, ◌^◌, ◌<◌, ◌≤◌, List, ap, sym, ◌∙◌, arith, ⊎_elim}
use Rattle.std.proofs.lemmas.Bool.{cases_lt}
use Rattle.std.proofs.lemmas.Nat.{mod-pow-add, mod_below, ones-le, ones_cat, ones_le_self, pow_pos, zero_from_ones}
use Rattle.std.specs.Int.{bit_at}
use Rattle.std.specs.Prelude.{◌==◌, count_ones, slice_index, if◌then◌else◌}
use Rattle.rh_system.specs.Bits.{bits_in}
use Rattle.rh_system.proofs.Supports.{bits_in_at}
use Rattle.rh_rank.specs.Rank.{rank}

no_ones : count_ones 0 ≡ 0
no_ones = let few : count_ones 0 ≤ 0 = ones_le_self 0 in omega (arith, few)

one_one : count_ones 1 ≡ 1
one_one =
    let few : count_ones 1 ≤ 1 = ones_le_self 1 in
    ⊎_elim (λ none. (let zeros : count_ones 1 ≡ 0 = omega (arith, none) in let wrong : 1 ≡ 0 = zero_from_ones 1 zeros in absurd (omega (arith, wrong)))) (λ some. omega (arith, some, few)) (cases_lt (count_ones 1) 1)

ones_of_bit : (bit : ℕ) → bit < 2 → count_ones bit ≡ (if bit == 1 then 1 else 0)
ones_of_bit zero small = no_ones
ones_of_bit (suc zero) small = one_one
ones_of_bit (suc (suc bit)) small = absurd (omega (arith, small))

-- no bits are below the first place
pub ones_none : (word : ℕ) → count_ones (word % 2 ^ 0) ≡ 0
ones_none word = let none : word % 2 ^ 0 ≡ 0 = omega arith in ap count_ones none ∙ no_ones

-- the bits below the next place
pub ones_more : (word place : ℕ) → count_ones (word % 2 ^ suc place) ≡ count_ones (word % 2 ^ place) + (if bit_at word place == 1 then 1 else 0)
ones_more word place =
    let power : suc place ≡ 1 + place = omega arith in
    let bit = bit_at word place in
    let small : bit < 2 = mod_below (word / 2 ^ place) 2 (omega arith) in
    let low : word % 2 ^ place < 2 ^ place = mod_below word (2 ^ place) (pow_pos place) in
    let swap : count_ones bit + count_ones (word % 2 ^ place) ≡ count_ones (word % 2 ^ place) + count_ones bit = omega arith in
    ap (λ n. count_ones (word % 2 ^ n)) power ∙ ap count_ones (mod-pow-add word 1 place) ∙ ones_cat place bit (word % 2 ^ place) low ∙ swap
    ∙ ap (λ n. count_ones (word % 2 ^ place) + n) (ones_of_bit bit small)

-- those of the whole word
pub ones_all : (word : ℕ) → word < 2 ^ 64 → count_ones (word % 2 ^ 64) ≡ count_ones word
ones_all word fits = let same : word % 2 ^ 64 ≡ word = omega (arith, fits) in ap count_ones same

pub few_ones : (word : ℕ) → word < 2 ^ 64 → count_ones word ≤ 64
few_ones word fits = ones-le 64 word fits

module _ (words : List ℕ) where
  -- the rank of a bit of a word
  pub rank_within : (word place : ℕ) → place ≤ 64 → rank (bits_in words) (64 * word + place) ≡ rank (bits_in words) (64 * word) + count_ones (slice_index words word % 2 ^ place)
  unfolding rank
  rank_within word zero small =
      let first : 64 * word + 0 ≡ 64 * word = omega arith in
      let none = ones_none (slice_index words word) in
      ap (rank (bits_in words)) first ∙ (let same : rank (bits_in words) (64 * word) ≡ rank (bits_in words) (64 * word) + count_ones (slice_index words word % 2 ^ 0) = omega (arith, none) in same)
  rank_within word (suc place) small =
      let next : 64 * word + suc place ≡ suc (64 * word + place) = omega arith in
      let before = rank_within word place (omega (arith, small)) in
      let more = ones_more (slice_index words word) place in
      let start = rank (bits_in words) (64 * word) in
      let low = count_ones (slice_index words word % 2 ^ place) in
      let here : ℕ = if bit_at (slice_index words word) place == 1 then 1 else 0 in
      let group : (start + low) + here ≡ start + (low + here) = omega arith in
      ap (rank (bits_in words)) next
      ∙ (λ i. before i + (if bits_in_at words word place (omega (arith, small)) i then 1 else 0))
      ∙ group ∙ ap (λ n. start + n) (sym more)

  -- and of the first bit of the next word
  pub rank_next : (word : ℕ) → slice_index words word < 2 ^ 64 → rank (bits_in words) (64 * (word + 1)) ≡ rank (bits_in words) (64 * word) + count_ones (slice_index words word)
  rank_next word fits =
      let next : 64 * (word + 1) ≡ 64 * word + 64 = omega arith in
      ap (rank (bits_in words)) next ∙ rank_within word 64 (omega arith) ∙ ap (λ n. rank (bits_in words) (64 * word) + n) (ones_all (slice_index words word) fits)
