-- How many bits stand in words of which each may hold so many.
use Rattle.std.proofs.Common.{ℕ, zero, suc, ◌≡◌, ◌+◌, ◌-◌, ◌*◌, ◌/◌, ◌%◌, ◌^◌, ◌<◌, ◌≤◌, min, List, refl, ap, sym, ◌∙◌, arith, ⊎_elim}
use Rattle.std.proofs.lemmas.Bool.{cases_lt}
use Rattle.std.proofs.lemmas.Nat.{and_mask, mod-pow-add, mod_below, ones_cat, ones_le_self, pow_pos, zero_from_ones}
use Rattle.std.specs.Int.{bit_at}
use Rattle.std.specs.Prelude.{◌==◌, bit_and, count_ones, slice_index, if◌then◌else◌}
use Rattle.rh_layout.specs.Bits.{full_word, width_of}
use Rattle.rh_system.specs.Bits.{bits_in}
use Rattle.rh_report.specs.Counts.{counted}
use Rattle.rh_report.proofs.Counted.{counted_more, counted_one, counted_same, total}
use Rattle.rh_report.proofs.WordLines.{stands_from}

no_ones : count_ones 0 ≡ 0
no_ones = let few : count_ones 0 ≤ 0 = ones_le_self 0 in omega (arith, few)

one_one : count_ones 1 ≡ 1
one_one =
    let few : count_ones 1 ≤ 1 = ones_le_self 1 in
    ⊎_elim (λ none. (let zeros : count_ones 1 ≡ 0 = omega (arith, none) in let wrong : 1 ≡ 0 = zero_from_ones 1 zeros in absurd (omega (arith, wrong)))) (λ some. omega (arith, some, few)) (cases_lt (count_ones 1) 1)

ones_of_bit : (bit : ℕ) → bit < 2 → count_ones bit ≡ (if bit == 1 then 1 else 0)
ones_of_bit zero small = no_ones
ones_of_bit (suc zero) small = one_one
ones_of_bit (suc (suc bit)) small = absurd (omega (arith, small))

-- the lowest bits of a word
low_ones : (word count : ℕ) → count_ones (word % 2 ^ count) ≡ counted (λ k. bit_at word k == 1) 0 count
unfolding counted
low_ones word zero = let none : word % 2 ^ 0 ≡ 0 = omega arith in ap count_ones none ∙ no_ones
low_ones word (suc count) =
    let power : suc count ≡ 1 + count = omega arith in
    let next : count + 1 ≡ suc count = omega arith in
    let bit = bit_at word count in
    let small : bit < 2 = mod_below (word / 2 ^ count) 2 (omega arith) in
    let low : word % 2 ^ count < 2 ^ count = mod_below word (2 ^ count) (pow_pos count) in
    let swap : count_ones bit + count_ones (word % 2 ^ count) ≡ count_ones (word % 2 ^ count) + count_ones bit = omega arith in
    ap (λ n. count_ones (word % 2 ^ n)) power ∙ ap count_ones (mod-pow-add word 1 count) ∙ ones_cat count bit (word % 2 ^ count) low ∙ swap
    ∙ (λ i. low_ones word count i + ones_of_bit bit small i) ∙ sym (counted_one (λ k. bit_at word k == 1) count) ∙ ap (counted (λ k. bit_at word k == 1) 0) next

module _ (words : List ℕ) (start count : ℕ) where
  -- the bits of a word of an edge that stand for facts
  abbrev pub ones_at : ℕ → ℕ
  ones_at within = count_ones (bit_and (slice_index words (start + within)) (full_word count within))

  in_word : (within k : ℕ) → k < 64 → (bit_at (slice_index words (start + within)) (0 + k) == 1) ≡ stands_from words start (64 * within + k)
  unfolding bits_in
  in_word within k below =
      let bit = 64 * start + (64 * within + k) in
      let word : start + within ≡ bit / 64 = omega (arith, below) in
      let place : 0 + k ≡ bit % 64 = omega (arith, below) in
      ap (λ w. bit_at (slice_index words w) (0 + k) == 1) word ∙ ap (λ p. bit_at (slice_index words (bit / 64)) p == 1) place

  word_ones : (within size : ℕ) → size ≡ min 64 (count - 64 * within) → size ≤ 64 → ones_at within ≡ counted (stands_from words start) (64 * within) size
  word_ones within size is small =
      let word = slice_index words (start + within) in
      ap (λ n. count_ones (bit_and word (2 ^ n - 1))) (sym is) ∙ ap count_ones (and_mask word size) ∙ low_ones word size
      ∙ counted_same (λ k. bit_at word k == 1) (stands_from words start) 0 (64 * within) size (λ k below. in_word within k (omega (arith, below, small)))

  ones_before : (within : ℕ) → within ≤ width_of count → total ones_at within ≡ counted (stands_from words start) 0 (min (64 * within) count)
  unfolding counted
  ones_before zero inside = let none : 0 ≡ min (64 * 0) count = grind arith in ap (counted (stands_from words start) 0) none
  ones_before (suc within) inside =
      let before = ones_before within (omega (arith, inside)) in
      let size = min 64 (count - 64 * within) in
      let full : min (64 * within) count ≡ 64 * within = grind (arith, inside) in
      let here : ones_at within ≡ counted (stands_from words start) (0 + 64 * within) size =
      word_ones within size refl (grind arith) ∙ (let begins : 64 * within ≡ 0 + 64 * within = omega arith in ap (λ n. counted (stands_from words start) n size) begins) in
      let whole : 64 * within + size ≡ min (64 * suc within) count = grind (arith, inside) in
      (λ i. (before ∙ ap (counted (stands_from words start) 0) full) i + here i) ∙ sym (counted_more (stands_from words start) 0 (64 * within) size) ∙ ap (counted (stands_from words start) 0) whole

  -- those of all words of an edge with so many facts
  pub edge_ones : total ones_at (width_of count) ≡ counted (stands_from words start) 0 count
  edge_ones =
      let all : min (64 * width_of count) count ≡ count = grind arith in
      ones_before (width_of count) (omega arith) ∙ ap (counted (stands_from words start) 0) all
