-- The words with so many bits, from the lowest on.
use Rattle.std.proofs.Common.{ℕ, ◌≡◌, ◌-◌, ◌*◌, ◌/◌, ◌%◌, ◌^◌, ◌<◌, ◌≤◌, ◌==◌, min, true, false, ap, ◌∙◌, arith, eq-eqb, ⊎_elim}
use Rattle.std.specs.Int.{bit_at}
use Rattle.std.specs.Prelude.{slice_index}
use Rattle.std.proofs.Math.Nat.{pow-le-pow_right}
use Rattle.std.proofs.lemmas.Bool.{cases_lt}
use Rattle.std.proofs.lemmas.List.{get_or_past}
use Rattle.std.proofs.lemmas.List.FromFn.{get_or-map-range_with_len}
use Rattle.std.proofs.lemmas.Nat.Bits.{bit_at-zero, bit_at_ones, bit_at_ones_above}
use Rattle.rh_layout.specs.Bits.{full_edge, full_word, width_of}
use Rattle.rh_layout.proofs.EdgeWords.{edge_width}
use Rattle.rh_system.specs.Bits.{bits_in}

-- a word of them
pub full_at : (count word : ℕ) → word < width_of count → slice_index (full_edge count) word ≡ full_word count word
full_at count word below = get_or-map-range_with_len (full_word count) 0 (width_of count) word word 0 below (omega arith)

-- each number below the count stands in them
pub full_below : (count number : ℕ) → number < count → bits_in (full_edge count) number ≡ true
unfolding bits_in
full_below count number below =
    let inside : number / 64 < width_of count = omega (arith, below) in
    let one : bit_at (full_word count (number / 64)) (number % 64) ≡ 1 = bit_at_ones (min 64 (count - 64 * (number / 64))) (number % 64) (omega (arith, below)) in
    eq-eqb (bit_at (slice_index (full_edge count) (number / 64)) (number % 64)) 1 (ap (λ word. bit_at word (number % 64)) (full_at count (number / 64) inside) ∙ one)

-- and no other
pub full_above : (count number : ℕ) → count ≤ number → bits_in (full_edge count) number ≡ false
unfolding bits_in
full_above count number past =
    ⊎_elim
    (λ inside. (let none : bit_at (full_word count (number / 64)) (number % 64) ≡ 0 = bit_at_ones_above (min 64 (count - 64 * (number / 64))) (number % 64) (omega (arith, past)) in
    ap (λ word. bit_at word (number % 64) == 1) (full_at count (number / 64) inside) ∙ ap (λ bit. bit == 1) none))
    (λ outside. (let size = edge_width count in
    ap (λ word. bit_at word (number % 64) == 1) (get_or_past (full_edge count) (number / 64) 0 (omega (arith, outside, size))) ∙ ap (λ bit. bit == 1) (bit_at-zero (number % 64))))
    (cases_lt (number / 64) (width_of count))

-- each of them is a word of 64 bits
pub full_fits : (count word : ℕ) → slice_index (full_edge count) word < 2 ^ 64
full_fits count word =
    ⊎_elim
    (λ inside. (let read = full_at count word inside in
    let few : min 64 (count - 64 * word) ≤ 64 = omega arith in
    let small : 2 ^ min 64 (count - 64 * word) ≤ 2 ^ 64 = pow-le-pow_right (omega arith) few in
    omega (arith, read, small)))
    (λ outside. (let size = edge_width count in let read = get_or_past (full_edge count) word 0 (omega (arith, outside, size)) in omega (arith, read)))
    (cases_lt word (width_of count))
