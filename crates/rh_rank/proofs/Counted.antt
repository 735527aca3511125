-- Counts of bits before words, and what they tell of a range of words.
use Rattle.std.proofs.Common.{ℕ, zero, suc, ◌≡◌, ◌+◌, ◌-◌, ◌*◌, ◌/◌, ◌%◌, ◌^◌, ◌<◌, ◌≤◌, ◌==◌, true, List, [], ◌∷◌, ◌++◌, length, get_or, refl, ap, sym, ◌∙◌, subst, arith, ⊎_elim}
use Rattle.std.specs.Int.{bit_at}
use Rattle.std.specs.List.{All, between}
use Rattle.std.specs.List.Sorted.{IsNonDecreasing, IsPartitionPoint}
use Rattle.std.specs.Prelude.{count_ones, slice_index}
use Rattle.std.proofs.lemmas.Bool.{cases_lt}
use Rattle.std.proofs.lemmas.List.{get_or_append_left, get_or_default, get_or_push}
use Rattle.std.proofs.lemmas.List.Edits.{get_or-between, length-between}
use Rattle.std.proofs.lemmas.List.Sorted.{IsNonDecreasingBy-from_default}
use Rattle.std.proofs.Math.ListN.{length-append}
use Rattle.rh_system.specs.Bits.{bits_in}
use Rattle.rh_rank.specs.Numbering.{AreCounts, StandsIn, ones_before}
use Rattle.rh_rank.specs.Rank.{rank}
use Rattle.rh_system.proofs.Supports.{bit_inside, bit_split, bits_in_at}
use Rattle.rh_rank.proofs.Ranks.{rank_le, rank_rises}
use Rattle.rh_rank.proofs.WordRanks.{few_ones, rank_next, rank_within}

-- no more bits are set than there are
pub few_before : (words : List ℕ) (word : ℕ) → ones_before words word ≤ 64 * word
few_before words word = rank_le (bits_in words) (64 * word)

-- a word has few bits
pub few_more : (words : List ℕ) (word : ℕ) → slice_index words word < 2 ^ 64 → ones_before words (word + 1) ≤ ones_before words word + 64
few_more words word fits = let next = rank_next words word fits in let few = few_ones (slice_index words word) fits in omega (arith, next, few)

-- the counts before the first words
pub record AreCountsBelow (words before : List ℕ) (count word : ℕ) : Type 0 where
  pub as_many : length before ≡ word
  pub counts : (other : ℕ) → other < word → slice_index before other ≡ ones_before words other
  pub count_is : count ≡ ones_before words word
  pub few : count ≤ 64 * word

counts_pushed : (words before : List ℕ) (count word : ℕ) → AreCountsBelow words before count word
    → (other : ℕ) → other < word + 1 → slice_index (before ++ count ∷ []) other ≡ ones_before words other
counts_pushed words before count word so_far other below =
    let size = so_far.as_many in
    ⊎_elim (λ earlier. get_or_append_left before (count ∷ []) 0 other (omega (arith, earlier, size)) ∙ so_far.counts other earlier)
    (λ past. (let same : other ≡ word = omega (arith, below, past) in get_or_push before count 0 other (omega (arith, same, size)) ∙ so_far.count_is ∙ ap (ones_before words) (sym same)))
    (cases_lt other word)

pub counts_none : (words : List ℕ) → AreCountsBelow words [] 0 0
unfolding rank
counts_none words = record { as_many = refl; counts = λ other below. absurd (omega (arith, below)); count_is = refl; few = omega arith }

pub counts_more : (words before : List ℕ) (count word : ℕ) → AreCountsBelow words before count word → slice_index words word < 2 ^ 64
    → AreCountsBelow words (before ++ count ∷ []) (count + count_ones (slice_index words word)) (word + 1)
counts_more words before count word so_far fits = record {
  as_many = (let size = length-append before (count ∷ []) in let was = so_far.as_many in omega (arith, size, was));
  counts = counts_pushed words before count word so_far;
  count_is = ap (λ n. n + count_ones (slice_index words word)) so_far.count_is ∙ sym (rank_next words word fits);
  few = (let was = so_far.few in let small = few_ones (slice_index words word) fits in omega (arith, was, small));
}

pub counts_all : (words before : List ℕ) (count word : ℕ) → AreCountsBelow words before count word → length words ≡ word → AreCounts words (before ++ count ∷ [])
counts_all words before count word so_far all = record {
  as_many = (let size = length-append before (count ∷ []) in let was = so_far.as_many in omega (arith, size, was, all));
  counts = λ other below. counts_pushed words before count word so_far other (omega (arith, below, all));
}

-- the bit of a number, by its word and the bits below it in the word
module _ (words : List ℕ) (number word : ℕ) (stands : StandsIn words number word) where
  pub is_counted : slice_index words word < 2 ^ 64 → number - ones_before words word < count_ones (slice_index words word)
  is_counted fits = let next = rank_next words word fits in let low = stands.0 in let high = stands.1 in omega (arith, next, low, high)

  pub bit_set : (place : ℕ) → place < 64 → bit_at (slice_index words word) place ≡ 1 → bits_in words (64 * word + place) ≡ true
  bit_set place small set = bits_in_at words word place small ∙ ap (λ bit. bit == 1) set

  pub bit_number : (place : ℕ) → place < 64 → count_ones (slice_index words word % 2 ^ place) ≡ number - ones_before words word → rank (bits_in words) (64 * word + place) ≡ number
  bit_number place small after =
      let low = stands.0 in
      let within = rank_within words word place (omega (arith, small)) in
      omega (arith, low, within, after)

module _ (words before : List ℕ) (counts : AreCounts words before) where
  pub ones_rise : (low high : ℕ) → low ≤ high → ones_before words low ≤ ones_before words high
  ones_rise low high le = rank_rises (bits_in words) (64 * low) (64 * high) (omega (arith, le))

  pub count_at : (word : ℕ) → word < length before → get_or before word 0 ≡ ones_before words word
  count_at word below = let size = counts.as_many in counts.counts word (omega (arith, below, size))

  -- no count is more than that of all bits
  pub counts_within : All (λ count. count ≤ ones_before words (length words)) before
  counts_within word d below =
      let size = counts.as_many in
      let read = get_or_default before word d 0 below ∙ count_at word below in
      let rise = ones_rise word (length words) (omega (arith, below, size)) in
      omega (arith, read, rise)

  -- the number of a bit is the count before its word and that of the bits below it
  pub number_of_bit : (bit : ℕ) → bits_in words bit ≡ true → get_or before (bit / 64) 0 + count_ones (get_or words (bit / 64) 0 % 2 ^ (bit % 64)) ≡ rank (bits_in words) bit
  number_of_bit bit set =
      let inside = bit_inside words bit set in
      let below = count_ones (get_or words (bit / 64) 0 % 2 ^ (bit % 64)) in
      ap (λ n. n + below) (counts.counts (bit / 64) (omega (arith, inside))) ∙ sym (rank_within words (bit / 64) (bit % 64) (omega arith)) ∙ ap (rank (bits_in words)) (bit_split bit)

  pub few_numbers : (bit : ℕ) → bits_in words bit ≡ true → rank (bits_in words) bit ≤ 64 * length words
  few_numbers bit set = let inside = bit_inside words bit set in let few = rank_le (bits_in words) bit in omega (arith, inside, few)

  counts_in : (first end k : ℕ) → end ≤ length before → first + k < end → get_or (between first end before) k 0 ≡ ones_before words (first + k)
  counts_in first end k inside below = get_or-between before first end k 0 below ∙ count_at (first + k) (omega (arith, inside, below))

  -- the counts of a range rise
  pub range_rises : (first end : ℕ) → end ≤ length before → IsNonDecreasing (between first end before)
  range_rises first end inside =
      IsNonDecreasingBy-from_default (λ n. n) (between first end before) 0
      (λ i j le below.
      let size = length-between before first end inside in
      let one = counts_in first end i inside (omega (arith, le, below, size)) in
      let two = counts_in first end j inside (omega (arith, below, size)) in
      let rise = ones_rise (first + i) (first + j) (omega (arith, le)) in
      omega (arith, one, two, rise))

  -- the word of a number, by the counts that are not above it
  module _ (first end number passed : ℕ) (inside : end ≤ length words) (apart : first < end) (from : ones_before words first ≤ number) (upto : number < ones_before words end)
      (bound : passed ≤ length (between (first + 1) end before))
      (point : IsPartitionPoint (λ count. count ≤ number) (λ count. number < count) (between (first + 1) end before) passed) where
    size : length (between (first + 1) end before) ≡ end - (first + 1)
    size = let whole = counts.as_many in length-between before (first + 1) end (omega (arith, inside, whole))

    pub word_below : first + passed < length words
    word_below = let is = size in omega (arith, bound, is, inside, apart)

    reached : (passed' : ℕ) → passed' ≡ passed → ones_before words (first + passed') ≤ number
    reached zero is = let same : first ≡ first + zero = omega arith in subst (λ word. ones_before words word ≤ number) same from
    reached (suc last) is =
        let whole = counts.as_many in
        let wide = size in
        let read = counts_in (first + 1) end last (omega (arith, inside, whole)) (omega (arith, is, bound, wide, apart)) in
        let low = point.0 last 0 (omega arith) (omega (arith, is)) in
        let same : (first + 1) + last ≡ first + suc last = omega arith in
        subst (λ word. ones_before words word ≤ number) same (subst (λ n. n ≤ number) read low)

    ended : number < ones_before words ((first + passed) + 1)
    ended =
        let whole = counts.as_many in
        let wide = size in
        ⊎_elim (λ inner. (let read = counts_in (first + 1) end passed (omega (arith, inside, whole)) (omega (arith, inner, wide, apart)) in
        let high = point.1 passed 0 (omega arith) inner in
        let same : (first + 1) + passed ≡ (first + passed) + 1 = omega arith in
        subst (λ word. number < ones_before words word) same (subst (λ n. number < n) read high)))
        (λ all. (let same : end ≡ (first + passed) + 1 = omega (arith, all, bound, wide, apart) in subst (λ word. number < ones_before words word) same upto))
        (cases_lt passed (length (between (first + 1) end before)))

    pub word_found : StandsIn words number (first + passed)
    word_found = (reached passed refl, ended)
