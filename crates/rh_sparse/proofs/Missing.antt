-- How many candidates do not stand in words whose numbers are Greatest of the sparse rows.
use Rattle.std.proofs.Common.{ℕ, zero, suc, ◌≡◌, ◌+◌, ◌-◌, ◌*◌, ◌^◌, ◌<◌, ◌≤◌, ◌&&◌, Bool, true, false, not, List, [], ◌∷◌, take, length, sum_by, refl, ap, sym, ◌∙◌, arith, ⊎_elim}
use Rattle.std.specs.Prelude.{count_ones, slice_index, if◌then◌else◌}
use Rattle.std.proofs.lemmas.Bool.{cases_Bool, false_from_ne_true, false≢true}
use Rattle.std.proofs.lemmas.List.Sums.{sum_by-append}
use Rattle.std.proofs.Math.Seq.{take-length, take-suc}
use Rattle.rh_layout.specs.Bits.{full_edge}
use Rattle.rh_layout.proofs.EdgeWords.{edge_width}
use Rattle.rh_system.specs.declared.system.Row.{Row}
use Rattle.rh_system.specs.Bits.{BitSet, bit_count, bits_in}
use Rattle.rh_system.specs.Rows.{IsCovered, IsGreatest}
use Rattle.rh_sparse.specs.Candidates.{has_row}
use Rattle.rh_rank.specs.Rank.{rank}
use Rattle.rh_sparse.specs.Sparse.{candidate_count, missing_count, number_of, sparse_full, sparse_rows}
use Rattle.rh_sparse.proofs.FullEdge.{full_above, full_below, full_fits}
use Rattle.rh_sparse.proofs.Numbers.{none_above, sparse_size}
use Rattle.rh_rank.proofs.Ranks.{rank_out, rank_same}
use Rattle.rh_rank.proofs.WordRanks.{rank_next}

-- a set of the members whose ranks pass a test has as many members as ranks pass it
rank_of_ranks : (set test : BitSet) (bit : ℕ) → rank (λ b. set b && test (rank set b)) bit ≡ rank test (rank set bit)
unfolding rank
rank_of_ranks set test zero = refl
rank_of_ranks set test (suc bit) =
    let rest = rank_of_ranks set test bit in
    let here = rank set bit in
    ⊎_elim
    (λ is. let next : here + 1 ≡ suc here = omega arith in
    (λ i. rest i + (if is i && test here then 1 else 0)) ∙ sym (ap (λ b. rank test (here + (if b then 1 else 0))) is ∙ ap (rank test) next))
    (λ is. let same : here + 0 ≡ here = omega arith in
    let none : rank test here + 0 ≡ rank test here = omega arith in
    (λ i. rest i + (if is i && test here then 1 else 0)) ∙ none ∙ sym (ap (λ b. rank test (here + (if b then 1 else 0))) is ∙ ap (rank test) same))
    (cases_Bool (set bit))

-- each bit is a member or not
rank_parted : (set : BitSet) (bit : ℕ) → rank (λ b. not (set b)) bit + rank set bit ≡ bit
unfolding rank
rank_parted set zero = refl
rank_parted set (suc bit) =
    let rest = rank_parted set bit in
    let outside = rank (λ b. not (set b)) bit in
    let inside = rank set bit in
    ⊎_elim
    (λ is. let one = ap (λ b. (outside + (if not b then 1 else 0)) + (inside + (if b then 1 else 0))) is in omega (arith, rest, one))
    (λ is. let one = ap (λ b. (outside + (if not b then 1 else 0)) + (inside + (if b then 1 else 0))) is in omega (arith, rest, one))
    (cases_Bool (set bit))

-- past the last member the rank stays
rank_stays : (set : BitSet) (low more : ℕ) → ((bit : ℕ) → low ≤ bit → set bit ≡ false) → rank set (low + more) ≡ rank set low
rank_stays set low zero none = let same : low + 0 ≡ low = omega arith in ap (rank set) same
rank_stays set low (suc more) none =
    let next : low + suc more ≡ (low + more) + 1 = omega arith in
    ap (rank set) next ∙ rank_out set (low + more) (none (low + more) (omega arith)) ∙ rank_stays set low more none

rank_upto : (set : BitSet) (low high : ℕ) → low ≤ high → ((bit : ℕ) → low ≤ bit → set bit ≡ false) → rank set high ≡ rank set low
rank_upto set low high le none =
    let split : high ≡ low + (high - low) = omega (arith, le) in
    ap (rank set) split ∙ rank_stays set low (high - low) none

-- where all bits below one are members, that many are below it
rank_full : (set : BitSet) (bit : ℕ) → ((other : ℕ) → other < bit → set other ≡ true) → rank set bit ≡ bit
unfolding rank
rank_full set zero all = refl
rank_full set (suc bit) all =
    let rest = rank_full set bit (λ other below. all other (omega (arith, below))) in
    let one = ap (λ b. rank set bit + (if b then 1 else 0)) (all bit (omega arith)) in
    omega (arith, rest, one)

-- the bits of words are those below the end
module _ (words : List ℕ) (fits : (word : ℕ) → slice_index words word < 2 ^ 64) where
  counted_before : (word : ℕ) → word ≤ length words → sum_by count_ones (take word words) ≡ rank (bits_in words) (64 * word)
  unfolding rank
  counted_before zero inside = refl
  counted_before (suc word) inside =
      let rest = counted_before word (omega (arith, inside)) in
      let next : suc word ≡ word + 1 = omega arith in
      let more : sum_by count_ones (take (suc word) words) ≡ sum_by count_ones (take word words) + sum_by count_ones (slice_index words word ∷ []) =
      ap (sum_by count_ones) (take-suc words word 0 (omega (arith, inside))) ∙ sum_by-append count_ones (take word words) (slice_index words word ∷ []) in
      let one : sum_by count_ones (slice_index words word ∷ []) ≡ count_ones (slice_index words word) = omega arith in
      let after : rank (bits_in words) (64 * suc word) ≡ rank (bits_in words) (64 * word) + count_ones (slice_index words word) = ap (λ n. rank (bits_in words) (64 * n)) next ∙ rank_next words word (fits word) in
      omega (arith, rest, more, one, after)

  pub counted : bit_count words ≡ rank (bits_in words) (64 * length words)
  counted = ap (sum_by count_ones) (sym (take-length words)) ∙ counted_before (length words) (omega arith)

-- the words with so many bits have that many
full_count : (count : ℕ) → bit_count (full_edge count) ≡ count
full_count count =
    let size = edge_width count in
    counted (full_edge count) (full_fits count)
    ∙ rank_upto (bits_in (full_edge count)) count (64 * length (full_edge count)) (omega (arith, size)) (full_above count)
    ∙ rank_full (bits_in (full_edge count)) count (full_below count)

module _ (full : List ℕ) (rows : List Row) (covered : IsCovered full rows) (numbers : List ℕ) (greatest : IsGreatest (sparse_rows rows) numbers) where
  -- no number from the count on stands in them
  none_past : (number : ℕ) → candidate_count full rows ≤ number → bits_in numbers number ≡ false
  none_past number past =
      false_from_ne_true (bits_in numbers number)
      (λ stands. let in_greatest = (greatest number).0 stands in
      let supported = in_greatest.1 number in_greatest.2 in
      false≢true (sym (none_above full rows covered in_greatest.0 number (λ below. absurd (omega (arith, past, below)))) ∙ supported))

  -- a number for each candidate
  numbers_counted : (fits : (word : ℕ) → slice_index numbers word < 2 ^ 64) → length numbers ≡ length (sparse_full full rows) → bit_count numbers ≡ rank (bits_in numbers) (candidate_count full rows)
  numbers_counted fits as_long =
      let size = sparse_size full rows in
      counted numbers fits ∙ rank_upto (bits_in numbers) (candidate_count full rows) (64 * length numbers) (omega (arith, as_long, size)) none_past

  module _ (words : List ℕ) (are : (bit : ℕ) → bits_in words bit ≡ (has_row rows bit && bits_in numbers (number_of rows bit))) where
    missing_is : missing_count full rows words ≡ rank (λ number. not (bits_in numbers number)) (candidate_count full rows)
    missing_is =
        rank_same (λ bit. has_row rows bit && not (bits_in words bit)) (λ bit. has_row rows bit && not (bits_in numbers (number_of rows bit)))
        (λ bit. ap (λ b. has_row rows bit && not b) (are bit) ∙ once (has_row rows bit) (bits_in numbers (number_of rows bit))) (64 * length full)
        ∙ rank_of_ranks (has_row rows) (λ number. not (bits_in numbers number)) (64 * length full)
      where
        once : (a b : Bool) → (a && not (a && b)) ≡ (a && not b)
        once true b = refl
        once false b = refl

    -- the candidates that are missing, and those that are not
    pub missing_and_greatest : (fits : (word : ℕ) → slice_index numbers word < 2 ^ 64) → length numbers ≡ length (sparse_full full rows)
        → missing_count full rows words + bit_count numbers ≡ bit_count (sparse_full full rows)
    unfolding sparse_full
    missing_and_greatest fits as_long =
        let missing = missing_is in
        let there = numbers_counted fits as_long in
        let parted = rank_parted (bits_in numbers) (candidate_count full rows) in
        let all = full_count (candidate_count full rows) in
        omega (arith, missing, there, parted, all)
