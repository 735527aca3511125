-- The words in which runs of 64 numbers begin.
use Rattle.std.proofs.Common.{ℕ, ◌≡◌, ◌+◌, ◌*◌, ◌/◌, ◌<◌, ◌≤◌, List, [], ◌∷◌, ◌++◌, length, refl, ap, sym, subst, arith, ⊎_elim}
use Rattle.std.specs.Prelude.{slice_index}
use Rattle.std.proofs.lemmas.Bool.{cases_lt}
use Rattle.std.proofs.lemmas.List.{get_or_append_left, get_or_push}
use Rattle.std.proofs.Math.ListN.{length-append}
use Rattle.rh_system.specs.Bits.{bits_in}
use Rattle.rh_rank.specs.Numbering.{AreBegins, StandsIn, ones_before}
use Rattle.rh_rank.specs.Rank.{rank}
use Rattle.rh_rank.proofs.Ranks.{below_by_rank, rank_rises}

-- the runs that begin in the first words, and the first number of the next run
pub record AreBeginsBelow (words begins : List ℕ) (next word : ℕ) : Type 0 where
  pub next_is : next ≡ 64 * length begins
  pub from : ones_before words word ≤ next
  pub soon : next < ones_before words word + 64
  pub stands : (run : ℕ) → run < length begins → StandsIn words (64 * run) (slice_index begins run)

pub begins_none : (words : List ℕ) → AreBeginsBelow words [] 0 0
unfolding rank
begins_none words = record { next_is = refl; from = omega arith; soon = omega arith; stands = λ run below. absurd (omega (arith, below)) }

module _ (words begins : List ℕ) (next word : ℕ) (so_far : AreBeginsBelow words begins next word) where
  -- a run begins in the word
  pub begins_more : next < ones_before words (word + 1) → ones_before words (word + 1) ≤ ones_before words word + 64 → AreBeginsBelow words (begins ++ word ∷ []) (next + 64) (word + 1)
  begins_more begun few = record {
    next_is = (let size = length-append begins (word ∷ []) in let was = so_far.next_is in omega (arith, size, was));
    from = (let was = so_far.from in omega (arith, was, few));
    soon = omega (arith, begun);
    stands = λ run below.
        let size = length-append begins (word ∷ []) in
        ⊎_elim (λ earlier. subst (StandsIn words (64 * run)) (sym (get_or_append_left begins (word ∷ []) 0 run earlier)) (so_far.stands run earlier))
        (λ past. (let same : length begins ≡ run = omega (arith, below, past, size) in
        let first : next ≡ 64 * run = (let was = so_far.next_is in omega (arith, was, same)) in
        subst (StandsIn words (64 * run)) (sym (get_or_push begins word 0 run same)) (subst (λ n. StandsIn words n word) first (so_far.from, begun))))
        (cases_lt run (length begins));
  }

  -- none does
  pub begins_same : ones_before words (word + 1) ≤ next → AreBeginsBelow words begins next (word + 1)
  begins_same none = record {
    next_is = so_far.next_is;
    from = none;
    soon = (let was = so_far.soon in let rise = rank_rises (bits_in words) (64 * word) (64 * (word + 1)) (omega arith) in omega (arith, was, rise));
    stands = so_far.stands;
  }

  pub begins_all : length words ≡ word → AreBegins words begins
  begins_all all =
      let count : ones_before words (length words) ≡ ones_before words word = ap (ones_before words) all in
      let from = so_far.from in
      let soon = so_far.soon in
      let is = so_far.next_is in
      record { as_many = omega (arith, count, from, soon, is); stands = so_far.stands }

module _ (words begins : List ℕ) (are : AreBegins words begins) where
  -- there is a run for each number below the count
  pub run_below : (number : ℕ) → number < ones_before words (length words) → number / 64 < length begins
  run_below number below = let size = are.as_many in omega (arith, below, size)

  -- a run begins in one of the words
  pub begins_inside : (run : ℕ) → run < length begins → slice_index begins run < length words
  begins_inside run below =
      let stands = are.stands run below in
      let size = are.as_many in
      let inside : 64 * run < ones_before words (length words) = omega (arith, below, size) in
      let low : ones_before words (slice_index begins run) < ones_before words (length words) = (let from = stands.0 in omega (arith, from, inside)) in
      let bits = below_by_rank (bits_in words) (64 * slice_index begins run) (64 * length words) low in
      omega (arith, bits)

  -- and no later than the next run
  pub begins_rise : (run : ℕ) → run + 1 < length begins → slice_index begins run < slice_index begins (run + 1) + 1
  begins_rise run below =
      let here = (are.stands run (omega (arith, below))).0 in
      let there = (are.stands (run + 1) below).1 in
      let less : ones_before words (slice_index begins run) < ones_before words (slice_index begins (run + 1) + 1) = omega (arith, here, there) in
      let bits = below_by_rank (bits_in words) (64 * slice_index begins run) (64 * (slice_index begins (run + 1) + 1)) less in
      omega (arith, bits)
