-- The words that hold the bits whose numbers stand in other words, word by word.
use Rattle.std.proofs.Common.{ℕ, ◌≡◌, ◌+◌, ◌/◌, ◌%◌, ◌^◌, ◌<◌, ◌≤◌, ◌&&◌, ◌==◌, List, [], ◌∷◌, ◌++◌, length, refl, ap, sym, ◌∙◌, subst, arith, ⊎_elim}
use Rattle.std.specs.Int.{bit_at}
use Rattle.std.specs.Prelude.{count_ones, slice_index}
use Rattle.std.proofs.lemmas.Bool.{cases_lt}
use Rattle.std.proofs.lemmas.List.{get_or_append_left, get_or_past, get_or_push}
use Rattle.std.proofs.lemmas.Nat.Bits.{bit_at-zero}
use Rattle.std.proofs.Math.ListN.{length-append}
use Rattle.rh_system.specs.Bits.{bits_in}
use Rattle.rh_system.proofs.Supports.{bit_split}
use Rattle.rh_rank.specs.Numbering.{AreCounts, IsSpread}
use Rattle.rh_rank.specs.Rank.{rank}
use Rattle.rh_rank.proofs.WordRanks.{rank_within}

-- the words below this one are expanded
pub record IsExpandedBelow (numbers words before expanded : List ℕ) (word : ℕ) : Type 0 where
  pub as_many : length expanded ≡ word
  pub spread : (other : ℕ) → other < word → IsSpread numbers (slice_index words other) (slice_index before other) (slice_index expanded other)

pub expanded_none : (numbers words before : List ℕ) → IsExpandedBelow numbers words before [] 0
expanded_none numbers words before = record { as_many = refl; spread = λ other below. absurd (omega (arith, below)) }

pub expanded_more : (numbers words before expanded : List ℕ) (word part : ℕ) → IsExpandedBelow numbers words before expanded word → IsSpread numbers (slice_index words word) (slice_index before word) part
    → IsExpandedBelow numbers words before (expanded ++ part ∷ []) (word + 1)
expanded_more numbers words before expanded word part so_far is = record {
  as_many = (let size = length-append expanded (part ∷ []) in let was = so_far.as_many in omega (arith, size, was));
  spread = λ other below.
      let size = so_far.as_many in
      ⊎_elim (λ earlier. subst (IsSpread numbers (slice_index words other) (slice_index before other)) (sym (get_or_append_left expanded (part ∷ []) 0 other (omega (arith, earlier, size)))) (so_far.spread other earlier))
      (λ past. (let same : word ≡ other = omega (arith, below, past) in
      subst (IsSpread numbers (slice_index words other) (slice_index before other)) (sym (get_or_push expanded part 0 other (omega (arith, same, size))))
      (subst (λ n. IsSpread numbers (slice_index words n) (slice_index before n) part) same is)))
      (cases_lt other word);
}

-- past the words neither has a bit
past_words : (words : List ℕ) (bit : ℕ) → length words ≤ bit / 64 → (bit_at (slice_index words (bit / 64)) (bit % 64) == 1) ≡ (0 == 1)
past_words words bit past = ap (λ word. bit_at word (bit % 64) == 1) (get_or_past words (bit / 64) 0 past) ∙ ap (λ n. n == 1) (bit_at-zero (bit % 64))

module _ (numbers words before expanded : List ℕ) (counts : AreCounts words before) (all : IsExpandedBelow numbers words before expanded (length words)) where
  pub expanded_bit : (bit : ℕ) → bits_in expanded bit ≡ (bits_in words bit && bits_in numbers (rank (bits_in words) bit))
  unfolding bits_in
  expanded_bit bit =
      let set = bit_at (slice_index words (bit / 64)) (bit % 64) == 1 in
      ⊎_elim
      (λ inside. all.spread (bit / 64) inside (bit % 64) (omega arith)
      ∙ ap (λ n. set && bits_in numbers (n + count_ones (slice_index words (bit / 64) % 2 ^ (bit % 64)))) (counts.counts (bit / 64) (omega (arith, inside)))
      ∙ ap (λ n. set && bits_in numbers n) (sym (rank_within words (bit / 64) (bit % 64) (omega arith)) ∙ ap (rank (bits_in words)) (bit_split bit)))
      (λ past. (let size = all.as_many in past_words expanded bit (omega (arith, past, size)) ∙ sym (ap (λ b. b && bits_in numbers (rank (bits_in words) bit)) (past_words words bit past))))
      (cases_lt (bit / 64) (length words))
