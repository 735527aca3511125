-- The set bits of words that hold the candidates of a program, and the sparse system.
use Rattle.std.proofs.Common.{ℕ, ◌≡◌, ◌*◌, ◌<◌, ◌&&◌, true, false, List, length, ap, sym, ◌∙◌, subst, arith}
use Rattle.std.specs.Prelude.{slice_index}
use Rattle.std.proofs.lemmas.Bool.{false_from_ne_true}
use Rattle.rh_layout.specs.Bits.{full_word, width_of}
use Rattle.rh_layout.proofs.EdgeWords.{edge_width}
use Rattle.rh_rows.specs.declared.ground.Ground.{Ground}
use Rattle.rh_rows.proofs.GreatestFacts.{supporting}
use Rattle.rh_system.specs.declared.system.Row.{Row}
use Rattle.rh_system.specs.Bits.{BitSet, bits_in}
use Rattle.rh_system.specs.Rows.{IsCovered, supports}
use Rattle.rh_sparse.specs.Candidates.{has_row}
use Rattle.rh_rank.specs.Numbering.{ones_before}
use Rattle.rh_sparse.specs.Parts.{AreCandidates, full_in, rows_in}
use Rattle.rh_rank.specs.Rank.{rank}
use Rattle.rh_sparse.specs.Sparse.{candidate_count, number_of, sparse_full, sparse_rows}
use Rattle.rh_sparse.proofs.FullEdge.{full_at}
use Rattle.rh_rank.proofs.Ranks.{rank_same}
use Rattle.rh_sparse.proofs.SparseRows.{number_below, out_of_sparse, row_is_candidate, same_support}

-- how many words the sparse system has, and what each holds
module _ (full : List ℕ) (rows : List Row) where
  pub sparse_size : length (sparse_full full rows) ≡ width_of (candidate_count full rows)
  unfolding sparse_full
  sparse_size = edge_width (candidate_count full rows)

  pub sparse_word : (word : ℕ) → word < length (sparse_full full rows) → full_word (candidate_count full rows) word ≡ slice_index (sparse_full full rows) word
  unfolding sparse_full
  sparse_word word below = let size = edge_width (candidate_count full rows) in sym (full_at (candidate_count full rows) word (omega (arith, below, size)))

  -- no row supports a number from the count on
  pub none_above : IsCovered full rows → (set : BitSet) (number : ℕ) → (number < candidate_count full rows → ⊥) → supports (sparse_rows rows) set number ≡ false
  none_above covered set number past =
      false_from_ne_true (supports (sparse_rows rows) set number)
      (λ is. let by = supporting (sparse_rows rows) set number is in
      let of = out_of_sparse rows by.row by.there in
      let same : number_of rows of.source.bit ≡ number = ap (λ (row : Row). row.bit) (sym of.is) ∙ by.bit_is in
      past (subst (λ n. n < candidate_count full rows) same (number_below full rows covered of.source.bit (row_is_candidate rows of.source of.there))))

module _ (facts : Ground) (words : List ℕ) (are : AreCandidates facts words) where
  abbrev rows : List Row
  rows = rows_in facts

  pub number_is : (bit : ℕ) → rank (bits_in words) bit ≡ number_of rows bit
  number_is = rank_same (bits_in words) (has_row rows) are.has_rows

  pub count_is : ones_before words (length words) ≡ candidate_count (full_in facts) rows
  count_is = number_is (64 * length words) ∙ ap (λ size. number_of rows (64 * size)) are.as_many

  -- rows support a candidate by a test of the numbers exactly if the sparse rows support its number
  pub supported_number : (set : BitSet) (bit number : ℕ) → bits_in words bit ≡ true → rank (bits_in words) bit ≡ number
      → supports rows (λ other. bits_in words other && set (rank (bits_in words) other)) bit ≡ supports (sparse_rows rows) set number
  supported_number set bit number candidate is =
      ap (λ (known : BitSet). supports rows known bit) (λ i other. are.has_rows other i && set (number_is other i))
      ∙ sym (same_support rows set bit (sym (are.has_rows bit) ∙ candidate)) ∙ ap (supports (sparse_rows rows) set) (sym (number_is bit) ∙ is)
