-- The sparse system: the rows of a system under the numbers of the bits that have rows.
use Rattle.std.specs.Prelude.{ℕ, ◌*◌, ◌&&◌, Bool, List, length, map, not}
use Rattle.std.specs.List.{filter, list_all}
use Rattle.rh_layout.specs.Bits.{full_edge}
use Rattle.rh_system.specs.declared.system.Row.{Row}
use Rattle.rh_system.specs.Bits.{bits_in}
use Rattle.rh_sparse.specs.Candidates.{has_row}
use Rattle.rh_rank.specs.Rank.{rank}

-- the number of a candidate: how many candidates come before it
abbrev pub number_of : List Row → ℕ → ℕ
number_of rows bit = rank (has_row rows) bit

-- how many candidates the full words hold
abbrev pub candidate_count : List ℕ → List Row → ℕ
candidate_count full rows = number_of rows (64 * length full)

-- each premise of the row is a candidate
abbrev pub is_kept : List Row → Row → Bool
is_kept rows row = list_all (has_row rows) row.premises

-- a row under the numbers of its bits
abbrev pub numbered : List Row → Row → Row
numbered rows row = record { bit = number_of rows row.bit; premises = map (number_of rows) row.premises }

-- the rows whose premises are candidates, under the numbers
unfoldable pub sparse_rows : List Row → List Row
sparse_rows rows = map (numbered rows) (filter (is_kept rows) rows)

-- the words with as many bits as there are candidates, from the lowest on
unfoldable pub sparse_full : List ℕ → List Row → List ℕ
sparse_full full rows = full_edge (candidate_count full rows)

-- how many candidates do not stand in the words
abbrev pub missing_count : List ℕ → List Row → List ℕ → ℕ
missing_count full rows words = rank (λ bit. has_row rows bit && not (bits_in words bit)) (64 * length full)
