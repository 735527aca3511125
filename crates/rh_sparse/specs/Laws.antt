-- What the sparse system has to do with the system that it is made from.
use Rattle.std.specs.Prelude.{ℕ, ◌↔◌, IsTrue, List}
use Rattle.rh_system.specs.declared.system.Row.{Row}
use Rattle.rh_system.specs.Rows.{IsCovered, IsInGreatest}
use Rattle.rh_sparse.specs.Candidates.{has_row}
use Rattle.rh_sparse.specs.Sparse.{number_of, sparse_full, sparse_rows}

-- a bit is in Greatest exactly if it is a candidate and its number is in Greatest of the sparse rows
abbrev pub GreatestIsSparse : Type 0
GreatestIsSparse = (rows : List Row) (bit : ℕ) → IsInGreatest rows bit ↔ (IsTrue (has_row rows bit) × IsInGreatest (sparse_rows rows) (number_of rows bit))

-- where the full words cover the rows, the sparse full words cover the sparse rows
abbrev pub SparseIsCovered : Type 0
SparseIsCovered = (full : List ℕ) (rows : List Row) → IsCovered full rows → IsCovered (sparse_full full rows) (sparse_rows rows)
