-- What the hints of a system promise, and what keeps the numbers of nodes small.
use Rattle.std.specs.Prelude.{ℕ, ◌≤◌, length}
use Rattle.rh_layout.specs.declared.laid.LaidProc.{LaidProc}

-- a range of the first words
abbrev pub IsRange : ℕ → ℕ × ℕ → Type 0
IsRange words range = (range.0 ≤ range.1) × (range.1 ≤ words)

-- a procedure has at most 1,024 statements, and at most 2,049 edges
pub record HasFewNodes (laid : LaidProc) : Type 0 where
  pub statements : length laid.entering ≤ 1024
  pub edges : length laid.edges ≤ 2049
