-- The workers of a table.
use Rattle.std.specs.Prelude.{ℕ, ◌+◌, ◌<◌, ◌≤◌, ◌≡◌, List, length, replicate, slice_index_or, sum_by}
use Rattle.std.specs.List.{All}
use Rattle.atomic_table.specs.Seated.{TableId}
use Rattle.rh_system.specs.declared.system.Row.{Row}
use Rattle.rh_system.specs.Bits.{bit_count}
use Rattle.rh_system.specs.Rows.{IsGreatest}
use Rattle.rh_edge_words.specs.declared.view.View.{View}

-- a worker as contracts see it: the table and the view of its seat, the turns of its last run, its number, and the hint rounds of its last run
abbrev pub Seen : Type 0
Seen = TableId × View × ℕ × ℕ × ℕ

-- the worker has loaded each of so many words that often
abbrev pub HasLoaded : ℕ → ℕ → Seen → Type 0
HasLoaded words n w = w.1.loads ≡ replicate words n

-- so many workers have seats of the table, with the whole stake. Each has its place for a number, and has loaded nothing
pub record IsCrew (table : TableId) (words workers : ℕ) (crew : List Seen) : Type 0 where
  pub many : length crew ≡ workers
  pub tables : All (λ w. w.0 ≡ table) crew
  pub stakes : sum_by (λ w. w.1.stake) crew ≡ 16
  pub fresh : All (HasLoaded words 0) crew
  pub numbered : (i : ℕ) (d : Seen) → i < workers → (slice_index_or crew i d).3 ≡ i

-- the worker has come to its end in one turn or more, and at most one more than there are bits
pub record HasRun (full : List ℕ) (rows : List Row) (w : Seen) : Type 0 where
  pub greatest : IsGreatest rows w.1.seen
  pub some : 0 < w.2
  pub few : w.2 ≤ bit_count full + 1
