-- The rule of the table: between any two steps its words and views are a state that keeps the words law, and stakes, loads and counts are in order.
use Rattle.std.specs.Prelude.{ℕ, ◌^◌, ◌<◌, ◌≡◌, List, [], length, slice_index, slice_index_or, sum_by, map, take}
use Rattle.atomic_table.specs.Table.{State}
use Rattle.rh_system.specs.Bits.{bit_count}
use Rattle.rh_core.specs.State.{CoreState}
use Rattle.rh_core.specs.WordsLaw.{KeepsWords}
use Rattle.rh_edge_words.specs.declared.view.View.{View}
use Rattle.rh_edge_words.specs.Meaning.{Meaning}
use Rattle.rh_edge_words.specs.Views.{worker_of, spent_view}

-- the state of the solver that words and views are
abbrev pub core_with : List ℕ → List View → CoreState
core_with words views = record { words = words; workers = map worker_of views }

-- The words of the system, which come first among those of a table. Dirty words follow
abbrev pub system_words : List ℕ → List ℕ → List ℕ
system_words full words = take (length full) words

-- the state of the solver that the words of a table and views are, whatever the dirty words are
abbrev pub core_in : List ℕ → List ℕ → List View → CoreState
core_in full words views = core_with (system_words full words) views

-- the state of the solver that the table is
abbrev pub core_of : {S : Type 0} → List ℕ → State S View → CoreState
core_of full s = core_in full s.words s.views

-- A seat counts its loads of each word and the bits in its credits. A spent one has no loads
pub record IsTallied (full : List ℕ) (v : View) : Type 0 where
  pub loads : 0 < v.stake → length v.loads ≡ length full
  pub no_loads : v.stake ≡ 0 → v.loads ≡ []
  pub fit : (word : ℕ) → slice_index v.credits word < 2 ^ 64
  pub counted : v.count ≡ bit_count v.credits

pub record KeepsTable {S : Type 0} (m : Meaning) (s : State S View) : Type 0 where
  pub core : KeepsWords m.full m.rows (core_of m.full s)
  -- the stakes of all seats add up to 16
  pub stakes : sum_by (λ v. v.stake) s.views ≡ 16
  pub tallied : (id : ℕ) → IsTallied m.full (slice_index_or s.views id spent_view)
