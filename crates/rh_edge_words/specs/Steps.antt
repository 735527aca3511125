-- What a step tells the seat that makes it, and which move of the core it is.
use Rattle.std.specs.Prelude.{ℕ, ◌^◌, ◌<◌, ◌≤◌, ◌≡◌, ◌≢◌, List, [], ◌∷◌, ◌++◌, length, slice_index, slice_index_or, slice_set, bit_and, bit_or}
use Rattle.atomic_table.specs.Table.{Step, Me}
use Rattle.rh_system.specs.Bits.{IsSubword, bit_count}
use Rattle.rh_system.specs.Rows.{HoldsGreatest}
use Rattle.rh_system.specs.declared.system.Row.{Row}
use Rattle.rh_core.specs.Moves.{MayClear, Move}
use Rattle.rh_edge_words.specs.declared.view.View.{View}
use Rattle.rh_edge_words.specs.Meaning.{Meaning}
use Rattle.rh_edge_words.specs.Views.{spent_view, after_look, after_load, after_clear, poorer, new_view, both_views}
use Rattle.rh_edge_words.specs.Rule.{system_words, core_in}

-- the word that was found is within what the seat had seen of it, and the seat's words still hold Greatest
pub record Finds (m : Meaning) (word : ℕ) (v : View) (found : ℕ) (w : View) : Type 0 where
  pub within : IsSubword found (slice_index v.seen word)
  pub greatest : HoldsGreatest m.rows w.seen
  pub stake : w.stake ≤ 16
  pub fit : (k : ℕ) → slice_index w.credits k < 2 ^ 64
  pub counted : w.count ≡ bit_count w.credits

module _ {S : Type 0} where
  -- the seat has the view w after the step, and carries what it carried
  pub record Tells (m : Meaning) (word : ℕ) (me : Me S View) (found : ℕ) (w : View) (after : Me S View) : Type 0 where
    pub view : after.0 ≡ w
    pub carried : after.1 ≡ me.1
    pub finds : Finds m word me.0 found after.0

  abbrev pub Looks : Meaning → Step S → Me S View → ℕ → Me S View → Type 0
  Looks m step me found after = Tells m step.word me found (after_look me.0 step.word found) after

  abbrev pub Loads : Meaning → Step S → Me S View → ℕ → Me S View → Type 0
  Loads m step me found after = Tells m step.word me found (after_load me.0 step.word found) after

  abbrev pub Clears : Meaning → Step S → Me S View → ℕ → Me S View → Type 0
  Clears m step me found after = Tells m step.word me found (after_clear me.0 step.word step.first found) after

  -- a step on a dirty word, which leaves what the seat knows as it is
  abbrev pub Stays : Step S → Me S View → ℕ → Me S View → Type 0
  Stays step me found after = after ≡ me

-- the view of the seat of this number, and a spent one where there is none
abbrev pub view_at : List View → ℕ → View
view_at views id = slice_index_or views id spent_view

-- Steps on the words of the system, which come first in the table, are moves of the core: a look is a load that is not counted. A step on a dirty word leaves the state of the core as it is
pub record StepsAreMoves (rows : List Row) (full words : List ℕ) (views : List View) (id : ℕ) : Type 0 where
  pub look : (word : ℕ) → word < length (system_words full words) → Move rows (core_in full words views) (core_in full words (slice_set views id (after_look (view_at views id) word (slice_index words word))))
  pub load : (word : ℕ) → word < length (system_words full words) → Move rows (core_in full words views) (core_in full words (slice_set views id (after_load (view_at views id) word (slice_index words word))))
  pub clear : (word mask : ℕ) → word < length (system_words full words) → mask < 2 ^ 64 → MayClear rows (view_at views id).seen word mask
      → Move rows (core_in full words views) (core_in full (slice_set words word (bit_and (slice_index words word) mask)) (slice_set views id (after_clear (view_at views id) word mask (slice_index words word))))
  pub split : 2 ≤ (view_at views id).stake → Move rows (core_in full words views) (core_in full words (slice_set views id (poorer (view_at views id)) ++ new_view (view_at views id) ∷ []))
  pub join : (other : ℕ) → id ≢ other → 0 < (view_at views other).stake
      → Move rows (core_in full words views) (core_in full words (slice_set (slice_set views id (both_views (view_at views id) (view_at views other))) other spent_view))
  pub mark : (word mask : ℕ) → length full ≤ word → core_in full (slice_set words word (bit_or (slice_index words word) mask)) views ≡ core_in full words views
  pub take : (word : ℕ) → length full ≤ word → core_in full (slice_set words word 0) views ≡ core_in full words views
