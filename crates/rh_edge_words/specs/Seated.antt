-- A seat with its copy of the words, its count and its stake.
use Rattle.std.specs.Prelude.{ℕ, ◌+◌, ◌/◌, ◌^◌, ◌<◌, ◌≤◌, ◌≡◌, List, [], length, slice_index}
use Rattle.std.specs.Int.{bit_at}
use Rattle.rh_system.specs.declared.system.Row.{Row}
use Rattle.rh_system.specs.Bits.{IsSubword, bit_count}
use Rattle.rh_system.specs.Rows.{HoldsGreatest}
use Rattle.rh_edge_words.specs.declared.view.View.{View}
use Rattle.rh_edge_words.specs.Meaning.{Meaning}
use Rattle.rh_edge_words.specs.Views.{after_look, poorer, new_view, both_views}

-- what holds of the view of each seat that is not spent
pub record IsSeated (m : Meaning) (v : View) : Type 0 where
  pub live : 0 < v.stake
  pub most : v.stake ≤ 16
  pub as_long : length v.seen ≡ length m.full
  pub credits_as_long : length v.credits ≡ length m.full
  pub loads_as_long : length v.loads ≡ length m.full
  pub credits_fit : (k : ℕ) → slice_index v.credits k < 2 ^ 64
  pub counted : v.count ≡ bit_count v.credits
  pub few : length m.full < 2 ^ 32
  pub greatest : HoldsGreatest m.rows v.seen
  pub within : (word : ℕ) → IsSubword (slice_index v.seen word) (slice_index m.full word)

-- the seat's copy is the seen words of its view, its count is the number of bits in its credits, and its stake is that of its view
pub record IsSeat (m : Meaning) {A : Type 0} (v : View) (carried : List A) (copy : List ℕ) (cleared stake : ℕ) : Type 0 where
  pub seated : IsSeated m v
  pub empty : carried ≡ []
  pub copied : copy ≡ v.seen
  pub counted : cleared ≡ v.count
  pub staked : stake ≡ v.stake

-- a name has the full words and rows of a system, of fewer than 2 ^ 32 words
pub record IsNameOf (m : Meaning) (full : List ℕ) (rows : List Row) : Type 0 where
  pub full_is : m.full ≡ full
  pub rows_are : m.rows ≡ rows
  pub some : 0 < length m.full
  pub few : length m.full < 2 ^ 32
  pub fit : (word : ℕ) → slice_index m.full word < 2 ^ 64

-- how many dirty words so many nodes have, with 64 nodes in each
abbrev pub dirty_words : ℕ → ℕ
dirty_words nodes = (nodes + 63) / 64

-- a table has the words of the system, then dirty words, and no slots
pub record IsTableOf (m : Meaning) (words slots dirty : ℕ) (full : List ℕ) : Type 0 where
  pub some : 0 < length m.full
  pub few : length m.full < 2 ^ 32
  pub counts : words ≡ length m.full + dirty
  pub no_slots : slots ≡ 0
  pub fit : (k : ℕ) → slice_index m.full k < 2 ^ 64
  pub full_is : m.full ≡ full

-- The view after a split, and that of the new seat. One look was made at word 0 before
pub record SplitsView (v w new : View) : Type 0 where
  pub found : ℕ
  pub within : IsSubword found (slice_index v.seen 0)
  pub splitting : w ≡ poorer (after_look v 0 found)
  pub new_one : new ≡ new_view (after_look v 0 found)

-- The view after a join. One look was made at word 0 afterwards
pub record JoinsView (v other w : View) : Type 0 where
  pub found : ℕ
  pub within : IsSubword found (slice_index v.seen 0)
  pub joined : w ≡ after_look (both_views v other) 0 found

-- each bit of the words is in one of two parts
abbrev pub ArePartsOf : List ℕ → List ℕ → List ℕ → Type 0
ArePartsOf xs ys words = (word place : ℕ) → place < 64 → bit_at (slice_index xs word) place + bit_at (slice_index ys word) place ≡ bit_at (slice_index words word) place
