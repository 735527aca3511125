-- The words law, which every lawful move keeps.
use Rattle.std.specs.Prelude.{ℕ, ◌<◌, ◌≡◌, false, List, [], length, slice_index}
use Rattle.std.specs.Int.{bit_at}
use Rattle.rh_system.specs.declared.system.Row.{Row}
use Rattle.rh_system.specs.Bits.{IsSubword}
use Rattle.rh_system.specs.Rows.{HoldsGreatest}
use Rattle.rh_core.specs.State.{WorkerState, CoreState, worker_at, IsLive, holders}

-- each word is within what the worker has seen of it
pub record SeesWords (words : List ℕ) (w : WorkerState) : Type 0 where
  pub as_long : length w.seen ≡ length words
  pub credits_as_long : length w.credits ≡ length words
  pub within : (word : ℕ) → IsSubword (slice_index words word) (slice_index w.seen word)

pub record KeepsWords (full : List ℕ) (rows : List Row) (s : CoreState) : Type 0 where
  pub as_long : length s.words ≡ length full
  -- every supported set is within the words
  pub greatest : HoldsGreatest rows s.words
  pub seen : (worker : ℕ) → IsLive s worker → SeesWords s.words (worker_at s worker)
  pub spent : (worker : ℕ) → (worker_at s worker).live ≡ false → ((worker_at s worker).seen ≡ []) × ((worker_at s worker).credits ≡ [])
  -- each full bit is held once, by the word or by the credits of one worker, and no other bit is held
  pub once : (word place : ℕ) → place < 64 → holders s word place ≡ bit_at (slice_index full word) place

-- a state of the pure core: no worker is spent
pub record IsCore (full : List ℕ) (rows : List Row) (s : CoreState) : Type 0 where
  pub keeps : KeepsWords full rows s
  pub all_live : (worker : ℕ) → worker < length s.workers → IsLive s worker
