-- The moves of a solver. Each is one step on one word.
use Rattle.std.specs.Prelude.{ℕ, ◌+◌, ◌*◌, ◌^◌, ◌<◌, ◌≡◌, ◌≢◌, false, List, [], ◌∷◌, ◌++◌, length, slice_index, slice_set, bit_and, bit_or}
use Rattle.std.specs.Int.{bit_at, bit_not, w64}
use Rattle.rh_system.specs.declared.system.Row.{Row}
use Rattle.rh_system.specs.Bits.{bits_in}
use Rattle.rh_system.specs.Rows.{supports}
use Rattle.rh_core.specs.State.{WorkerState, CoreState, newcomer, spent, worker_at, IsLive}

-- ---- what a move does to a worker

-- it has seen the word
abbrev pub saw : WorkerState → ℕ → ℕ → WorkerState
saw w word value = record { live = w.live; seen = slice_set w.seen word value; credits = w.credits }

-- the bits that an and-step takes from the word that it finds
abbrev pub taken : ℕ → ℕ → ℕ
taken found mask = bit_and found (bit_not w64 mask)

-- it has cleared what the mask leaves out of the word that it found, and has the credit for what it took
abbrev pub took : WorkerState → ℕ → ℕ → ℕ → WorkerState
took w word found mask = record {
  live = w.live;
  seen = slice_set w.seen word (bit_and found mask);
  credits = slice_set w.credits word (bit_or (slice_index w.credits word) (taken found mask));
}

-- the bits of both, word by word
abbrev pub united : List ℕ → List ℕ → List ℕ
united [] ys = []
united (x ∷ xs) [] = x ∷ xs
united (x ∷ xs) (y ∷ ys) = bit_or x y ∷ united xs ys

-- it has the credits of the other too
abbrev pub richer : WorkerState → WorkerState → WorkerState
richer w other = record { live = w.live; seen = w.seen; credits = united w.credits other.credits }

-- ---- what a move does to the state

abbrev pub loaded : CoreState → ℕ → ℕ → CoreState
loaded s worker word = record { words = s.words; workers = slice_set s.workers worker (saw (worker_at s worker) word (slice_index s.words word)) }

abbrev pub anded : CoreState → ℕ → ℕ → ℕ → CoreState
anded s worker word mask = record {
  words = slice_set s.words word (bit_and (slice_index s.words word) mask);
  workers = slice_set s.workers worker (took (worker_at s worker) word (slice_index s.words word) mask);
}

-- a new worker has seen what the splitting one has seen
abbrev pub divided : CoreState → ℕ → CoreState
divided s worker = record { words = s.words; workers = s.workers ++ newcomer (worker_at s worker).seen ∷ [] }

-- the one worker gets the credits of the other, which is spent
abbrev pub joined : CoreState → ℕ → ℕ → CoreState
joined s worker other = record { words = s.words; workers = slice_set (slice_set s.workers worker (richer (worker_at s worker) (worker_at s other))) other spent }

-- no bit of the seen word that the mask leaves out has a row within the seen words
abbrev pub MayClear : List Row → List ℕ → ℕ → ℕ → Type 0
MayClear rows seen word mask = (place : ℕ) → place < 64 → bit_at (slice_index seen word) place ≡ 1 → bit_at mask place ≡ 0 → supports rows (bits_in seen) (64 * word + place) ≡ false

-- one move, and where it leads
pub data Move (rows : List Row) (s : CoreState) : CoreState → Type 0 where
  load : (worker word : ℕ) → IsLive s worker → word < length s.words → Move rows s (loaded s worker word)
  and : (worker word mask : ℕ) → IsLive s worker → word < length s.words → mask < 2 ^ 64 → MayClear rows (worker_at s worker).seen word mask → Move rows s (anded s worker word mask)
  split : (worker : ℕ) → IsLive s worker → Move rows s (divided s worker)
  join : (worker other : ℕ) → worker ≢ other → IsLive s worker → IsLive s other → Move rows s (joined s worker other)
