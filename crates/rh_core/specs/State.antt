-- The state of a solver: the words, and what each worker has seen of them and taken from them.
use Rattle.std.specs.Prelude.{ℕ, ◌+◌, ◌≡◌, Bool, true, false, List, [], length, slice_index, slice_index_or, sum_by, replicate}
use Rattle.std.specs.Int.{bit_at}

-- The words as the worker saw them last, and the bits of each word that it took. A spent worker has neither, and makes no more moves
pub record WorkerState : Type 0 where
  pub live : Bool
  pub seen : List ℕ
  pub credits : List ℕ

pub record CoreState : Type 0 where
  pub words : List ℕ
  pub workers : List WorkerState

-- no bits taken yet, from as many words
abbrev pub no_credits : List ℕ → List ℕ
no_credits words = replicate (length words) 0

-- a worker that has seen these words and taken nothing
abbrev pub newcomer : List ℕ → WorkerState
newcomer seen = record { live = true; seen = seen; credits = no_credits seen }

abbrev pub spent : WorkerState
spent = record { live = false; seen = []; credits = [] }

-- full words, which each worker has seen, and no credits
abbrev pub opening : List ℕ → ℕ → CoreState
opening full workers = record { words = full; workers = replicate workers (newcomer full) }

-- the worker of this number, and a spent one where there is none
abbrev pub worker_at : CoreState → ℕ → WorkerState
worker_at s worker = slice_index_or s.workers worker spent

-- there is such a worker, and it is not spent
abbrev pub IsLive : CoreState → ℕ → Type 0
IsLive s worker = (worker_at s worker).live ≡ true

-- how often the bit at a place of a word is held: by the word, and by the credits of each worker
abbrev pub holders : CoreState → ℕ → ℕ → ℕ
holders s word place = bit_at (slice_index s.words word) place + sum_by (λ w. bit_at (slice_index w.credits word) place) s.workers
