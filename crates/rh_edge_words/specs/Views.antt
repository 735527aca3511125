-- What a seat knows: the view of a worker, with the number of its credits, its stake, its loads of each word and which word it loaded last, and its looks.
use Rattle.std.specs.Prelude.{ℕ, ◌+◌, ◌-◌, List, [], ◌∷◌, slice_index, slice_set, bit_and, bit_or, count_ones, nat_lt}
use Rattle.rh_core.specs.State.{WorkerState, no_credits}
use Rattle.rh_core.specs.Moves.{taken, united}
use Rattle.rh_edge_words.specs.declared.view.View.{View}

-- the worker that a view is of. It is spent where it has no stake
abbrev pub worker_of : View → WorkerState
worker_of v = record { live = nat_lt 0 v.stake; seen = v.seen; credits = v.credits }

-- the seat of a new table has seen the full words, and has the whole stake
abbrev pub first_view : List ℕ → View
first_view full = record { seen = full; credits = no_credits full; count = 0; stake = 16; loads = no_credits full; last = 0; looks = 0 }

abbrev pub spent_view : View
spent_view = record { seen = []; credits = []; count = 0; stake = 0; loads = []; last = 0; looks = 0 }

-- the word was looked at, which is no load
abbrev pub after_look : View → ℕ → ℕ → View
after_look v word found = record { seen = slice_set v.seen word found; credits = v.credits; count = v.count; stake = v.stake; loads = v.loads; last = v.last; looks = v.looks + 1 }

-- the word was loaded
abbrev pub after_load : View → ℕ → ℕ → View
after_load v word found = record {
  seen = slice_set v.seen word found;
  credits = v.credits;
  count = v.count;
  stake = v.stake;
  loads = slice_set v.loads word (slice_index v.loads word + 1);
  last = word;
  looks = v.looks;
}

-- the bits of the word that the mask leaves out were cleared
abbrev pub after_clear : View → ℕ → ℕ → ℕ → View
after_clear v word mask found = record {
  seen = slice_set v.seen word (bit_and found mask);
  credits = slice_set v.credits word (bit_or (slice_index v.credits word) (taken found mask));
  count = v.count + count_ones (taken found mask);
  stake = v.stake;
  loads = v.loads;
  last = v.last;
  looks = v.looks;
}

-- one of the stake was given up
abbrev pub poorer : View → View
poorer v = record { seen = v.seen; credits = v.credits; count = v.count; stake = v.stake - 1; loads = v.loads; last = v.last; looks = v.looks }

-- a new seat has seen the same words, and has done nothing
abbrev pub new_view : View → View
new_view v = record { seen = v.seen; credits = no_credits v.seen; count = 0; stake = 1; loads = no_credits v.seen; last = 0; looks = 0 }

abbrev pub sums : List ℕ → List ℕ → List ℕ
sums [] ys = []
sums (x ∷ xs) [] = x ∷ xs
sums (x ∷ xs) (y ∷ ys) = (x + y) ∷ sums xs ys

-- credits, stakes, loads and looks of both
abbrev pub both_views : View → View → View
both_views v w = record {
  seen = v.seen;
  credits = united v.credits w.credits;
  count = v.count + w.count;
  stake = v.stake + w.stake;
  loads = sums v.loads w.loads;
  last = v.last;
  looks = v.looks + w.looks;
}
