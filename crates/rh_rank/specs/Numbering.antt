-- The set bits of words, numbered in order.
use Rattle.std.specs.Prelude.{ℕ, ◌≡◌, ◌+◌, ◌*◌, ◌/◌, ◌%◌, ◌<◌, ◌≤◌, ◌^◌, ◌==◌, ◌&&◌, List, count_ones, length, slice_index}
use Rattle.std.specs.Int.{bit_at}
use Rattle.rh_system.specs.Bits.{bits_in}
use Rattle.rh_rank.specs.Rank.{rank}

-- how many runs of 64 numbers there are among so many
abbrev pub run_count : ℕ → ℕ
run_count count = (count + 63) / 64

-- how many bits are set in the words before a word
abbrev pub ones_before : List ℕ → ℕ → ℕ
ones_before words word = rank (bits_in words) (64 * word)

-- the set bit with this number stands in the word
abbrev pub StandsIn : List ℕ → ℕ → ℕ → Type 0
StandsIn words number word = (ones_before words word ≤ number) × (number < ones_before words (word + 1))

-- the counts of the bits before each word, and of all bits
pub record AreCounts (words before : List ℕ) : Type 0 where
  pub as_many : length before ≡ length words + 1
  pub counts : (word : ℕ) → word ≤ length words → slice_index before word ≡ ones_before words word

-- for each 64 numbers the word in which the first of them stands
pub record AreBegins (words begins : List ℕ) : Type 0 where
  pub as_many : length begins ≡ run_count (ones_before words (length words))
  pub stands : (run : ℕ) → run < length begins → StandsIn words (64 * run) (slice_index begins run)

-- the set bits of a word whose numbers stand in other words, where the first has this number
abbrev pub IsSpread : List ℕ → ℕ → ℕ → ℕ → Type 0
IsSpread numbers word first part = (place : ℕ) → place < 64 → (bit_at part place == 1) ≡ ((bit_at word place == 1) && bits_in numbers (first + count_ones (word % 2 ^ place)))
