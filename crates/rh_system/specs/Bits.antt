-- Sets of bits, and the words that hold them.
use Rattle.std.specs.Prelude.{ℕ, ◌/◌, ◌%◌, ◌≤◌, ◌==◌, Bool, List, slice_index, sum_by, count_ones}
use Rattle.std.specs.Int.{bit_at}

-- a set of bits, as a test
abbrev pub BitSet : Type 0
BitSet = ℕ → Bool

-- whether the bit stands in the words: bit b stands in word b / 64 at place b % 64
unfoldable pub bits_in : List ℕ → BitSet
bits_in words bit = bit_at (slice_index words (bit / 64)) (bit % 64) == 1

-- each bit of the word a is one of the word b
abbrev pub IsSubword : ℕ → ℕ → Type 0
IsSubword a b = (place : ℕ) → bit_at a place ≤ bit_at b place

-- how many bits stand in the words
abbrev pub bit_count : List ℕ → ℕ
bit_count words = sum_by count_ones words
