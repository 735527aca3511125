-- What a worker's turns do to its seat.
use Rattle.std.specs.Prelude.{ℕ, zero, suc, ◌+◌, ◌-◌, ◌*◌, ◌/◌, ◌<◌, ◌≤◌, ◌≡◌, IsTrue, List, length, map, slice_index}
use Rattle.std.specs.Int.{bit_at}
use Rattle.rh_system.specs.declared.system.Row.{Row}
use Rattle.rh_system.specs.Bits.{IsSubword, bits_in, bit_count}
use Rattle.rh_system.specs.Rows.{supports}
use Rattle.rh_edge_words.specs.declared.view.View.{View}

-- each word was loaded n times more
abbrev pub more_loads : ℕ → List ℕ → List ℕ
more_loads n loads = map (λ k. k + n) loads

-- the word before, going round
abbrev pub word_before : ℕ → ℕ → ℕ
word_before count zero = count - 1
word_before count (suc word) = word

-- Where a round of the worker ends. It begins at its share, one of sixteen of the words, and goes round to the word before
abbrev pub round_end : ℕ → ℕ → ℕ
round_end id count = word_before count (id * count / 16)

-- each word is within the other list's
abbrev pub AreWithin : List ℕ → List ℕ → Type 0
AreWithin xs ys = (word : ℕ) → IsSubword (slice_index xs word) (slice_index ys word)

-- the words from `from` up to `to` were loaded once, in order, and no other
pub record LoadsRange (v w : View) (from to : ℕ) : Type 0 where
  pub stake : w.stake ≡ v.stake
  pub long : length w.loads ≡ length v.loads
  pub loaded : (word : ℕ) → from ≤ word → word < to → slice_index w.loads word ≡ slice_index v.loads word + 1
  pub before : (word : ℕ) → word < from → slice_index w.loads word ≡ slice_index v.loads word
  pub after : (word : ℕ) → to ≤ word → slice_index w.loads word ≡ slice_index v.loads word
  pub last : from < to → w.last + 1 ≡ to
  pub no_last : to ≤ from → w.last ≡ v.last
  pub within : AreWithin w.seen v.seen
  pub fewer : bit_count w.seen ≤ bit_count v.seen

-- each word was loaded n times more, or oftener
pub record LoadsAtLeast (n : ℕ) (before after : List ℕ) : Type 0 where
  pub long : length after ≡ length before
  pub more : (word : ℕ) → word < length before → slice_index before word + n ≤ slice_index after word

-- a clear leaves the stake and the loads
pub record KeepsLoads (v w : View) : Type 0 where
  pub stake : w.stake ≡ v.stake
  pub loads : w.loads ≡ v.loads
  pub last : w.last ≡ v.last

-- each bit of the word is supported by the words
abbrev pub IsWordSupported : List Row → List ℕ → ℕ → Type 0
IsWordSupported rows words word = (place : ℕ) → place < 64 → bit_at (slice_index words word) place ≡ 1 → IsTrue (supports rows (bits_in words) (64 * word + place))

-- of the word those bits were cleared that the words before did not support
abbrev pub IsSwept : List Row → List ℕ → List ℕ → ℕ → Type 0
IsSwept rows before now word = (place : ℕ) → place < 64 → bit_at (slice_index now word) place ≡ 1 → IsTrue (supports rows (bits_in before) (64 * word + place))

-- each bit that is left was supported by the words before
abbrev pub AreSwept : List Row → List ℕ → List ℕ → Type 0
AreSwept rows before now = (bit : ℕ) → IsTrue (bits_in now bit) → IsTrue (supports rows (bits_in before) bit)

-- each bit of the words from `from` up to `to` is supported by the words
abbrev pub AreWordsSupported : List Row → List ℕ → ℕ → ℕ → Type 0
AreWordsSupported rows words from to = (word : ℕ) → from ≤ word → word < to → IsWordSupported rows words word

-- the word at which a share begins, where so many words are shared out evenly. The next share begins where it ends
abbrev pub share_start : ℕ → ℕ → ℕ → ℕ
share_start count shares share = share * count / shares

-- loads and clears leave the stake, and only add loads and take bits
pub record Descends (v w : View) : Type 0 where
  pub stake : w.stake ≡ v.stake
  pub loads : LoadsAtLeast 0 v.loads w.loads
  pub fewer : bit_count w.seen ≤ bit_count v.seen
