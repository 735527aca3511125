-- The lines of the set bits of a word, and of the words of an edge.
use Rattle.std.proofs.Common.{ℕ, suc, ◌≡◌, ◌+◌, ◌-◌, ◌*◌, ◌/◌, ◌%◌, ◌<◌, ◌≤◌, Bool, true, false, List, ◌++◌, ap, sym, ◌∙◌, arith, append_assoc, append-nil}
use Rattle.std.specs.Int.{bit_at}
use Rattle.std.specs.Prelude.{◌==◌, slice_index}
use Rattle.rh_system.specs.Bits.{bits_in}
use Rattle.rh_report.specs.FactLines.{texts_of}
use Rattle.rh_report.proofs.Texts.{texts_first, texts_more, texts_none, texts_same}

-- whether the bit of a number is set in a word that begins with another number
abbrev pub is_set_from : ℕ → ℕ → ℕ → Bool
is_set_from word first number = bit_at word (number - first) == 1

module _ (word first : ℕ) (text : ℕ → List ℕ) where
  place_in_word : (from k : ℕ) → (first + from) + k - first ≡ from + k
  place_in_word from k = omega arith

  is_bit : (from k bit : ℕ) → bit_at word (from + k) ≡ bit → is_set_from word first ((first + from) + k) ≡ (bit == 1)
  is_bit from k bit is = ap (λ place. bit_at word place == 1) (place_in_word from k) ∙ ap (λ b. b == 1) is

  -- the line of the next set bit more
  pub next_line : (from place : ℕ) (out after whole : List ℕ) → from ≤ place → place < 64 → bit_at word place ≡ 1 → ((other : ℕ) → from ≤ other → other < place → bit_at word other ≡ 0)
      → out ++ texts_of (is_set_from word first) text (first + from) (64 - from) ≡ whole → after ≡ out ++ text (first + place)
      → after ++ texts_of (is_set_from word first) text (first + (place + 1)) (64 - (place + 1)) ≡ whole
  next_line from place out after whole low high is none so_far one =
      let gap = place - from in
      let left = 64 - (place + 1) in
      let size : 64 - from ≡ gap + suc left = omega (arith, low, high) in
      let here : from + gap ≡ place = omega (arith, low) in
      let at : (first + from) + gap ≡ first + place = omega (arith, low) in
      let next : first + place + 1 ≡ first + (place + 1) = omega arith in
      let passes : is_set_from word first ((first + from) + gap) ≡ true = is_bit from gap 1 (ap (bit_at word) here ∙ is) in
      let fails : (k : ℕ) → k < gap → is_set_from word first ((first + from) + k) ≡ false = λ k below. is_bit from k 0 (none (from + k) (omega arith) (omega (arith, below, low))) in
      let parts : texts_of (is_set_from word first) text (first + from) (64 - from) ≡ text (first + place) ++ texts_of (is_set_from word first) text (first + (place + 1)) left =
      ap (texts_of (is_set_from word first) text (first + from)) size
      ∙ texts_first (is_set_from word first) text (first + from) gap left fails passes
      ∙ ap (λ n. text n ++ texts_of (is_set_from word first) text (n + 1) left) at
      ∙ ap (λ n. text (first + place) ++ texts_of (is_set_from word first) text n left) next in
      ap (λ t. t ++ texts_of (is_set_from word first) text (first + (place + 1)) left) one
      ∙ append_assoc out (text (first + place)) (texts_of (is_set_from word first) text (first + (place + 1)) left) ∙ ap (λ t. out ++ t) (sym parts) ∙ so_far

  -- no set bit is left
  pub last_line : (from : ℕ) (out whole : List ℕ) → ((other : ℕ) → from ≤ other → other < 64 → bit_at word other ≡ 0) → out ++ texts_of (is_set_from word first) text (first + from) (64 - from) ≡ whole → out ≡ whole
  last_line from out whole none so_far =
      let fails : (k : ℕ) → k < 64 - from → is_set_from word first ((first + from) + k) ≡ false = λ k below. is_bit from k 0 (none (from + k) (omega arith) (omega (arith, below))) in
      sym (append-nil out) ∙ ap (λ t. out ++ t) (sym (texts_none (is_set_from word first) text (first + from) (64 - from) fails)) ∙ so_far

-- the bits of an edge whose words begin with a number
abbrev pub stands_from : List ℕ → ℕ → ℕ → Bool
stands_from words start number = bits_in words (64 * start + number)

in_word : (words : List ℕ) (start within k : ℕ) → k < 64 → is_set_from (slice_index words (start + within)) (64 * within) (64 * within + k) ≡ stands_from words start (64 * within + k)
unfolding bits_in
in_word words start within k below =
    let bit = 64 * start + (64 * within + k) in
    let word : start + within ≡ bit / 64 = omega (arith, below) in
    let place : 64 * within + k - 64 * within ≡ bit % 64 = omega (arith, below) in
    ap (λ w. bit_at (slice_index words w) (64 * within + k - 64 * within) == 1) word ∙ ap (λ p. bit_at (slice_index words (bit / 64)) p == 1) place

-- the lines of one more word
pub word_added : (words : List ℕ) (start within word : ℕ) (text : ℕ → List ℕ) (before out after : List ℕ) → word ≡ slice_index words (start + within)
    → out ≡ before ++ texts_of (stands_from words start) text 0 (64 * within) → after ≡ out ++ texts_of (is_set_from word (64 * within)) text (64 * within) 64
    → after ≡ before ++ texts_of (stands_from words start) text 0 (64 * (within + 1))
word_added words start within word text before out after word_is so_far one =
    let size : 64 * (within + 1) ≡ 64 * within + 64 = omega arith in
    let begins : 0 + 64 * within ≡ 64 * within = omega arith in
    let here : texts_of (is_set_from word (64 * within)) text (64 * within) 64 ≡ texts_of (stands_from words start) text (64 * within) 64 =
    ap (λ w. texts_of (is_set_from w (64 * within)) text (64 * within) 64) word_is
    ∙ texts_same (is_set_from (slice_index words (start + within)) (64 * within)) (stands_from words start) text (64 * within) 64 (λ k below. in_word words start within k below) in
    let parts : texts_of (stands_from words start) text 0 (64 * (within + 1)) ≡ texts_of (stands_from words start) text 0 (64 * within) ++ texts_of (stands_from words start) text (64 * within) 64 =
    ap (texts_of (stands_from words start) text 0) size ∙ texts_more (stands_from words start) text 0 (64 * within) 64
    ∙ ap (λ n. texts_of (stands_from words start) text 0 (64 * within) ++ texts_of (stands_from words start) text n 64) begins in
    one ∙ (λ i. so_far i ++ here i) ∙ append_assoc before (texts_of (stands_from words start) text 0 (64 * within)) (texts_of (stands_from words start) text (64 * within) 64) ∙ ap (λ t. before ++ t) (sym parts)
