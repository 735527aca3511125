-- What follows from the definitions of bits and rows alone.
use Rattle.std.proofs.Common.{◌≡◌, ℕ, ◌+◌, ◌*◌, ◌/◌, ◌%◌, ◌<◌, ◌≤◌, ◌==◌, ◌⊎◌, inl, inr, ◌&&◌, ◌||◌, Bool, true, false, IsTrue, List, [], ◌∷◌, length, get_or, refl, ap, arith, ◌∙◌}
use Rattle.std.specs.List.{list_any, list_all}
use Rattle.std.specs.Int.{bit_at}
use Rattle.std.proofs.Common.{bit_and}
use Rattle.std.proofs.Math.Nat.{min-eq_left}
use Rattle.std.proofs.lemmas.Bool.{cases_lt}
use Rattle.std.proofs.lemmas.Bool.Decides.{nat_tests}
use Rattle.std.proofs.lemmas.List.{get_or_past}
use Rattle.std.proofs.lemmas.Nat.{and_le_r}
use Rattle.std.proofs.lemmas.Nat.Bits.{bit_at-zero, bit_at_and, same_from_bits}
use Rattle.rh_system.specs.declared.system.Row.{Row}
use Rattle.rh_system.specs.Bits.{BitSet, bits_in, IsSubword}
use Rattle.rh_system.specs.Rows.{supports, IsSupported, IsInGreatest, HoldsGreatest, IsGreatest}

-- each bit of the first set is one of the second
abbrev pub IsSubset : BitSet → BitSet → Type 0
IsSubset f g = (bit : ℕ) → IsTrue (f bit) → IsTrue (g bit)

pub and_left : (a b : Bool) → IsTrue (a && b) → IsTrue a
and_left true b h = refl
and_left false b h = h

pub and_right : (a b : Bool) → IsTrue (a && b) → IsTrue b
and_right true b h = h
and_right false b h = cc

pub and_both : (a b : Bool) → IsTrue a → IsTrue b → IsTrue (a && b)
and_both true b p q = q
and_both false b p q = p

pub or_cases : (a b : Bool) → IsTrue (a || b) → IsTrue a ⊎ IsTrue b
or_cases true b h = inl refl
or_cases false b h = inr h

pub or_left : (a b : Bool) → IsTrue a → IsTrue (a || b)
or_left true b h = refl
or_left false b h = cc

pub or_right : (a b : Bool) → IsTrue b → IsTrue (a || b)
or_right true b h = refl
or_right false b h = h

-- ---- rows

all_grows : (f g : BitSet) → IsSubset f g → (bits : List ℕ) → IsTrue (list_all f bits) → IsTrue (list_all g bits)
all_grows f g sub [] h = refl
all_grows f g sub (b ∷ bs) h =
    and_both (g b) (list_all g bs) (sub b (and_left (f b) (list_all f bs) h)) (all_grows f g sub bs (and_right (f b) (list_all f bs) h))

row_grows : (f g : BitSet) → IsSubset f g → (row : Row) (bit : ℕ) → IsTrue ((row.bit == bit) && list_all f row.premises) → IsTrue ((row.bit == bit) && list_all g row.premises)
row_grows f g sub row bit h =
    and_both (row.bit == bit) (list_all g row.premises) (and_left (row.bit == bit) (list_all f row.premises) h)
    (all_grows f g sub row.premises (and_right (row.bit == bit) (list_all f row.premises) h))

-- a larger set supports more
pub supports_grows : (rows : List Row) (f g : BitSet) → IsSubset f g → (bit : ℕ) → IsTrue (supports rows f bit) → IsTrue (supports rows g bit)
unfolding supports
supports_grows [] f g sub bit h = h
supports_grows (row ∷ rows) f g sub bit h =
    elim (or_cases ((row.bit == bit) && list_all f row.premises) (list_any (λ r. (r.bit == bit) && list_all f r.premises) rows) h) [
      | inl here ↦ or_left ((row.bit == bit) && list_all g row.premises) (list_any (λ r. (r.bit == bit) && list_all g r.premises) rows) (row_grows f g sub row bit here)
      | inr later ↦ or_right ((row.bit == bit) && list_all g row.premises) (list_any (λ r. (r.bit == bit) && list_all g r.premises) rows) (supports_grows rows f g sub bit later)
    ]

-- ---- Greatest

-- words that hold Greatest support each bit of it
pub greatest_supported : (rows : List Row) (words : List ℕ) → HoldsGreatest rows words → (bit : ℕ) → IsInGreatest rows bit → IsTrue (supports rows (bits_in words) bit)
greatest_supported rows words holds bit within =
    supports_grows rows within.0 (bits_in words) (λ b h. holds b (within.0, within.1, h)) bit (within.1 bit within.2)

-- words that hold Greatest and support themselves are Greatest
pub greatest_from : (rows : List Row) (words : List ℕ) → HoldsGreatest rows words → IsSupported rows (bits_in words) → IsGreatest rows words
greatest_from rows words holds closed bit = ((λ h. (bits_in words, closed, h)), holds bit)

-- ---- bits of words

pub set_from_test : (n : ℕ) → IsTrue (n == 1) → n ≡ 1
set_from_test n h = grind (arith, nat_tests)

pub test_from_set : (n : ℕ) → n ≡ 1 → IsTrue (n == 1)
test_from_set n h = grind (arith, nat_tests)

-- the place of a bit
pub bit_split : (bit : ℕ) → 64 * (bit / 64) + bit % 64 ≡ bit
bit_split bit = omega arith

pub bits_in_at : (words : List ℕ) (word place : ℕ) → place < 64 → bits_in words (64 * word + place) ≡ (bit_at (get_or words word 0) place == 1)
unfolding bits_in
bits_in_at words word place small =
    let w : (64 * word + place) / 64 ≡ word = omega arith in
    let p : (64 * word + place) % 64 ≡ place = omega arith in
    ap (λ (k : ℕ). bit_at (get_or words k 0) ((64 * word + place) % 64) == 1) w ∙ ap (λ (k : ℕ). bit_at (get_or words word 0) k == 1) p

pub bits_in_same : (words : List ℕ) (bit : ℕ) → IsTrue (bits_in words bit) → bit_at (get_or words (bit / 64) 0) (bit % 64) ≡ 1
unfolding bits_in
bits_in_same words bit h = set_from_test (bit_at (get_or words (bit / 64) 0) (bit % 64)) h

pub bits_in_from : (words : List ℕ) (bit : ℕ) → bit_at (get_or words (bit / 64) 0) (bit % 64) ≡ 1 → IsTrue (bits_in words bit)
unfolding bits_in
bits_in_from words bit h = test_from_set (bit_at (get_or words (bit / 64) 0) (bit % 64)) h

outside : (words : List ℕ) (bit : ℕ) → length words ≤ bit / 64 → bit_at (get_or words (bit / 64) 0) (bit % 64) ≡ 1 → ⊥
outside words bit past h =
    let none : bit_at (get_or words (bit / 64) 0) (bit % 64) ≡ 0 = ap (λ (w : ℕ). bit_at w (bit % 64)) (get_or_past words (bit / 64) 0 past) ∙ bit_at-zero (bit % 64) in
    omega arith

-- a bit that stands in words is within them
pub bit_inside : (words : List ℕ) (bit : ℕ) → IsTrue (bits_in words bit) → bit / 64 < length words
bit_inside words bit h =
    elim (cases_lt (bit / 64) (length words)) [ inl within ↦ within | inr past ↦ absurd (outside words bit past (bits_in_same words bit h)) ]

-- a word whose bits are those of another is no larger
pub subword_le : (a b : ℕ) → IsSubword a b → a ≤ b
subword_le a b sub =
    let same : bit_and a b ≡ a = same_from_bits (bit_and a b) a (λ i. let s : bit_at a i ≤ bit_at b i = sub i in bit_at_and a b i ∙ min-eq_left s) in
    let le : bit_and a b ≤ b = and_le_r a b in
    omega arith
