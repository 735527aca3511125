-- Words to which bits are added.
use Rattle.std.proofs.Common.{ℕ, zero, suc, ◌≡◌, ◌≢◌, ◌+◌, ◌*◌, ◌/◌, ◌%◌, ◌<◌, ◌≤◌, ◌==◌, ◌⊎◌, inl, inr, Bool, true, false, ◌&&◌, ◌||◌, List, [], ◌∷◌, Vec, Global, length, get_or, set, replicate, refl, ap, sym, ◌∙◌, subst, arith, eq-eqb}
use Rattle.std.specs.Int.{bit_at}
use Rattle.std.specs.List.{list_any, range_with_len}
use Rattle.std.proofs.Math.Bool.{or-false, or-true, or_assoc}
use Rattle.std.proofs.lemmas.Bool.{cases_eq, cases_lt, false_from_ne_true, ne_eqb}
use Rattle.std.proofs.lemmas.List.{get_or-replicate, get_or-set_other, get_or-set_same, get_or_past, length-replicate, length-set}
use Rattle.std.proofs.lemmas.Nat.Bits.{bit_at-zero}
use Rattle.rh_domain.specs.Binding.{Binding}
use Rattle.rh_ground.specs.Visit.{Visited, VisitsWanted}
use Rattle.rh_system.specs.Bits.{BitSet, bits_in}
use Rattle.rh_system.proofs.Supports.{bit_inside}
use Rattle.rh_sparse.specs.Candidates.{Marks}

-- ---- one test after another

-- where no bit within the words passes, they stay
pub marks_nothing : (test : BitSet) (words : List ℕ) → ((bit : ℕ) → bit < 64 * length words → test bit ≡ false) → Marks test words words
marks_nothing test words none = record { as_many = refl; bits = λ bit below. sym (ap (λ b. bits_in words bit || b) (none bit below) ∙ or-false (bits_in words bit)) }

pub marks_same : (test other : BitSet) (old new : List ℕ) → ((bit : ℕ) → test bit ≡ other bit) → Marks test old new → Marks other old new
marks_same test other old new same marks = record { as_many = marks.as_many; bits = λ bit below. marks.bits bit below ∙ ap (λ b. bits_in old bit || b) (same bit) }

pub marks_both : (test other : BitSet) (old mid new : List ℕ) → Marks test old mid → Marks other mid new → Marks (λ bit. test bit || other bit) old new
marks_both test other old mid new first second = record {
  as_many = second.as_many ∙ first.as_many;
  bits = λ bit below.
      second.bits bit (subst (λ n. bit < 64 * n) (sym first.as_many) below)
      ∙ ap (λ b. b || other bit) (first.bits bit below)
      ∙ or_assoc (bits_in old bit) (test bit) (other bit);
}

-- ---- the tests of a list's items

any_more : (test : ℕ → Bool) (from count : ℕ) → list_any test (range_with_len from (count + 1)) ≡ (list_any test (range_with_len from count) || test (from + count))
any_more test from zero = let same : from + 0 ≡ from = omega arith in or-false (test from) ∙ sym (ap test same)
any_more test from (suc count) =
    let size : suc count + 1 ≡ suc (count + 1) = omega arith in
    let last : (from + 1) + count ≡ from + suc count = omega arith in
    ap (λ n. list_any test (range_with_len from n)) size
    ∙ ap (λ b. test from || b) (any_more test (from + 1) count ∙ ap (λ n. list_any test (range_with_len (from + 1) count) || test n) last)
    ∙ sym (or_assoc (test from) (list_any test (range_with_len (from + 1) count)) (test (from + suc count)))

-- a bit passes the test of some item
abbrev pub any_of : {X : Type 0} → (X → BitSet) → List X → BitSet
any_of tests xs bit = list_any (λ x. tests x bit) xs

-- the tests of the numbers from 0 on, and that of the next number
pub marks_next : (tests : ℕ → BitSet) (count : ℕ) (old mid new : List ℕ) → Marks (any_of tests (range_with_len 0 count)) old mid → Marks (tests count) mid new → Marks (any_of tests (range_with_len 0 (count + 1))) old new
marks_next tests count old mid new first second =
    let number : 0 + count ≡ count = omega arith in
    marks_same (λ bit. any_of tests (range_with_len 0 count) bit || tests count bit) (any_of tests (range_with_len 0 (count + 1))) old new
    (λ bit. sym (any_more (λ n. tests n bit) 0 count ∙ ap (λ n. any_of tests (range_with_len 0 count) bit || tests n bit) number))
    (marks_both (any_of tests (range_with_len 0 count)) (tests count) old mid new first second)

-- those of visited bindings
visits_mark : (tests : Binding → BitSet) (visited : List Binding) (old new : Vec ℕ Global) → Visited (λ binding (before after : Vec ℕ Global). Marks (tests binding) before.items after.items) visited old new
    → Marks (any_of tests visited) old.items new.items
visits_mark tests [] old new same = subst (λ (v : Vec ℕ Global). Marks (any_of tests []) old.items v.items) (sym same) (marks_nothing (any_of tests []) old.items (λ bit below. refl))
visits_mark tests (binding ∷ bindings) old new visits =
    marks_both (tests binding) (any_of tests bindings) old.items visits.0.items new.items visits.1 (visits_mark tests bindings visits.0 new visits.2)

pub wanted_mark : (tests : Binding → BitSet) (accepts : Binding → Bool) (bindings : List Binding) (old new : Vec ℕ Global)
    → VisitsWanted (λ binding (before after : Vec ℕ Global). Marks (tests binding) before.items after.items) accepts bindings old new
    → Marks (any_of (λ binding bit. accepts binding && tests binding bit) bindings) old.items new.items
wanted_mark tests accepts bindings old new visits =
    marks_same (any_of tests visits.0) (any_of (λ binding bit. accepts binding && tests binding bit) bindings) old.items new.items (λ bit. visits.1 (λ binding. tests binding bit))
    (visits_mark tests visits.0 old new visits.2)

-- ---- one bit

module _ (words : List ℕ) (bit word : ℕ) where
  -- the word with the bit in place of the one that was there
  module _ (inside : bit / 64 < length words) (here : bit_at word (bit % 64) ≡ 1) (others : (place : ℕ) → place ≢ bit % 64 → bit_at word place ≡ bit_at (get_or words (bit / 64) 0) place) where
    abbrev marked : List ℕ
    marked = set words (bit / 64) word

    itself : bits_in marked bit ≡ true
    unfolding bits_in
    itself = eq-eqb (bit_at (get_or marked (bit / 64) 0) (bit % 64)) 1 (ap (λ w. bit_at w (bit % 64)) (get_or-set_same words (bit / 64) word 0 inside) ∙ here)

    same_bit : (other : ℕ) → bit ≢ other → (other / 64 ≡ bit / 64) ⊎ (other / 64 ≢ bit / 64) → bit_at (get_or marked (other / 64) 0) (other % 64) ≡ bit_at (get_or words (other / 64) 0) (other % 64)
    same_bit other differs (inl same) =
        ap (λ w. bit_at (get_or marked w 0) (other % 64)) same
        ∙ ap (λ w. bit_at w (other % 64)) (get_or-set_same words (bit / 64) word 0 inside)
        ∙ others (other % 64) (λ place. differs (omega (arith, same, place)))
        ∙ ap (λ w. bit_at (get_or words w 0) (other % 64)) (sym same)
    same_bit other differs (inr apart) = ap (λ w. bit_at w (other % 64)) (get_or-set_other words (bit / 64) (other / 64) word 0 apart)

    stays : (other : ℕ) → bit ≢ other → bits_in marked other ≡ bits_in words other
    unfolding bits_in
    stays other differs = ap (λ b. b == 1) (same_bit other differs (cases_eq (other / 64) (bit / 64)))

    one_more : (other : ℕ) → (bit ≡ other) ⊎ (bit ≢ other) → bits_in marked other ≡ (bits_in words other || (bit == other))
    one_more other (inl same) =
        ap (bits_in marked) (sym same) ∙ itself ∙ sym (ap (λ b. bits_in words other || b) (eq-eqb bit other same) ∙ or-true (bits_in words other))
    one_more other (inr differs) = stays other differs ∙ sym (ap (λ b. bits_in words other || b) (ne_eqb bit other differs) ∙ or-false (bits_in words other))

    pub marks_one : Marks (λ other. bit == other) words marked
    marks_one = record { as_many = length-set words (bit / 64) word; bits = λ other below. one_more other (cases_eq bit other) }

  -- past the last word there is none
  pub marks_none : length words ≤ bit / 64 → Marks (λ other. bit == other) words words
  marks_none past = marks_nothing (λ other. bit == other) words (λ other below. ne_eqb bit other (λ same. absurd (omega (arith, past, below, same))))

-- ---- words without bits

abbrev pub zeros : ℕ → List ℕ
zeros count = replicate count 0

many_zeros : (count : ℕ) → length (zeros count) ≡ count
many_zeros count = length-replicate {A = ℕ} count 0

blank : (count bit : ℕ) → (bit / 64 < count) ⊎ (count ≤ bit / 64) → bit_at (get_or (zeros count) (bit / 64) 0) (bit % 64) ≡ 0
blank count bit (inl below) = ap (λ w. bit_at w (bit % 64)) (get_or-replicate {A = ℕ} count (bit / 64) 0 0 below) ∙ bit_at-zero (bit % 64)
blank count bit (inr past) =
    let size = many_zeros count in
    ap (λ w. bit_at w (bit % 64)) (get_or_past (zeros count) (bit / 64) 0 (omega (arith, past, size))) ∙ bit_at-zero (bit % 64)

none_blank : (count bit : ℕ) → bits_in (zeros count) bit ≡ false
unfolding bits_in
none_blank count bit = ap (λ n. n == 1) (blank count bit (cases_lt (bit / 64) count))

past_words : (words : List ℕ) (bit : ℕ) → 64 * length words ≤ bit → bits_in words bit ≡ false
past_words words bit past = false_from_ne_true (bits_in words bit) (λ is. let inside = bit_inside words bit is in absurd (omega (arith, inside, past)))

-- the bits of words that had none are those that pass the test, where none passes past the words
pub marks_all : (test : BitSet) (count : ℕ) (new : List ℕ) → Marks test (zeros count) new → ((bit : ℕ) → 64 * count ≤ bit → test bit ≡ false) → (bit : ℕ) → bits_in new bit ≡ test bit
marks_all test count new marks past bit = by (cases_lt bit (64 * count))
  where
    by : (bit < 64 * count) ⊎ (64 * count ≤ bit) → bits_in new bit ≡ test bit
    by (inl below) = marks.bits bit (subst (λ n. bit < 64 * n) (sym (many_zeros count)) below) ∙ ap (λ b. b || test bit) (none_blank count bit)
    by (inr above) = past_words new bit (subst (λ n. 64 * n ≤ bit) (sym (marks.as_many ∙ many_zeros count)) above) ∙ sym (past bit above)
