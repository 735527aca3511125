-- One round over all words.
use Rattle.std.proofs.Common.{◌≡◌, ◌≢◌, ℕ, ◌+◌, ◌*◌, ◌/◌, ◌%◌, ◌<◌, ◌≤◌, ◌==◌, ◌&&◌, ◌⊎◌, inl, inr, Bool, true, false, IsTrue, List, [], ◌∷◌, length, get_or, set, sum, refl, sym, ap, subst, arith, ◌∙◌}
use Rattle.std.specs.Bool.{OnFalse}
use Rattle.std.specs.List.{list_any, list_all}
use Rattle.std.specs.Int.{bit_at}
use Rattle.std.proofs.lemmas.Bool.{cases_eq, cases_lt}
use Rattle.std.proofs.lemmas.Bool.Decides.{nat_tests}
use Rattle.std.proofs.lemmas.List.{get_or-set_same, get_or-set_other}
use Rattle.std.proofs.lemmas.List.Elements.{All-head, All-tail}
use Rattle.std.proofs.lemmas.List.Sums.{sum_by-set}
use Rattle.rh_system.specs.declared.system.Row.{Row}
use Rattle.rh_system.specs.Bits.{BitSet, bits_in}
use Rattle.rh_system.specs.Rows.{supports, IsSupported, IsInGreatest, HoldsGreatest, IsCovered, IsSupportedPart}
use Rattle.rh_system.proofs.Supports.{and_left, or_cases, greatest_supported, bits_in_same, bits_in_from, bit_inside, subword_le}

-- ---- the full words hold Greatest

row_covered : (full : List ℕ) (rows : List Row) (set : BitSet) (bit : ℕ) → IsCovered full rows → IsTrue (supports rows set bit) → IsTrue (bits_in full bit)
unfolding supports
row_covered full [] set bit covered h = absurd (cc)
row_covered full (row ∷ rows) set bit covered h =
    elim (or_cases ((row.bit == bit) && list_all set row.premises) (list_any (λ r. (r.bit == bit) && list_all set r.premises) rows) h) [
      | inl here ↦
          let test : IsTrue (row.bit == bit) = and_left (row.bit == bit) (list_all set row.premises) here in
          let same : row.bit ≡ bit = grind (arith, nat_tests) in
          subst (λ (b : ℕ). IsTrue (bits_in full b)) same (All-head (λ r. IsTrue (bits_in full r.bit)) row rows covered)
      | inr later ↦ row_covered full rows set bit (All-tail (λ r. IsTrue (bits_in full r.bit)) row rows covered) later
    ]

pub full_holds : (full : List ℕ) (rows : List Row) → IsCovered full rows → HoldsGreatest rows full
full_holds full rows covered bit within = row_covered full rows within.0 bit covered (within.1 bit within.2)

-- ---- a word becomes the part of it that is supported

part_at : (rows : List Row) (words : List ℕ) (word part bit : ℕ) → HoldsGreatest rows words → IsSupportedPart rows words word part → word < length words → IsInGreatest rows bit
    → (bit / 64 ≡ word) ⊎ (bit / 64 ≢ word) → bit_at (get_or (set words word part) (bit / 64) 0) (bit % 64) ≡ 1
part_at rows words word part bit holds is_part within in_greatest (inl here) =
    let stands : bit_at (get_or words (bit / 64) 0) (bit % 64) ≡ 1 = bits_in_same words bit (holds bit in_greatest) in
    let there : bit_at (get_or words word 0) (bit % 64) ≡ 1 = subst (λ (w : ℕ). bit_at (get_or words w 0) (bit % 64) ≡ 1) here stands in
    let place : 64 * word + bit % 64 ≡ bit = omega arith in
    let backed : IsTrue (supports rows (bits_in words) (64 * word + bit % 64)) =
    subst (λ (b : ℕ). IsTrue (supports rows (bits_in words) b)) (sym place) (greatest_supported rows words holds bit in_greatest) in
    let kept : bit_at part (bit % 64) ≡ 1 = is_part.2 (bit % 64) (omega arith) there backed in
    ap (λ (w : ℕ). bit_at (get_or (set words word part) w 0) (bit % 64)) here ∙ ap (λ (n : ℕ). bit_at n (bit % 64)) (get_or-set_same words word part 0 within) ∙ kept
part_at rows words word part bit holds is_part within in_greatest (inr other) =
    ap (λ (n : ℕ). bit_at n (bit % 64)) (get_or-set_other words word (bit / 64) part 0 other) ∙ bits_in_same words bit (holds bit in_greatest)

pub part_holds : (rows : List Row) (words : List ℕ) (word part : ℕ) → HoldsGreatest rows words → IsSupportedPart rows words word part → word < length words → HoldsGreatest rows (set words word part)
part_holds rows words word part holds is_part within bit in_greatest =
    bits_in_from (set words word part) bit (part_at rows words word part bit holds is_part within in_greatest (cases_eq (bit / 64) word))

-- ---- a round

-- a round has come to the word `below`
pub record RoundBelow (rows : List Row) (before now : List ℕ) (below : ℕ) (cleared : Bool) : Type 0 where
  pub holds : HoldsGreatest rows now
  pub smaller : sum now ≤ sum before
  pub less : cleared ≡ true → sum now < sum before
  pub closed : cleared ≡ false → (bit : ℕ) → bit < 64 * below → IsTrue (bits_in now bit) → IsTrue (supports rows (bits_in now) bit)

pub clearing_step : (rows : List Row) (before now : List ℕ) (below part : ℕ) (cleared : Bool) → RoundBelow rows before now below cleared → IsSupportedPart rows now below part → below < length now → part ≢ get_or now below 0
    → RoundBelow rows before (set now below part) (below + 1) true
clearing_step rows before now below part cleared so_far is_part within differs =
    let le : part ≤ get_or now below 0 = subword_le part (get_or now below 0) is_part.0 in
    let sums : sum (set now below part) + get_or now below 0 ≡ sum now + part = sum_by-set (λ (x : ℕ). x) now below part 0 within in
    let smaller : sum now ≤ sum before = so_far.smaller in
    let less : sum (set now below part) < sum before = omega arith in
    record {
      holds = part_holds rows now below part so_far.holds is_part within;
      smaller = omega arith;
      less = λ _. less;
      closed = λ e. cc;
    }

kept_at : (rows : List Row) (now : List ℕ) (below part : ℕ) → IsSupportedPart rows now below part → part ≡ get_or now below 0 → (bit : ℕ) → 64 * below ≤ bit → bit < 64 * (below + 1) → IsTrue (bits_in now bit)
    → IsTrue (supports rows (bits_in now) bit)
kept_at rows now below part is_part same bit from upto h =
    let here : bit / 64 ≡ below = omega arith in
    let place : 64 * below + bit % 64 ≡ bit = omega arith in
    let stands : bit_at (get_or now (bit / 64) 0) (bit % 64) ≡ 1 = bits_in_same now bit h in
    let there : bit_at (get_or now below 0) (bit % 64) ≡ 1 = subst (λ (w : ℕ). bit_at (get_or now w 0) (bit % 64) ≡ 1) here stands in
    let in_part : bit_at part (bit % 64) ≡ 1 = ap (λ (n : ℕ). bit_at n (bit % 64)) same ∙ there in
    subst (λ (b : ℕ). IsTrue (supports rows (bits_in now) b)) place (is_part.1 (bit % 64) (omega arith) in_part)

pub keeping_step : (rows : List Row) (before now : List ℕ) (below part : ℕ) (cleared : Bool) → RoundBelow rows before now below cleared → IsSupportedPart rows now below part → part ≡ get_or now below 0
    → RoundBelow rows before now (below + 1) cleared
keeping_step rows before now below part cleared so_far is_part same =
    record {
      holds = so_far.holds;
      smaller = so_far.smaller;
      less = so_far.less;
      closed = λ e bit upto h.
          elim (cases_lt bit (64 * below)) [
            | inl earlier ↦ so_far.closed e bit earlier h
            | inr from ↦ kept_at rows now below part is_part same bit from upto h
          ];
    }

when_false : (b : Bool) (P : Type 0) → (b ≡ false → P) → OnFalse b P
when_false true P h = tt
when_false false P h = h refl

-- a round that came past the last word and cleared nothing
pub round_closed : (rows : List Row) (before now : List ℕ) (below : ℕ) (cleared : Bool) → RoundBelow rows before now below cleared → length now ≤ below → OnFalse cleared (IsSupported rows (bits_in now))
round_closed rows before now below cleared done all =
    when_false cleared (IsSupported rows (bits_in now))
    (λ e bit h. let inside : bit / 64 < length now = bit_inside now bit h in done.closed e bit (omega arith) h)
