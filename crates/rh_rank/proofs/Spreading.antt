-- Spreading numbers over the set bits of a word, bit by bit.
use Rattle.std.proofs.Common.{ℕ, ◌≡◌, ◌≢◌, ◌+◌, ◌%◌, ◌^◌, ◌<◌, ◌≤◌, ◌&&◌, ◌==◌, List, ap, sym, ◌∙◌, subst, arith, ⊎_elim}
use Rattle.std.specs.Int.{bit_at}
use Rattle.std.specs.Prelude.{count_ones}
use Rattle.std.proofs.lemmas.Bool.{cases_lt, cases_order}
use Rattle.rh_system.specs.Bits.{bits_in}
use Rattle.rh_rank.specs.Numbering.{IsSpread}
use Rattle.rh_rank.proofs.PlaceAfter.{ones_at, ones_between}

-- what the place of a word is to hold
abbrev IsSpreadAt : List ℕ → ℕ → ℕ → ℕ → ℕ → Type 0
IsSpreadAt numbers word first part place = (bit_at part place == 1) ≡ ((bit_at word place == 1) && bits_in numbers (first + count_ones (word % 2 ^ place)))

-- the places below this one are spread, and the number of the next set bit is known
pub record IsSpreadBelow (numbers : List ℕ) (word first part number from : ℕ) : Type 0 where
  pub within : from ≤ 64
  pub number_is : number ≡ first + count_ones (word % 2 ^ from)
  pub done : (place : ℕ) → place < from → IsSpreadAt numbers word first part place
  pub rest : (place : ℕ) → from ≤ place → bit_at part place ≡ 0

-- neither the word nor its part has the bit
both_off : (numbers : List ℕ) (word first part place : ℕ) → bit_at word place ≡ 0 → bit_at part place ≡ 0 → IsSpreadAt numbers word first part place
both_off numbers word first part place none off = ap (λ bit. bit == 1) off ∙ sym (ap (λ bit. (bit == 1) && bits_in numbers (first + count_ones (word % 2 ^ place))) none)

module _ (numbers : List ℕ) (word first part number from : ℕ) (so_far : IsSpreadBelow numbers word first part number from) where
  -- no bit of the word is left
  pub spread_all : ((other : ℕ) → from ≤ other → other < 64 → bit_at word other ≡ 0) → IsSpread numbers word first part
  spread_all none place small =
      ⊎_elim (λ below. so_far.done place below) (λ past. both_off numbers word first part place (none place past small) (so_far.rest place past)) (cases_lt place from)

  module _ (place : ℕ) (after : from ≤ place) (small : place < 64) (is_set : bit_at word place ≡ 1) (least : (other : ℕ) → from ≤ other → other < place → bit_at word other ≡ 0)
      (next : ℕ) (here : (bit_at next place == 1) ≡ bits_in numbers number) (others : (other : ℕ) → other ≢ place → bit_at next other ≡ bit_at part other) where
    number_here : number ≡ first + count_ones (word % 2 ^ place)
    number_here = so_far.number_is ∙ ap (λ n. first + n) (sym (ones_between word from place after least))

    spread_here : IsSpreadAt numbers word first next place
    spread_here = here ∙ ap (bits_in numbers) number_here ∙ sym (ap (λ bit. (bit == 1) && bits_in numbers (first + count_ones (word % 2 ^ place))) is_set)

    spread_other : (other : ℕ) → other < place → IsSpreadAt numbers word first next other
    spread_other other below =
        let same : bit_at next other ≡ bit_at part other = others other (λ e. absurd (omega (arith, e, below))) in
        ⊎_elim (λ before. ap (λ bit. bit == 1) same ∙ so_far.done other before)
        (λ past. both_off numbers word first next other (least other past below) (same ∙ so_far.rest other past)) (cases_lt other from)

    -- the next set bit is done
    pub spread_more : IsSpreadBelow numbers word first next (number + 1) (place + 1)
    spread_more = record {
      within = omega (arith, small);
      number_is = (let one = ones_at word place is_set in let at = number_here in omega (arith, one, at));
      done = λ other below.
          ⊎_elim (λ same. subst (IsSpreadAt numbers word first next) (sym same) spread_here)
          (λ apart. ⊎_elim (λ less. spread_other other less) (λ more. absurd (omega (arith, below, more))) apart) (cases_order other place);
      rest = λ other past. others other (λ e. absurd (omega (arith, e, past))) ∙ so_far.rest other (omega (arith, past, after));
    }
