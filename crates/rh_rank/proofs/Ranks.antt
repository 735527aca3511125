-- Ranks rise, and the members of a set have ranks of their own.
use Rattle.std.proofs.Common.{ℕ, zero, suc, ◌≡◌, ◌+◌, ◌<◌, ◌≤◌, true, false, ap, ◌∙◌, subst, arith, ⊎_elim}
use Rattle.std.specs.Prelude.{if◌then◌else◌}
use Rattle.std.proofs.lemmas.Bool.{cases_Bool, cases_lt, cases_order}
use Rattle.rh_system.specs.Bits.{BitSet}
use Rattle.rh_rank.specs.Rank.{rank}

-- sets with the same members have the same ranks
pub rank_same : (f g : BitSet) → ((bit : ℕ) → f bit ≡ g bit) → (bit : ℕ) → rank f bit ≡ rank g bit
rank_same f g same bit = ap (λ (set : BitSet). rank set bit) (λ i b. same b i)

module _ (set : BitSet) where
  pub rank_in : (bit : ℕ) → set bit ≡ true → rank set (bit + 1) ≡ rank set bit + 1
  unfolding rank
  rank_in bit is = let next : bit + 1 ≡ suc bit = omega arith in ap (rank set) next ∙ ap (λ b. rank set bit + (if b then 1 else 0)) is

  pub rank_out : (bit : ℕ) → set bit ≡ false → rank set (bit + 1) ≡ rank set bit
  unfolding rank
  rank_out bit is =
      let next : bit + 1 ≡ suc bit = omega arith in
      let none : rank set bit + 0 ≡ rank set bit = omega arith in
      ap (rank set) next ∙ ap (λ b. rank set bit + (if b then 1 else 0)) is ∙ none

  step_rises : (bit : ℕ) → rank set bit ≤ rank set (suc bit)
  unfolding rank
  step_rises bit = omega arith

  pub rank_rises : (low high : ℕ) → low ≤ high → rank set low ≤ rank set high
  rank_rises low zero le = let same : low ≡ zero = omega (arith, le) in subst (λ bit. rank set low ≤ rank set bit) same (omega arith)
  rank_rises low (suc high) le =
      ⊎_elim (λ below. (let rest = rank_rises low high (omega (arith, below)) in let step = step_rises high in omega (arith, rest, step)))
      (λ from. (let same : low ≡ suc high = omega (arith, le, from) in subst (λ bit. rank set low ≤ rank set bit) same (omega arith)))
      (cases_lt low (suc high))

  -- as few members are below a bit as there are bits below it
  pub rank_le : (bit : ℕ) → rank set bit ≤ bit
  unfolding rank
  rank_le zero = omega arith
  rank_le (suc bit) =
      let rest = rank_le bit in
      ⊎_elim (λ is. (let more = ap (λ b. rank set bit + (if b then 1 else 0)) is in omega (arith, rest, more)))
      (λ is. (let same = ap (λ b. rank set bit + (if b then 1 else 0)) is in omega (arith, rest, same))) (cases_Bool (set bit))

  -- past a member the rank is greater
  pub rank_above : (low high : ℕ) → set low ≡ true → low < high → rank set low < rank set high
  rank_above low high is below =
      let step = rank_in low is in
      let rest = rank_rises (low + 1) high (omega (arith, below)) in
      omega (arith, step, rest)

  pub one_rank : (bit other : ℕ) → set bit ≡ true → set other ≡ true → rank set bit ≡ rank set other → bit ≡ other
  one_rank bit other is_bit is_other same =
      ⊎_elim (λ here. here)
      (λ apart. absurd (⊎_elim (λ below. (let less = rank_above bit other is_bit below in omega (arith, same, less)))
      (λ above. (let less = rank_above other bit is_other above in omega (arith, same, less))) apart))
      (cases_order bit other)

  -- a member whose rank is below that of a bit stands below the bit
  pub below_by_rank : (bit other : ℕ) → rank set bit < rank set other → bit < other
  below_by_rank bit other less =
      ⊎_elim (λ below. below) (λ from. (let rise = rank_rises other bit from in absurd (omega (arith, less, rise)))) (cases_lt bit other)
