-- The place of a set bit in a word, by the bits that are set below it.
use Rattle.std.proofs.Common.{ℕ, zero, suc, ◌≡◌, ◌+◌, ◌%◌, ◌^◌, ◌<◌, ◌≤◌, false, ap, ◌∙◌, subst, arith, ⊎_elim}
use Rattle.std.specs.Int.{bit_at}
use Rattle.std.specs.Prelude.{◌==◌, count_ones, if◌then◌else◌}
use Rattle.std.proofs.lemmas.Bool.{cases_Bool, cases_lt, eqb-true}
use Rattle.std.proofs.lemmas.Nat.{mod_below, ones-le, pow_pos}
use Rattle.rh_rank.proofs.WordRanks.{ones_more}

-- as few bits are set below a place as there are places below it
pub ones_low : (word place : ℕ) → count_ones (word % 2 ^ place) ≤ place
ones_low word place = ones-le place (word % 2 ^ place) (mod_below word (2 ^ place) (pow_pos place))

pub ones_at : (word place : ℕ) → bit_at word place ≡ 1 → count_ones (word % 2 ^ (place + 1)) ≡ count_ones (word % 2 ^ place) + 1
ones_at word place is =
    let next : place + 1 ≡ suc place = omega arith in
    ap (λ n. count_ones (word % 2 ^ n)) next ∙ ones_more word place ∙ ap (λ bit. count_ones (word % 2 ^ place) + (if bit == 1 then 1 else 0)) is

ones_off : (word place : ℕ) → (bit_at word place == 1) ≡ false → count_ones (word % 2 ^ suc place) ≡ count_ones (word % 2 ^ place)
ones_off word place is =
    let none : count_ones (word % 2 ^ place) + 0 ≡ count_ones (word % 2 ^ place) = omega arith in
    ones_more word place ∙ ap (λ b. count_ones (word % 2 ^ place) + (if b then 1 else 0)) is ∙ none

-- where no bit is set between two places, as many are set below the one as below the other
pub ones_between : (word from place : ℕ) → from ≤ place → ((other : ℕ) → from ≤ other → other < place → bit_at word other ≡ 0) → count_ones (word % 2 ^ place) ≡ count_ones (word % 2 ^ from)
ones_between word from zero after none = let same : zero ≡ from = omega (arith, after) in ap (λ n. count_ones (word % 2 ^ n)) same
ones_between word from (suc place) after none =
    ⊎_elim (λ below. ones_off word place (ap (λ bit. bit == 1) (none place (omega (arith, below)) (omega arith)))
    ∙ ones_between word from place (omega (arith, below)) (λ other from_there inside. none other from_there (omega (arith, inside))))
    (λ past. (let same : suc place ≡ from = omega (arith, after, past) in ap (λ n. count_ones (word % 2 ^ n)) same))
    (cases_lt from (suc place))

-- a place up to which not too many bits are set, though too many are up to the next
pub at_turn : (word ones low high : ℕ) → low < high → high ≤ low + 1 → count_ones (word % 2 ^ low) ≤ ones → ones < count_ones (word % 2 ^ high)
    → (bit_at word low ≡ 1) × (count_ones (word % 2 ^ low) ≡ ones)
at_turn word ones low high apart next few many =
    let same : high ≡ suc low = omega (arith, apart, next) in
    let more : ones < count_ones (word % 2 ^ suc low) = subst (λ n. ones < count_ones (word % 2 ^ n)) same many in
    ⊎_elim (λ set. (let is = eqb-true (bit_at word low) 1 set in
    let one = ones_at word low is in
    let there : suc low ≡ low + 1 = omega arith in
    let less : ones < count_ones (word % 2 ^ (low + 1)) = subst (λ n. ones < count_ones (word % 2 ^ n)) there more in
    (is, omega (arith, one, few, less))))
    (λ off. (let none = ones_off word low off in absurd (omega (arith, none, few, more))))
    (cases_Bool (bit_at word low == 1))
