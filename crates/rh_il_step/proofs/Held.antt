-- Stores all of whose values are held: a pointer names a cell, and a number is one of 64 bits.
use Rattle.std.proofs.Common.{ℕ, zero, suc, ℤ, pos, ◌≡◌, ◌+◌, ◌<◌, ◌≤◌, lit<, Bool, true, false, List, [], ◌∷◌, ◌++◌, length, Option, Some, None, slice_set, refl, ap, sym, ◌∙◌, subst, arith, rules, ⊎_elim}
use Rattle.std.specs.List.{All}
use Rattle.std.specs.Prelude.{int_lt, replicate}
use Rattle.std.specs.Option.{option_map_or}
use Rattle.std.proofs.lemmas.Bool.{cases_lt}
use Rattle.std.proofs.lemmas.Int.{SFits-int_wrap}
use Rattle.std.proofs.lemmas.List.{get_or_default, get_or_past}
use mir.Syntax.{w64}
use Rattle.rh_il.specs.declared.value.Op.{Op}
use Rattle.rh_il.specs.declared.value.Op.TheVariants.{Add, Sub, Mul, Less, Equal}
use Rattle.rh_il.specs.declared.value.Value.{Value}
use Rattle.rh_il.specs.declared.value.Value.TheVariants.{Num, Ptr}
use Rattle.rh_il.specs.Op.{apply, truth}
use Rattle.rh_il.specs.Value.{IsNumber, value_eq}
use Rattle.rh_il_step.specs.State.{IsHeld, cell}

-- whatever is read of the cells is held in a store of that size; past them it is 0
abbrev pub AreHeld : ℕ → List Value → Type 0
AreHeld size cells = (location : ℕ) → IsHeld size (cell cells location)

pub zero_held : (size : ℕ) → IsHeld size (Num (pos 0))
zero_held size = search rules

pub held_more : (size more : ℕ) (value : Value) → size ≤ more → IsHeld size value → IsHeld more value
held_more size more (Num number) le held = held
held_more size more (Ptr location) le held = omega (arith, le, held)

pub are_held : (size : ℕ) (cells : List Value) → All (IsHeld size) cells → AreHeld size cells
are_held size cells all k =
    ⊎_elim (λ below. all k (Num (pos 0)) below)
    (λ past. subst (IsHeld size) (sym (get_or_past cells k (Num (pos 0)) past)) (zero_held size))
    (cases_lt k (length cells))

pub all_held : (size : ℕ) (cells : List Value) → AreHeld size cells → All (IsHeld size) cells
all_held size cells held k d below = subst (IsHeld size) (get_or_default cells k (Num (pos 0)) d below) (held k)

pub held_set : (size : ℕ) (cells : List Value) (at : ℕ) (value : Value) → IsHeld size value → AreHeld size cells → AreHeld size (slice_set cells at value)
held_set size [] at value held all k = all k
held_set size (c ∷ cells) zero value held all zero = held
held_set size (c ∷ cells) zero value held all (suc k) = all (suc k)
held_set size (c ∷ cells) (suc at) value held all zero = all 0
held_set size (c ∷ cells) (suc at) value held all (suc k) = held_set size cells at value held (λ j. all (suc j)) k

pub held_append : (size : ℕ) (cells more : List Value) → AreHeld size cells → AreHeld size more → AreHeld size (cells ++ more)
held_append size [] more all held k = held k
held_append size (c ∷ cells) more all held zero = all 0
held_append size (c ∷ cells) more all held (suc k) = held_append size cells more (λ j. all (suc j)) held k

pub held_first : (size : ℕ) (value : Value) (cells : List Value) → IsHeld size value → AreHeld size cells → AreHeld size (value ∷ cells)
held_first size value cells held all zero = held
held_first size value cells held all (suc k) = all k

pub zeros_held : (size n : ℕ) → AreHeld size (replicate n (Num (pos 0)))
zeros_held size zero k = zero_held size
zeros_held size (suc n) zero = zero_held size
zeros_held size (suc n) (suc k) = zeros_held size n k

-- ---- what operators give

number_held : (size : ℕ) (number : ℤ) (value : Value) → ◌≡◌ {A = Option Value} (Some (Num number)) (Some value) → IsNumber number → IsHeld size value
number_held size number value same fits = let is : Num number ≡ value = ap (λ o. option_map_or (λ v. v) o value) same in subst (IsHeld size) is fits

truth_fits : (b : Bool) → IsNumber (truth b)
truth_fits true = record { sfits = lit< tt }
truth_fits false = record { sfits = lit< tt }

-- what an operator gives is a number of 64 bits
pub computed_held : (size : ℕ) (op : Op) (a b value : Value) → apply op a b ≡ Some value → IsHeld size value
computed_held size Add (Num a) (Num b) value is = number_held size _ value is (SFits-int_wrap w64 _)
computed_held size Sub (Num a) (Num b) value is = number_held size _ value is (SFits-int_wrap w64 _)
computed_held size Mul (Num a) (Num b) value is = number_held size _ value is (SFits-int_wrap w64 _)
computed_held size Less (Num a) (Num b) value is = number_held size _ value is (truth_fits (int_lt a b))
computed_held size Equal a b value is = number_held size _ value is (truth_fits (value_eq a b))
computed_held size Add (Num a) (Ptr b) value is = cc
computed_held size Sub (Num a) (Ptr b) value is = cc
computed_held size Mul (Num a) (Ptr b) value is = cc
computed_held size Less (Num a) (Ptr b) value is = cc
computed_held size Add (Ptr a) b value is = cc
computed_held size Sub (Ptr a) b value is = cc
computed_held size Mul (Ptr a) b value is = cc
computed_held size Less (Ptr a) b value is = cc
