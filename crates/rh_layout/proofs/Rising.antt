-- The constants of a procedure rise, so each stands at one place.
use Rattle.std.proofs.Common.{ℕ, ℤ, zero, suc, ◌≡◌, Bool, true, false, cond, List, [], ◌∷◌, Some, refl, ap, subst, arith}
use Rattle.std.specs.Prelude.{int_lt, pos, slice_get, ◌<ℤ◌, if◌then◌else◌}
use Rattle.std.specs.List.{flat_map}
use Rattle.std.specs.Ordering.{is_eq}
use Rattle.std.specs.declared.cmp.Ordering.TheVariants.{Less, Equal, Greater}
use Rattle.std.proofs.lemmas.Int.{ints}
use Rattle.std.proofs.lemmas.Option.{same_Some}
use Rattle.rh_il.specs.declared.program.Proc.{Proc}
use Rattle.rh_il.specs.Numbers.{operand_numbers}
use Rattle.rh_domain.specs.Constants.{constants_of, rising, with_number}

abbrev AreAbove : ℤ → List ℤ → Type 0
AreAbove low [] = Unit {0}
AreAbove low (x ∷ xs) = (low <ℤ x) × AreAbove low xs

abbrev Rises : List ℤ → Type 0
Rises [] = Unit {0}
Rises (x ∷ xs) = AreAbove x xs × Rises xs

is_below : (x y : ℤ) → int_lt x y ≡ true → x <ℤ y
is_below x y test = grind (arith, ints)

all_higher : (low next : ℤ) (xs : List ℤ) → low <ℤ next → AreAbove next xs → AreAbove low xs
all_higher low next [] less above = tt
all_higher low next (x ∷ xs) less above = (omega (arith, ints, less, above.0), all_higher low next xs less above.1)

-- the number put in its place among others
module _ (x y : ℤ) (ys rest : List ℤ) where
  abbrev placed : Bool → Bool → List ℤ
  placed below above = if is_eq (cond below Less (cond above Greater Equal)) then y ∷ ys else (if below then x ∷ y ∷ ys else y ∷ rest)

  above_placed : (low : ℤ) (below above : Bool) → low <ℤ x → AreAbove low (y ∷ ys) → AreAbove low rest → AreAbove low (placed below above)
  above_placed low true above less all later = (less, all)
  above_placed low false true less all later = (all.0, later)
  above_placed low false false less all later = all

  rises_placed : (below above : Bool) → int_lt x y ≡ below → int_lt y x ≡ above → Rises (y ∷ ys) → (y <ℤ x → AreAbove y rest) → Rises rest → Rises (placed below above)
  rises_placed true above is other rises later rest_rises = let less = is_below x y is in ((less, all_higher x y ys less rises.0), rises)
  rises_placed false true is other rises later rest_rises = (later (is_below y x other), rest_rises)
  rises_placed false false is other rises later rest_rises = rises

above_with : (low x : ℤ) (ys : List ℤ) → low <ℤ x → AreAbove low ys → AreAbove low (with_number x ys)
above_with low x [] less all = (less, tt)
above_with low x (y ∷ ys) less all = above_placed x y ys (with_number x ys) low (int_lt x y) (int_lt y x) less all (above_with low x ys less all.1)

rises_with : (x : ℤ) (ys : List ℤ) → Rises ys → Rises (with_number x ys)
rises_with x [] rises = (tt, tt)
rises_with x (y ∷ ys) rises =
    rises_placed x y ys (with_number x ys) (int_lt x y) (int_lt y x) refl refl rises (λ less. above_with y x ys less rises.0) (rises_with x ys rises.1)

rising_rises : (xs : List ℤ) → Rises (rising xs)
rising_rises [] = tt
rising_rises (x ∷ xs) = rises_with x (rising xs) (rising_rises xs)

above_at : (low x : ℤ) (xs : List ℤ) (i : ℕ) → AreAbove low xs → slice_get xs i ≡ Some x → low <ℤ x
above_at low x [] i above read = absurd cc
above_at low x (y ∷ xs) zero above read = subst (λ z. low <ℤ z) (same_Some y x read) above.0
above_at low x (y ∷ xs) (suc i) above read = above_at low x xs i above.1 read

not_below : (x : ℤ) → x <ℤ x → ⊥
not_below x less = absurd (omega (arith, ints, less))

rises_apart : (xs : List ℤ) (i j : ℕ) (x : ℤ) → Rises xs → slice_get xs i ≡ Some x → slice_get xs j ≡ Some x → i ≡ j
rises_apart [] i j x rises one two = absurd cc
rises_apart (y ∷ xs) zero zero x rises one two = refl
rises_apart (y ∷ xs) zero (suc j) x rises one two = absurd (not_below x (subst (λ z. z <ℤ x) (same_Some y x one) (above_at y x xs j rises.0 two)))
rises_apart (y ∷ xs) (suc i) zero x rises one two = absurd (not_below x (subst (λ z. z <ℤ x) (same_Some y x two) (above_at y x xs i rises.0 one)))
rises_apart (y ∷ xs) (suc i) (suc j) x rises one two = ap suc (rises_apart xs i j x rises.1 one two)

pub constants_apart : (proc : Proc) (i j : ℕ) (x : ℤ) → slice_get (constants_of proc) i ≡ Some x → slice_get (constants_of proc) j ≡ Some x → i ≡ j
constants_apart proc i j x one two = rises_apart (constants_of proc) i j x (rising_rises (pos 0 ∷ pos 1 ∷ flat_map operand_numbers proc.body)) one two
