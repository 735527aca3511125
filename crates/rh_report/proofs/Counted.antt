-- How many numbers pass a test, and sums over numbers.
use Rattle.std.proofs.Common.{ℕ, zero, suc, ◌≡◌, ◌+◌, ◌<◌, Bool, true, false, cond, List, [], ◌∷◌, map, length, Some, refl, ap, sym, ◌∙◌, arith}
use Rattle.std.specs.Prelude.{filter, slice_get, if◌then◌else◌}
use Rattle.rh_report.specs.Counts.{counted}

-- those of more numbers
pub counted_more : (test : ℕ → Bool) (from count more : ℕ) → counted test from (count + more) ≡ counted test from count + counted test (from + count) more
unfolding counted
counted_more test from zero more =
    let size : 0 + more ≡ more = omega arith in
    let start : from ≡ from + 0 = omega arith in
    let none : 0 + counted test from more ≡ counted test from more = omega arith in
    ap (counted test from) size ∙ sym none ∙ ap (λ n. 0 + counted test n more) start
counted_more test from (suc count) more =
    let size : suc count + more ≡ suc (count + more) = omega arith in
    let start : (from + 1) + count ≡ from + suc count = omega arith in
    let here : ℕ = if test from then 1 else 0 in
    let parts : here + (counted test (from + 1) count + counted test (from + suc count) more) ≡ (here + counted test (from + 1) count) + counted test (from + suc count) more = omega arith in
    ap (counted test from) size
    ∙ ap (λ n. here + n) (counted_more test (from + 1) count more ∙ ap (λ n. counted test (from + 1) count + counted test n more) start) ∙ parts

-- one number more
pub counted_one : (test : ℕ → Bool) (count : ℕ) → counted test 0 (count + 1) ≡ counted test 0 count + (if test count then 1 else 0)
unfolding counted
counted_one test count =
    let start : 0 + count ≡ count = omega arith in
    let none : (if test (0 + count) then 1 else 0) + 0 ≡ (if test (0 + count) then 1 else 0) = omega arith in
    counted_more test 0 count 1 ∙ ap (λ n. counted test 0 count + n) (none ∙ ap (λ n. if test n then 1 else 0) start)

-- tests that agree pass as many
pub counted_same : (test other : ℕ → Bool) (from start count : ℕ) → ((k : ℕ) → k < count → test (from + k) ≡ other (start + k)) → counted test from count ≡ counted other start count
unfolding counted
counted_same test other from start zero each = refl
counted_same test other from start (suc count) each =
    let here : from ≡ from + 0 = omega arith in
    let there : start ≡ start + 0 = omega arith in
    let rest = counted_same test other (from + 1) (start + 1) count
    (λ k below.
    let next : (from + 1) + k ≡ from + suc k = omega arith in
    let after : (start + 1) + k ≡ start + suc k = omega arith in
    ap test next ∙ each (suc k) (omega (arith, below)) ∙ ap other (sym after)) in
    ap (λ b. (if b then 1 else 0) + counted test (from + 1) count) (ap test here ∙ each 0 (omega arith) ∙ ap other (sym there)) ∙ ap (λ n. (if other start then 1 else 0) + n) rest

-- the items of a list that pass, by their numbers
module _ {X Y : Type 0} (make : X → Y) (known : Y → Bool) (test : ℕ → Bool) where
  kept : (passes : Bool) (y : Y) (ys : List Y) → length (cond passes (y ∷ ys) ys) ≡ (if passes then 1 else 0) + length ys
  kept true y ys = omega arith
  kept false y ys = omega arith

  pub counted_items : (xs : List X) (from : ℕ) → ((k : ℕ) (x : X) → slice_get xs k ≡ Some x → known (make x) ≡ test (from + k)) → length (filter known (map make xs)) ≡ counted test from (length xs)
  unfolding counted
  counted_items [] from passes = refl
  counted_items (x ∷ xs) from passes =
      let start : from + 0 ≡ from = omega arith in
      let rest = counted_items xs (from + 1) (λ k y read. let next : (from + 1) + k ≡ from + suc k = omega arith in passes (suc k) y read ∙ ap test (sym next)) in
      kept (known (make x)) (make x) (filter known (map make xs)) ∙ ap (λ b. (if b then 1 else 0) + length (filter known (map make xs))) (passes 0 x refl ∙ ap test start)
      ∙ ap (λ n. (if test from then 1 else 0) + n) rest

-- the values at so many numbers, added up
abbrev pub total : (ℕ → ℕ) → ℕ → ℕ
total value zero = 0
total value (suc count) = total value count + value count

pub total_more : (value : ℕ → ℕ) (count more : ℕ) → total value (count + more) ≡ total value count + total (λ k. value (count + k)) more
total_more value count zero =
    let size : count + 0 ≡ count = omega arith in
    let none : total value count + 0 ≡ total value count = omega arith in
    ap (total value) size ∙ sym none
total_more value count (suc more) =
    let size : count + suc more ≡ suc (count + more) = omega arith in
    let rest = total_more value count more in
    let parts : (total value count + total (λ k. value (count + k)) more) + value (count + more) ≡ total value count + (total (λ k. value (count + k)) more + value (count + more)) = omega arith in
    ap (total value) size ∙ ap (λ n. n + value (count + more)) rest ∙ parts

pub total_same : (value other : ℕ → ℕ) (count : ℕ) → ((k : ℕ) → k < count → value k ≡ other k) → total value count ≡ total other count
total_same value other zero each = refl
total_same value other (suc count) each =
    let rest = total_same value other count (λ k below. each k (omega (arith, below))) in
    let here = each count (omega arith) in
    λ i. rest i + here i
