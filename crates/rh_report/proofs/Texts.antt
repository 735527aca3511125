-- The texts of the numbers that pass a test.
use Rattle.std.proofs.Common.{ℕ, zero, suc, ◌≡◌, ◌+◌, ◌<◌, ◌≤◌, Bool, true, false, cond, List, [], ◌∷◌, ◌++◌, map, length, Some, refl, ap, sym, ◌∙◌, arith, append_assoc}
use Rattle.std.specs.Prelude.{filter, slice_get, if◌then◌else◌}
use Rattle.std.specs.List.{flat_map}
use Rattle.rh_report.specs.FactLines.{texts_of}

module _ (test : ℕ → Bool) (text : ℕ → List ℕ) where
  -- those of more numbers
  pub texts_more : (from count more : ℕ) → texts_of test text from (count + more) ≡ texts_of test text from count ++ texts_of test text (from + count) more
  unfolding texts_of
  texts_more from zero more =
      let size : 0 + more ≡ more = omega arith in
      let start : from ≡ from + 0 = omega arith in
      ap (texts_of test text from) size ∙ ap (λ n. texts_of test text n more) start
  texts_more from (suc count) more =
      let size : suc count + more ≡ suc (count + more) = omega arith in
      let start : (from + 1) + count ≡ from + suc count = omega arith in
      let here : List ℕ = if test from then text from else [] in
      ap (texts_of test text from) size
      ∙ ap (λ t. here ++ t) (texts_more (from + 1) count more ∙ ap (λ n. texts_of test text (from + 1) count ++ texts_of test text n more) start)
      ∙ sym (append_assoc here (texts_of test text (from + 1) count) (texts_of test text (from + suc count) more))

  -- none where none passes
  pub texts_none : (from count : ℕ) → ((k : ℕ) → k < count → test (from + k) ≡ false) → texts_of test text from count ≡ []
  unfolding texts_of
  texts_none from zero each = refl
  texts_none from (suc count) each =
      let start : from ≡ from + 0 = omega arith in
      let rest = texts_none (from + 1) count (λ k below. let same : (from + 1) + k ≡ from + suc k = omega arith in ap test same ∙ each (suc k) (omega (arith, below))) in
      ap (λ b. (if b then text from else []) ++ texts_of test text (from + 1) count) (ap test start ∙ each 0 (omega arith)) ∙ rest

  -- nor where the texts are empty
  empty_if : (passes : Bool) (t : List ℕ) → t ≡ [] → (if passes then t else []) ≡ []
  empty_if true t empty = empty
  empty_if false t empty = refl

  pub texts_empty : (from count : ℕ) → ((k : ℕ) → k < count → text (from + k) ≡ []) → texts_of test text from count ≡ []
  unfolding texts_of
  texts_empty from zero each = refl
  texts_empty from (suc count) each =
      let start : from ≡ from + 0 = omega arith in
      let rest = texts_empty (from + 1) count (λ k below. let same : (from + 1) + k ≡ from + suc k = omega arith in ap text same ∙ each (suc k) (omega (arith, below))) in
      ap (λ t. t ++ texts_of test text (from + 1) count) (empty_if (test from) (text from) (ap text start ∙ each 0 (omega arith))) ∙ rest

  -- the first that passes, and those behind it
  pub texts_first : (from gap rest : ℕ) → ((k : ℕ) → k < gap → test (from + k) ≡ false) → test (from + gap) ≡ true
      → texts_of test text from (gap + suc rest) ≡ text (from + gap) ++ texts_of test text (from + gap + 1) rest
  unfolding texts_of
  texts_first from gap rest none passes =
      texts_more from gap (suc rest) ∙ ap (λ t. t ++ texts_of test text (from + gap) (suc rest)) (texts_none from gap none)
      ∙ ap (λ b. (if b then text (from + gap) else []) ++ texts_of test text (from + gap + 1) rest) passes

-- tests that agree pick the same
pub texts_same : (test other : ℕ → Bool) (text : ℕ → List ℕ) (from count : ℕ) → ((k : ℕ) → k < count → test (from + k) ≡ other (from + k)) → texts_of test text from count ≡ texts_of other text from count
unfolding texts_of
texts_same test other text from zero each = refl
texts_same test other text from (suc count) each =
    let start : from ≡ from + 0 = omega arith in
    let rest = texts_same test other text (from + 1) count (λ k below. let same : (from + 1) + k ≡ from + suc k = omega arith in ap test same ∙ each (suc k) (omega (arith, below)) ∙ ap other (sym same)) in
    ap (λ b. (if b then text from else []) ++ texts_of test text (from + 1) count) (ap test start ∙ each 0 (omega arith) ∙ ap other (sym start))
    ∙ ap (λ t. (if other from then text from else []) ++ t) rest

-- the texts of those items of a list that pass, by their numbers
module _ {X Y : Type 0} (make : X → Y) (line : Y → List ℕ) (known : Y → Bool) (test : ℕ → Bool) (text : ℕ → List ℕ) where
  kept : (passes : Bool) (y : Y) (ys : List Y) → flat_map line (cond passes (y ∷ ys) ys) ≡ (if passes then line y else []) ++ flat_map line ys
  kept true y ys = refl
  kept false y ys = refl

  pub texts_picked : (xs : List X) (from count : ℕ) → length xs ≤ count
      → ((k : ℕ) (x : X) → slice_get xs k ≡ Some x → known (make x) ≡ test (from + k)) → ((k : ℕ) (x : X) → slice_get xs k ≡ Some x → text (from + k) ≡ line (make x))
      → ((k : ℕ) → length xs ≤ k → text (from + k) ≡ []) → flat_map line (filter known (map make xs)) ≡ texts_of test text from count
  unfolding texts_of
  texts_picked [] from count short passes reads past = sym (texts_empty test text from count (λ k below. past k (omega arith)))
  texts_picked (x ∷ xs) from zero short passes reads past = absurd (omega (arith, short))
  texts_picked (x ∷ xs) from (suc count) short passes reads past =
      let start : from + 0 ≡ from = omega arith in
      let next : (k : ℕ) → (from + 1) + k ≡ from + suc k = λ k. omega arith in
      let rest = texts_picked xs (from + 1) count (omega (arith, short)) (λ k y read. passes (suc k) y read ∙ ap test (sym (next k))) (λ k y read. ap text (next k) ∙ reads (suc k) y read)
      (λ k long. ap text (next k) ∙ past (suc k) (omega (arith, long))) in
      kept (known (make x)) (make x) (filter known (map make xs))
      ∙ ap (λ b. (if b then line (make x) else []) ++ flat_map line (filter known (map make xs))) (passes 0 x refl ∙ ap test start)
      ∙ ap (λ t. (if test from then t else []) ++ flat_map line (filter known (map make xs))) (sym (ap text (sym start) ∙ reads 0 x refl))
      ∙ ap (λ t. (if test from then text from else []) ++ t) rest
