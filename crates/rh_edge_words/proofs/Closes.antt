-- What a seat with the whole stake knows in the end.
use Rattle.std.proofs.Common.{◌≡◌, ◌≢◌, ℕ, zero, suc, ◌+◌, ◌-◌, ◌*◌, ◌/◌, ◌%◌, ◌^◌, ◌<◌, ◌≤◌, ◌⊎◌, inl, inr, Bool, true, false, IsTrue, List, [], ◌∷◌, length, get_or, set, map, refl, sym, ap, subst, arith, ◌∙◌, sum_by, length-set}
use mathlib.Core.Option.{some}
use lib.ListN.{get_elem?}
use Rattle.std.specs.Int.{bit_at}
use Rattle.std.specs.Int.RustNames.{count_ones}
use Rattle.std.proofs.lemmas.Bool.{cases_eq, cases_lt}
use Rattle.std.proofs.lemmas.List.{get_or_past, get_or-map}
use Rattle.std.proofs.lemmas.List.Elements.{All-from_get_or}
use Rattle.std.proofs.lemmas.List.Sums.{sum_by-set, sum_by-cons, sum_by-le}
use Rattle.std.proofs.lemmas.Nat.Bits.{bit_at-lt, bit_at-zero}
use Rattle.atomic_table.specs.Table.{State}
use Rattle.rh_system.specs.Bits.{bits_in}
use Rattle.rh_system.specs.Rows.{IsGreatest}
use Rattle.rh_system.proofs.Supports.{bits_in_at, set_from_test, test_from_set}
use Rattle.rh_core.specs.State.{WorkerState, spent, worker_at}
use Rattle.rh_core.proofs.Lists.{by_place, two_of}
use Rattle.rh_edge_words.specs.declared.view.View.{View}
use Rattle.rh_edge_words.specs.Meaning.{Meaning}
use Rattle.rh_edge_words.specs.Views.{worker_of, spent_view}
use Rattle.rh_edge_words.specs.Rule.{system_words, core_of, KeepsTable}
use Rattle.rh_edge_words.specs.Seated.{ArePartsOf}
use Rattle.rh_edge_words.proofs.Counts.{over, over_same, over_sum, ones_over}
use Rattle.rh_edge_words.proofs.Tables.{at_view, worker_is, live_at}

-- ---- sums of which one part alone is not 0

pub only : {A : Type 0} (f : A → ℕ) (xs : List A) (i : ℕ) (d : A) → i < length xs → f d ≡ 0 → ((j : ℕ) → j ≢ i → f (get_or xs j d) ≡ 0) → sum_by f xs ≡ f (get_or xs i d)
only f xs i d inside none others =
    let changed : sum_by f (set xs i d) + f (get_or xs i d) ≡ sum_by f xs + f d = sum_by-set f xs i d d inside in
    let zeros : (j : ℕ) → f (get_or (set xs i d) j d) ≡ 0 = λ j. by_place (λ x. f x ≡ 0) xs i j d d inside (λ same. none) (λ differs. others j differs) in
    let small : sum_by f (set xs i d) ≤ length (set xs i d) * 0 =
    sum_by-le f 0 (set xs i d) (All-from_get_or (λ x. f x ≤ 0) (set xs i d) d (λ j below. let z = zeros j in omega arith)) in
    omega arith

-- words whose bits are shared out between two others
pub counts_parted : (xs ys zs : List ℕ) → length xs ≡ length zs → length ys ≡ length zs → ((k : ℕ) → get_or xs k 0 < 2 ^ 64) → ((k : ℕ) → get_or ys k 0 < 2 ^ 64) → ((k : ℕ) → get_or zs k 0 < 2 ^ 64)
    → ArePartsOf xs ys zs → sum_by count_ones xs + sum_by count_ones ys ≡ sum_by count_ones zs
counts_parted [] [] [] a b p q r parted = refl
counts_parted (x ∷ xs) ys [] a b p q r parted = absurd (omega arith)
counts_parted [] (y ∷ ys) [] a b p q r parted = absurd (omega arith)
counts_parted [] ys (z ∷ zs) a b p q r parted = absurd (omega arith)
counts_parted (x ∷ xs) [] (z ∷ zs) a b p q r parted = absurd (omega arith)
counts_parted (x ∷ xs) (y ∷ ys) (z ∷ zs) a b p q r parted =
    let ox : count_ones x ≡ over 64 (bit_at x) = ones_over 64 x (p 0) in
    let oy : count_ones y ≡ over 64 (bit_at y) = ones_over 64 y (q 0) in
    let oz : count_ones z ≡ over 64 (bit_at z) = ones_over 64 z (r 0) in
    let same : over 64 (λ i. bit_at x i + bit_at y i) ≡ over 64 (bit_at z) = over_same 64 (λ i. bit_at x i + bit_at y i) (bit_at z) (λ i below. parted 0 i below) in
    let sum : over 64 (λ i. bit_at x i + bit_at y i) ≡ over 64 (bit_at x) + over 64 (bit_at y) = over_sum 64 (bit_at x) (bit_at y) in
    let rest = counts_parted xs ys zs (omega arith) (omega arith) (λ k. p (suc k)) (λ k. q (suc k)) (λ k. r (suc k)) (λ k. parted (suc k)) in
    let cx = sum_by-cons count_ones x xs in
    let cy = sum_by-cons count_ones y ys in
    let cz = sum_by-cons count_ones z zs in
    omega arith

module _ {S : Type 0} (m : Meaning) (s : State S View) (id : ℕ) (v : View) (kept : KeepsTable m s) (e : get_elem? s.views id ≡ some v) (whole : v.stake ≡ 16) where
  -- no other seat has a stake
  no_stake : (j : ℕ) → j ≢ id → (get_or s.views j spent_view).stake ≡ 0
  no_stake j differs =
      elim (cases_lt j (length s.views)) [
        | inl inside ↦
            let t = at_view s.views id v e in
            let f : View → ℕ = λ u. u.stake in
            let two : f (get_or s.views j spent_view) + f (get_or s.views id spent_view) ≤ sum_by f s.views = two_of f s.views j id spent_view inside t.0 differs refl in
            let is : f (get_or s.views id spent_view) ≡ v.stake = ap f t.1 in
            let total : sum_by f s.views ≡ 16 = kept.stakes in
            omega arith
        | inr past ↦ ap (λ (u : View). u.stake) (get_or_past s.views j spent_view past)
      ]

  other_spent : (j : ℕ) → j ≢ id → (worker_at (core_of m.full s) j).credits ≡ []
  other_spent j differs =
      elim (cases_lt j (length s.views)) [
        | inl inside ↦
            let is : worker_at (core_of m.full s) j ≡ worker_of (get_or s.views j spent_view) = get_or-map worker_of s.views j spent_view spent inside in
            let off : (worker_at (core_of m.full s) j).live ≡ false = ap (λ (w : WorkerState). w.live) is ∙ ap (λ (n : ℕ). Rattle.std.proofs.Common.nat_lt 0 n) (no_stake j differs) in
            (kept.core.spent j off).1
        | inr past ↦
            let long : length (map worker_of s.views) ≡ length s.views = Rattle.std.proofs.lemmas.List.length-map s.views worker_of in
            ap (λ (w : WorkerState). w.credits) (get_or_past (map worker_of s.views) j spent (omega arith))
      ]

  -- each full bit is in the word or in the credits of this seat
  shared_out : (k place : ℕ) → place < 64 → bit_at (get_or (system_words m.full s.words) k 0) place + bit_at (get_or v.credits k 0) place ≡ bit_at (get_or m.full k 0) place
  shared_out k place small =
      let f : WorkerState → ℕ = λ x. bit_at (get_or x.credits k 0) place in
      let ws : List WorkerState = map worker_of s.views in
      let t = at_view s.views id v e in
      let long : length ws ≡ length s.views = Rattle.std.proofs.lemmas.List.length-map s.views worker_of in
      let inside : id < length s.views = t.0 in
      let mine : sum_by f ws ≡ f (worker_at (core_of m.full s) id) =
      only f ws id spent (omega arith) (bit_at-zero place) (λ j differs. ap (λ (c : List ℕ). bit_at (get_or c k 0) place) (other_spent j differs) ∙ bit_at-zero place) in
      let is : f (worker_at (core_of m.full s) id) ≡ bit_at (get_or v.credits k 0) place = ap f (worker_is s.words s.views id v e) in
      let once : bit_at (get_or (system_words m.full s.words) k 0) place + sum_by f ws ≡ bit_at (get_or m.full k 0) place = kept.core.once k place small in
      omega arith

  -- where the seat has seen Greatest, the words of the system are what it has seen
  seen_last : IsGreatest m.rows v.seen → (k place : ℕ) → place < 64 → bit_at (get_or v.seen k 0) place ≡ bit_at (get_or (system_words m.full s.words) k 0) place
  seen_last greatest k place small =
      let live = live_at s.words s.views id v e (let w = whole in omega arith) in
      let sees = kept.core.seen id live in
      let is = worker_is s.words s.views id v e in
      let le : bit_at (get_or (system_words m.full s.words) k 0) place ≤ bit_at (get_or v.seen k 0) place =
      subst (λ (w : WorkerState). bit_at (get_or (system_words m.full s.words) k 0) place ≤ bit_at (get_or w.seen k 0) place) is (sees.within k place) in
      let a = bit_at-lt (get_or v.seen k 0) place in
      let b = bit_at-lt (get_or (system_words m.full s.words) k 0) place in
      elim (cases_eq (bit_at (get_or v.seen k 0) place) 1) [
        | inl set ↦
            let in_seen : IsTrue (bits_in v.seen (64 * k + place)) = bits_in_at v.seen k place small ∙ test_from_set _ set in
            let in_words : IsTrue (bits_in (system_words m.full s.words) (64 * k + place)) = kept.core.greatest (64 * k + place) ((greatest (64 * k + place)).0 in_seen) in
            let there : bit_at (get_or (system_words m.full s.words) k 0) place ≡ 1 = set_from_test (bit_at (get_or (system_words m.full s.words) k 0) place) (sym (bits_in_at (system_words m.full s.words) k place small) ∙ in_words) in
            omega arith
        | inr none ↦ omega arith
      ]

  -- where the seat has seen Greatest, each full bit is in its credits or in Greatest
  pub parts : IsGreatest m.rows v.seen → ArePartsOf v.credits v.seen m.full
  parts greatest k place small = let a = seen_last greatest k place small in let b = shared_out k place small in omega arith
