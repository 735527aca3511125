-- A seat that splits, and one that takes in another.
use Rattle.std.proofs.Common.{◌≡◌, ◌≢◌, ℕ, ◌+◌, ◌-◌, ◌<◌, ◌≤◌, List, [], ◌∷◌, ◌++◌, length, get_or, set, map, refl, sym, ap, subst, arith, ◌∙◌, sum_by, length-set}
use mathlib.Core.Option.{some}
use lib.ListN.{get_elem?}
use Rattle.std.specs.Int.{bit_at}
use Rattle.std.proofs.lemmas.List.{get_or-set_other}
use Rattle.std.proofs.lemmas.List.Sums.{sum_by-set, sum_by_push}
use Rattle.std.proofs.lemmas.Nat.Bits.{bit_at-lt, bit_at-zero}
use Rattle.atomic_table.specs.Table.{State, Splits, Joins}
use Rattle.atomic_table.proofs.Lists.{set_else}
use Rattle.rh_core.specs.State.{WorkerState, spent, worker_at}
use Rattle.rh_core.specs.WordsLaw.{KeepsWords}
use Rattle.rh_core.proofs.Lists.{by_place, by_push, two_of, live_inside}
use Rattle.rh_core.proofs.Keeps.{move_keeps}
use Rattle.rh_edge_words.specs.declared.view.View.{View}
use Rattle.rh_edge_words.specs.Meaning.{Meaning}
use Rattle.rh_edge_words.specs.Views.{worker_of, spent_view, poorer, new_view, both_views}
use Rattle.rh_edge_words.specs.Rule.{system_words, core_in, core_of, IsTallied, KeepsTable}
use Rattle.rh_edge_words.proofs.Tallies.{spent_tallied, same_tally, new_tally, both_tally}
use Rattle.rh_edge_words.proofs.Tables.{at_view, stake_at, worker_is, live_at, tally}
use Rattle.rh_edge_words.proofs.StepMoves.{split_move, join_move}

module _ {S : Type 0} (m : Meaning) where
  seen_long : (s : State S View) (id : ℕ) (v : View) → KeepsTable m s → get_elem? s.views id ≡ some v → 0 < v.stake → (length v.seen ≡ length m.full) × (length v.credits ≡ length m.full)
  seen_long s id v kept e some_stake =
      let sees = kept.core.seen id (live_at s.words s.views id v e some_stake) in
      let is = worker_is s.words s.views id v e in
      let long : length (system_words m.full s.words) ≡ length m.full = kept.core.as_long in
      (sym (ap (λ (w : WorkerState). length w.seen) is) ∙ (sees.as_long ∙ long), sym (ap (λ (w : WorkerState). length w.credits) is) ∙ (sees.credits_as_long ∙ long))

  split_core : (s : State S View) (id : ℕ) (v : View) → KeepsTable m s → get_elem? s.views id ≡ some v → 2 ≤ v.stake → KeepsWords m.full m.rows (core_in m.full s.words (set s.views id (poorer v) ++ new_view v ∷ []))
  split_core s id v kept e enough =
      let is = (at_view s.views id v e).1 in
      let enough' : 2 ≤ (get_or s.views id spent_view).stake = subst (λ (u : View). 2 ≤ u.stake) (sym is) enough in
      let P : View → Type 0 = λ u. KeepsWords m.full m.rows (core_in m.full s.words (set s.views id (poorer u) ++ new_view u ∷ [])) in
      subst P is (move_keeps (core_of m.full s) _ (split_move m.rows (system_words m.full s.words) s.views id (omega arith) enough') kept.core)

  pub splits : (id : ℕ) (v : View) → 2 ≤ v.stake → Splits {S = S} (KeepsTable m) id v (poorer v) (new_view v)
  splits id v enough s kept e =
      let t = at_view s.views id v e in
      let some_stake : 0 < v.stake = omega arith in
      let f : View → ℕ = λ u. u.stake in
      let was : f (get_or s.views id spent_view) ≡ f v = ap f t.1 in
      let first : sum_by f (set s.views id (poorer v)) + f (get_or s.views id spent_view) ≡ sum_by f s.views + (v.stake - 1) = sum_by-set f s.views id (poorer v) spent_view t.0 in
      let second : sum_by f (set s.views id (poorer v) ++ new_view v ∷ []) ≡ sum_by f (set s.views id (poorer v)) + 1 = sum_by_push f (set s.views id (poorer v)) (new_view v) in
      let total : sum_by f s.views ≡ 16 = kept.stakes in
      record {
        core = split_core s id v kept e enough;
        stakes = omega arith;
        tallied = λ j. by_push (λ (u : View). IsTallied m.full u) (set s.views id (poorer v)) (new_view v) spent_view j
            (by_place (λ (u : View). IsTallied m.full u) s.views id j (poorer v) spent_view t.0
            (λ same. same_tally m.full v (poorer v) (tally m s id v kept e) some_stake (omega arith) refl refl refl)
            (λ differs. kept.tallied j))
            (new_tally m.full v (seen_long s id v kept e some_stake).0)
            (spent_tallied m.full);
      }

  -- ---- join

  apart : (s : State S View) (id other : ℕ) (v w : View) → KeepsTable m s → get_elem? s.views id ≡ some v → get_elem? s.views other ≡ some w → id ≢ other → 0 < v.stake → 0 < w.stake
      → (k place : ℕ) → place < 64 → bit_at (get_or v.credits k 0) place + bit_at (get_or w.credits k 0) place ≤ 1
  apart s id other v w kept e e' differ v_stake w_stake k place small =
      let f : WorkerState → ℕ = λ x. bit_at (get_or x.credits k 0) place in
      let ws : List WorkerState = map worker_of s.views in
      let none : f spent ≡ 0 = bit_at-zero place in
      let two : f (worker_at (core_of m.full s) id) + f (worker_at (core_of m.full s) other) ≤ sum_by f ws =
      two_of f ws id other spent (live_inside (core_of m.full s) id (live_at s.words s.views id v e v_stake)) (live_inside (core_of m.full s) other (live_at s.words s.views other w e' w_stake)) differ none in
      let a : f (worker_at (core_of m.full s) id) ≡ bit_at (get_or v.credits k 0) place = ap f (worker_is s.words s.views id v e) in
      let b : f (worker_at (core_of m.full s) other) ≡ bit_at (get_or w.credits k 0) place = ap f (worker_is s.words s.views other w e') in
      let once : bit_at (get_or (system_words m.full s.words) k 0) place + sum_by f ws ≡ bit_at (get_or m.full k 0) place = kept.core.once k place small in
      let one = bit_at-lt (get_or m.full k 0) place in
      omega arith

  join_core : (s : State S View) (id other : ℕ) (v w : View) → KeepsTable m s → get_elem? s.views id ≡ some v → get_elem? s.views other ≡ some w → id ≢ other → 0 < v.stake → 0 < w.stake
      → KeepsWords m.full m.rows (core_in m.full s.words (set (set s.views id (both_views v w)) other spent_view))
  join_core s id other v w kept e e' differ v_stake w_stake =
      let is = (at_view s.views id v e).1 in
      let is' = (at_view s.views other w e').1 in
      let P : View → View → Type 0 = λ x y. KeepsWords m.full m.rows (core_in m.full s.words (set (set s.views id (both_views x y)) other spent_view)) in
      let moved = move_keeps (core_of m.full s) _ (join_move m.rows (system_words m.full s.words) s.views id (stake_at s.views id v e v_stake) other differ (stake_at s.views other w e' w_stake)) kept.core in
      subst (λ (y : View). P v y) is' (subst (λ (x : View). P x (get_or s.views other spent_view)) is moved)

  pub joins : (id other : ℕ) (v w : View) → 0 < v.stake → 0 < w.stake → Joins {S = S} (KeepsTable m) id v other w (both_views v w) spent_view
  joins id other v w v_stake w_stake s kept e ne after =
      let differ : id ≢ other = λ p. ne (sym p) in
      let e' : get_elem? s.views other ≡ some w = sym (set_else s.views id other (both_views v w) ne) ∙ after in
      let t = at_view s.views id v e in
      let u = at_view s.views other w e' in
      let f : View → ℕ = λ x. x.stake in
      let long : length (set s.views id (both_views v w)) ≡ length s.views = length-set s.views id (both_views v w) in
      let first : sum_by f (set s.views id (both_views v w)) + f (get_or s.views id spent_view) ≡ sum_by f s.views + (v.stake + w.stake) = sum_by-set f s.views id (both_views v w) spent_view t.0 in
      let second : sum_by f (set (set s.views id (both_views v w)) other spent_view) + f (get_or (set s.views id (both_views v w)) other spent_view) ≡ sum_by f (set s.views id (both_views v w)) + 0 =
      sum_by-set f (set s.views id (both_views v w)) other spent_view spent_view (omega arith) in
      let was : f (get_or s.views id spent_view) ≡ v.stake = ap f t.1 in
      let was' : f (get_or (set s.views id (both_views v w)) other spent_view) ≡ w.stake = ap f (get_or-set_other s.views id other (both_views v w) spent_view ne ∙ u.1) in
      let total : sum_by f s.views ≡ 16 = kept.stakes in
      let lv = seen_long s id v kept e v_stake in
      let lw = seen_long s other w kept e' w_stake in
      record {
        core = join_core s id other v w kept e e' differ v_stake w_stake;
        stakes = omega arith;
        tallied = λ j. by_place (λ (x : View). IsTallied m.full x) (set s.views id (both_views v w)) other j spent_view spent_view (omega arith)
            (λ same. spent_tallied m.full)
            (λ differs. by_place (λ (x : View). IsTallied m.full x) s.views id j (both_views v w) spent_view t.0
            (λ same. both_tally m.full v w (tally m s id v kept e) (tally m s other w kept e') v_stake (lv.1 ∙ sym lw.1) (apart s id other v w kept e e' differ v_stake w_stake))
            (λ other_one. kept.tallied j));
      }
