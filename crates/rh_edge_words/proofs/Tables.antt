-- The table as a state of the solver.
use Rattle.std.proofs.Common.{◌≡◌, ℕ, zero, suc, ◌+◌, ◌<◌, ◌≤◌, true, List, [], ◌∷◌, length, get_or, set, sym, ap, subst, arith, ◌∙◌, sum_by, nat_lt}
use mathlib.Core.Option.{some, some-injective, some-ne-none}
use lib.ListN.{get_elem?}
use Rattle.std.proofs.lemmas.Bool.Decides.{nat_tests}
use Rattle.std.proofs.lemmas.List.{get_or-map}
use Rattle.std.proofs.lemmas.List.Sums.{sum_by-set, get_or-le-sum_by}
use Rattle.atomic_table.specs.Table.{State}
use Rattle.rh_system.specs.Rows.{HoldsGreatest}
use Rattle.rh_core.specs.State.{WorkerState, spent, worker_at, IsLive}
use Rattle.rh_core.specs.WordsLaw.{KeepsWords}
use Rattle.rh_core.proofs.Lists.{by_place}
use Rattle.rh_core.proofs.Keeps.{seen_holds}
use Rattle.rh_edge_words.specs.declared.view.View.{View}
use Rattle.rh_edge_words.specs.Meaning.{Meaning}
use Rattle.rh_edge_words.specs.Views.{worker_of, spent_view}
use Rattle.rh_edge_words.specs.Rule.{core_with, core_in, core_of, IsTallied, KeepsTable}

-- a view that the table has stands at its number
pub at_view : (views : List View) (id : ℕ) (v : View) → get_elem? views id ≡ some v → (id < length views) × (get_or views id spent_view ≡ v)
at_view [] id v e = absurd (some-ne-none v (sym e))
at_view (x ∷ xs) zero v e = (omega arith, some-injective x v e)
at_view (x ∷ xs) (suc id) v e = let t = at_view xs id v e in let lt : id < length xs = t.0 in (omega arith, t.1)

pub above_zero : (n : ℕ) → 0 < n → nat_lt 0 n ≡ true
above_zero n h = grind (arith, nat_tests)

pub worker_is : (words : List ℕ) (views : List View) (id : ℕ) (v : View) → get_elem? views id ≡ some v → worker_at (core_with words views) id ≡ worker_of v
worker_is words views id v e = let t = at_view views id v e in get_or-map worker_of views id spent_view spent t.0 ∙ ap worker_of t.1

pub live_at : (words : List ℕ) (views : List View) (id : ℕ) (v : View) → get_elem? views id ≡ some v → 0 < v.stake → IsLive (core_with words views) id
live_at words views id v e some_stake = ap (λ (w : WorkerState). w.live) (worker_is words views id v e) ∙ above_zero v.stake some_stake

-- the stake of the view that the table has at its number
pub stake_at : (views : List View) (id : ℕ) (v : View) → get_elem? views id ≡ some v → 0 < v.stake → 0 < (get_or views id spent_view).stake
stake_at views id v e some_stake = subst (λ (u : View). 0 < u.stake) (sym (at_view views id v e).1) some_stake

module _ {S : Type 0} (m : Meaning) where
  -- what a seat that is not spent knows of the words, between any two steps
  pub knows : (s : State S View) (id : ℕ) (v : View) → KeepsTable m s → get_elem? s.views id ≡ some v → 0 < v.stake → HoldsGreatest m.rows v.seen
  knows s id v kept e some_stake =
      subst (λ (w : WorkerState). HoldsGreatest m.rows w.seen) (worker_is s.words s.views id v e) (seen_holds (core_of m.full s) id kept.core (live_at s.words s.views id v e some_stake))

  pub stake_fits : (s : State S View) (id : ℕ) (v : View) → KeepsTable m s → get_elem? s.views id ≡ some v → v.stake ≤ 16
  stake_fits s id v kept e =
      let t = at_view s.views id v e in
      let le : (get_or s.views id spent_view).stake ≤ sum_by (λ (u : View). u.stake) s.views = get_or-le-sum_by (λ (u : View). u.stake) s.views id spent_view t.0 in
      let is : (get_or s.views id spent_view).stake ≡ v.stake = ap (λ (u : View). u.stake) t.1 in
      let total : sum_by (λ (u : View). u.stake) s.views ≡ 16 = kept.stakes in
      omega arith

  pub tally : (s : State S View) (id : ℕ) (v : View) → KeepsTable m s → get_elem? s.views id ≡ some v → IsTallied m.full v
  tally s id v kept e = subst (λ (u : View). IsTallied m.full u) ((at_view s.views id v e).1) (kept.tallied id)

  -- a step that leaves the seat's stake
  pub step_keeps : (s : State S View) (words : List ℕ) (id : ℕ) (v w : View) → KeepsTable m s → get_elem? s.views id ≡ some v → w.stake ≡ v.stake → IsTallied m.full w
      → KeepsWords m.full m.rows (core_in m.full words (set s.views id w))
      → KeepsTable {S = S} m record { words = words; homes = s.homes; views = set s.views id w }
  step_keeps s words id v w kept e stake tallied core =
      let t = at_view s.views id v e in
      let is : (get_or s.views id spent_view).stake ≡ v.stake = ap (λ (u : View). u.stake) t.1 in
      let totals : sum_by (λ (u : View). u.stake) (set s.views id w) + (get_or s.views id spent_view).stake ≡ sum_by (λ (u : View). u.stake) s.views + w.stake =
      sum_by-set (λ (u : View). u.stake) s.views id w spent_view t.0 in
      let total : sum_by (λ (u : View). u.stake) s.views ≡ 16 = kept.stakes in
      record {
        core = core;
        stakes = omega arith;
        tallied = λ j. by_place (λ (u : View). IsTallied m.full u) s.views id j w spent_view t.0 (λ same. tallied) (λ differs. kept.tallied j);
      }
