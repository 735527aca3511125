-- Each step of a seat keeps the rule.
use Rattle.std.proofs.Common.{◌≡◌, ℕ, ◌+◌, ◌^◌, ◌<◌, ◌≤◌, List, length, get_or, set, map, bit_and, refl, sym, ap, subst, arith, ◌∙◌, sum_by, length-set}
use mathlib.Core.Option.{some, none}
use lib.ListN.{get_elem?}
use Rattle.std.specs.Int.{bit_at}
use Rattle.std.proofs.lemmas.List.{get_or-take, set-get_or}
use Rattle.std.proofs.lemmas.List.Sums.{get_or-le-sum_by}
use Rattle.std.proofs.lemmas.Nat.Bits.{bit_at-lt}
use Rattle.atomic_table.specs.Table.{State, Me, step, keeps, Allows}
use Rattle.atomic_table.proofs.Lists.{set_here}
use Rattle.rh_system.specs.Bits.{IsSubword}
use Rattle.rh_core.specs.State.{WorkerState, CoreState, spent, worker_at}
use Rattle.rh_core.specs.Moves.{saw, taken, MayClear}
use Rattle.rh_core.specs.WordsLaw.{KeepsWords}
use Rattle.rh_core.proofs.Lists.{parted, live_inside}
use Rattle.rh_core.proofs.Keeps.{move_keeps}
use Rattle.rh_edge_words.specs.declared.view.View.{View}
use Rattle.rh_edge_words.specs.Meaning.{Meaning}
use Rattle.rh_edge_words.specs.Views.{worker_of, spent_view, after_look, after_load, after_clear}
use Rattle.rh_edge_words.specs.Rule.{system_words, core_in, core_of, IsTallied, KeepsTable}
use Rattle.rh_edge_words.specs.Steps.{Finds, Tells, Looks, Loads, Clears}
use Rattle.rh_edge_words.proofs.Tables.{at_view, stake_at, worker_is, live_at, knows, stake_fits, tally, step_keeps}
use Rattle.rh_edge_words.proofs.StepMoves.{read_in_table, clear_in_table, same_core}
use Rattle.rh_edge_words.proofs.Tallies.{same_tally, clear_tally}

module _ {S : Type 0} (m : Meaning) where
  -- the core after a word was read
  read_core : (s : State S View) (id word : ℕ) (v w : View) → KeepsTable m s → get_elem? s.views id ≡ some v → 0 < v.stake → word < length m.full → worker_of w ≡ saw (worker_of v) word (get_or s.words word 0)
      → KeepsWords m.full m.rows (core_in m.full (set s.words word (get_or s.words word 0)) (set s.views id w))
  read_core s id word v w kept e some_stake inside sees =
      let long : length (system_words m.full s.words) ≡ length m.full = kept.core.as_long in
      let here : worker_of w ≡ saw (worker_of (get_or s.views id spent_view)) word (get_or s.words word 0) =
      sees ∙ ap (λ (u : View). saw (worker_of u) word (get_or s.words word 0)) (sym (at_view s.views id v e).1) in
      let moved = move_keeps (core_of m.full s) _ (read_in_table m.rows m.full s.words s.views id (stake_at s.views id v e some_stake) word w here (omega arith)) kept.core in
      subst (λ (ws : List ℕ). KeepsWords m.full m.rows (core_in m.full ws (set s.views id w))) (sym (set-get_or s.words word 0)) moved

  within_seen : (s : State S View) (id word : ℕ) (v : View) → KeepsTable m s → get_elem? s.views id ≡ some v → 0 < v.stake → word < length m.full → IsSubword (get_or s.words word 0) (get_or v.seen word 0)
  within_seen s id word v kept e some_stake inside =
      subst (λ (n : ℕ). IsSubword n (get_or v.seen word 0)) (get_or-take (length m.full) s.words word 0 inside)
      (subst (λ (w : WorkerState). IsSubword (get_or (system_words m.full s.words) word 0) (get_or w.seen word 0)) (worker_is s.words s.views id v e)
      ((kept.core.seen id (live_at s.words s.views id v e some_stake)).within word))

  -- what the seat finds, from the state after the step
  found : (s : State S View) (words : List ℕ) (id word : ℕ) (v w : View) → KeepsTable m s → get_elem? s.views id ≡ some v → 0 < v.stake → word < length m.full → w.stake ≡ v.stake
      → KeepsTable {S = S} m record { words = words; homes = s.homes; views = set s.views id w } → Finds m word v (get_or s.words word 0) w
  found s words id word v w kept e some_stake inside same after =
      let here : get_elem? (set s.views id w) id ≡ some w = set_here s.views id w ((at_view s.views id v e).0) in
      let tallied : IsTallied m.full w = tally m record { words = words; homes = s.homes; views = set s.views id w } id w after here in
      let fits : w.stake ≤ 16 = stake_fits m record { words = words; homes = s.homes; views = set s.views id w } id w after here in
      record {
        within = within_seen s id word v kept e some_stake inside;
        greatest = knows m record { words = words; homes = s.homes; views = set s.views id w } id w after here (omega arith);
        stake = fits;
        fit = tallied.fit;
        counted = tallied.counted;
      }

  -- a word is read, and the seat counts the read in its way
  allows_read : (slots id word : ℕ) (me : Me S View) (next : ℕ → View) → ((n : ℕ) → worker_of (next n) ≡ saw (worker_of me.0) word n) → ((n : ℕ) → (next n).stake ≡ me.0.stake)
      → ((n : ℕ) → IsTallied m.full me.0 → IsTallied m.full (next n)) → 0 < me.0.stake → word < length m.full → Allows (KeepsTable m) slots id me word (λ n. n) (λ n after. Tells m word me n (next n) after)
  allows_read slots id word me next sees stays tallies some_stake inside s kept homes e small =
      let v = me.0 in
      let n : ℕ = get_or s.words word 0 in
      let w : View = next n in
      let after = step_keeps m s (set s.words word n) id v w kept e (stays n) (tallies n (tally m s id v kept e)) (read_core s id word v w kept e some_stake inside (sees n)) in
      (w, keeps, tt, after, record { view = refl; carried = refl; finds = found s (set s.words word n) id word v w kept e some_stake inside (stays n) after })

  pub allows_look : (slots id word : ℕ) (me : Me S View) → 0 < me.0.stake → word < length m.full
      → Allows (KeepsTable m) slots id me word (λ n. n) (Looks m (step slots word 0 0 none) me)
  allows_look slots id word me some_stake inside =
      allows_read slots id word me (after_look me.0 word) (λ n. refl) (λ n. refl) (λ n t. same_tally m.full me.0 (after_look me.0 word n) t some_stake some_stake refl refl refl) some_stake inside

  pub allows_load : (slots id word : ℕ) (me : Me S View) → 0 < me.0.stake → word < length m.full
      → Allows (KeepsTable m) slots id me word (λ n. n) (Loads m (step slots word 0 0 none) me)
  allows_load slots id word me some_stake inside =
      allows_read slots id word me (after_load me.0 word) (λ n. refl) (λ n. refl)
      (λ n t. same_tally m.full me.0 (after_load me.0 word n) t some_stake some_stake refl refl (length-set me.0.loads word (get_or me.0.loads word 0 + 1))) some_stake inside

  -- ---- clear

  cleared_core : (s : State S View) (id word mask : ℕ) (v : View) → KeepsTable m s → get_elem? s.views id ≡ some v → 0 < v.stake → word < length m.full → mask < 2 ^ 64 → MayClear m.rows v.seen word mask
      → KeepsWords m.full m.rows (core_in m.full (set s.words word (bit_and (get_or s.words word 0) mask)) (set s.views id (after_clear v word mask (get_or s.words word 0))))
  cleared_core s id word mask v kept e some_stake inside fits may =
      let long : length (system_words m.full s.words) ≡ length m.full = kept.core.as_long in
      let is = (at_view s.views id v e).1 in
      let n : ℕ = get_or s.words word 0 in
      let may' : MayClear m.rows (get_or s.views id spent_view).seen word mask = subst (λ (u : View). MayClear m.rows u.seen word mask) (sym is) may in
      let P : View → Type 0 = λ u. KeepsWords m.full m.rows (core_in m.full (set s.words word (bit_and n mask)) (set s.views id (after_clear u word mask n))) in
      subst P is (move_keeps (core_of m.full s) _ (clear_in_table m.rows m.full s.words s.views id (stake_at s.views id v e some_stake) word mask (omega arith) fits may') kept.core)

  -- what is taken is not in the seat's credits yet
  taken_apart : (s : State S View) (id word mask place : ℕ) (v : View) → KeepsTable m s → get_elem? s.views id ≡ some v → 0 < v.stake → word < length m.full → mask < 2 ^ 64 → place < 64
      → bit_at (get_or v.credits word 0) place + bit_at (taken (get_or s.words word 0) mask) place ≤ 1
  taken_apart s id word mask place v kept e some_stake inside fits small =
      let is = worker_is s.words s.views id v e in
      let f : WorkerState → ℕ = λ w. bit_at (get_or w.credits word 0) place in
      let own : f (worker_at (core_of m.full s) id) ≤ sum_by f (map worker_of s.views) =
      get_or-le-sum_by f (map worker_of s.views) id spent (live_inside (core_of m.full s) id (live_at s.words s.views id v e some_stake)) in
      let same : f (worker_at (core_of m.full s) id) ≡ bit_at (get_or v.credits word 0) place = ap f is in
      let once : bit_at (get_or s.words word 0) place + sum_by f (map worker_of s.views) ≡ bit_at (get_or m.full word 0) place =
      subst (λ (n : ℕ). bit_at n place + sum_by f (map worker_of s.views) ≡ bit_at (get_or m.full word 0) place) (get_or-take (length m.full) s.words word 0 inside) (kept.core.once word place small) in
      let one = bit_at-lt (get_or m.full word 0) place in
      let shared : bit_at (bit_and (get_or s.words word 0) mask) place + bit_at (taken (get_or s.words word 0) mask) place ≡ bit_at (get_or s.words word 0) place = parted (get_or s.words word 0) mask place fits small in
      omega arith

  pub allows_clear : (slots id word mask : ℕ) (me : Me S View) → 0 < me.0.stake → word < length m.full → mask < 2 ^ 64 → MayClear m.rows me.0.seen word mask
      → Allows (KeepsTable m) slots id me word (λ n. bit_and n mask) (Clears m (step slots word mask 0 none) me)
  allows_clear slots id word mask me some_stake inside fits may s kept homes e small =
      let v = me.0 in
      let n : ℕ = get_or s.words word 0 in
      let w : View = after_clear v word mask n in
      let long : length v.credits ≡ length (system_words m.full s.words) =
      subst (λ (x : WorkerState). length x.credits ≡ length (system_words m.full s.words)) (worker_is s.words s.views id v e) (kept.core.seen id (live_at s.words s.views id v e some_stake)).credits_as_long in
      let words_long : length (system_words m.full s.words) ≡ length m.full = kept.core.as_long in
      let tallied : IsTallied m.full w = clear_tally m.full v word mask n (tally m s id v kept e) some_stake (omega arith) small (λ place below. taken_apart s id word mask place v kept e some_stake inside fits below) in
      let after = step_keeps m s (set s.words word (bit_and n mask)) id v w kept e refl tallied (cleared_core s id word mask v kept e some_stake inside fits may) in (
        w,
        keeps,
        tt,
        after,
        record {
          view = refl;
          carried = refl;
          finds = found s (set s.words word (bit_and n mask)) id word v w kept e some_stake inside refl after;
        },
      )

  -- ---- dirty words

  -- a dirty word becomes whatever f makes of it
  pub allows_stay : (slots id word : ℕ) (me : Me S View) (f : ℕ → ℕ) → length m.full ≤ word → Allows (KeepsTable m) slots id me word f (λ n after. after ≡ me)
  allows_stay slots id word me f past s kept homes e small =
      let words : List ℕ = set s.words word (f (get_or s.words word 0)) in
      let core : KeepsWords m.full m.rows (core_in m.full words s.views) = subst (λ (c : CoreState). KeepsWords m.full m.rows c) (sym (same_core m.full s.words s.views word (f (get_or s.words word 0)) past)) kept.core in
      let after : KeepsTable {S = S} m record { words = words; homes = s.homes; views = s.views } = record { core = core; stakes = kept.stakes; tallied = kept.tallied } in
      let views : set s.views id me.0 ≡ s.views = ap (λ (u : View). set s.views id u) (sym (at_view s.views id me.0 e).1) ∙ set-get_or s.views id spent_view in
      (me.0, keeps, tt, subst (λ (vs : List View). KeepsTable {S = S} m record { words = words; homes = s.homes; views = vs }) (sym views) after, refl)
