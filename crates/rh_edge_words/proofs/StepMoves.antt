-- Each step of a seat is a move of the core.
use Rattle.std.proofs.Common.{◌≡◌, ◌≢◌, ℕ, ◌+◌, ◌-◌, ◌^◌, ◌<◌, ◌≤◌, inl, inr, Bool, List, [], ◌∷◌, ◌++◌, length, get_or, set, map, bit_and, bit_or, min, refl, sym, ap, subst, arith, ◌∙◌, nat_lt}
use Rattle.std.proofs.lemmas.Bool.{cases_lt}
use Rattle.std.proofs.lemmas.List.{get_or_past, get_or-map, get_or-take, length-take, map-append, map-set, set-get_or, take-set-le}
use Rattle.std.proofs.Math.Seq.{take-set-lt}
use Rattle.rh_system.specs.declared.system.Row.{Row}
use Rattle.rh_core.specs.State.{WorkerState, CoreState, newcomer, spent, worker_at, IsLive}
use Rattle.rh_core.specs.Moves.{saw, took, united, richer, MayClear, Move}
use Rattle.rh_core.specs.Moves.{load, and, split, join}
use Rattle.rh_edge_words.specs.declared.view.View.{View}
use Rattle.rh_edge_words.specs.Views.{worker_of, spent_view, after_look, after_load, after_clear, poorer, new_view, both_views}
use Rattle.rh_edge_words.specs.Rule.{core_with, system_words, core_in}
use Rattle.rh_edge_words.specs.Steps.{StepsAreMoves}
use Rattle.rh_edge_words.proofs.Tables.{above_zero}

-- a dirty word is none of the core's
pub same_core : (full words : List ℕ) (views : List View) (word n : ℕ) → length full ≤ word → core_in full (set words word n) views ≡ core_in full words views
same_core full words views word n past = ap (λ (ws : List ℕ). core_with ws views) (take-set-le (length full) words word n past)

-- a worker is live with whatever stake it has
same_worker : (v : View) (stake : ℕ) (credits : List ℕ) → 0 < v.stake → 0 < stake
    → (let w : WorkerState = record { live = nat_lt 0 stake; seen = v.seen; credits = credits } in w) ≡ (let w : WorkerState = record { live = nat_lt 0 v.stake; seen = v.seen; credits = credits } in w)
same_worker v stake credits some_stake still =
    ap (λ (b : Bool). let w : WorkerState = record { live = b; seen = v.seen; credits = credits } in w) (above_zero stake still ∙ sym (above_zero v.stake some_stake))

-- a seat that has a stake is one of the table
pub seat_inside : (views : List View) (id : ℕ) → 0 < (get_or views id spent_view).stake → id < length views
seat_inside views id some_stake =
    elim (cases_lt id (length views)) [
      | inl inside ↦ inside
      | inr past ↦ let none : (get_or views id spent_view).stake ≡ 0 = ap (λ (v : View). v.stake) (get_or_past views id spent_view past) in absurd (omega arith)
    ]

pub worker_here : (words : List ℕ) (views : List View) (id : ℕ) → 0 < (get_or views id spent_view).stake → worker_at (core_with words views) id ≡ worker_of (get_or views id spent_view)
worker_here words views id some_stake = get_or-map worker_of views id spent_view spent (seat_inside views id some_stake)

pub live_here : (words : List ℕ) (views : List View) (id : ℕ) → 0 < (get_or views id spent_view).stake → IsLive (core_with words views) id
live_here words views id some_stake = ap (λ (w : WorkerState). w.live) (worker_here words views id some_stake) ∙ above_zero (get_or views id spent_view).stake some_stake

module _ (rows : List Row) (words : List ℕ) (views : List View) (id : ℕ) (some_stake : 0 < (get_or views id spent_view).stake) where
  -- a word was read, and the seat has the view w of a worker that saw it
  pub read_move : (word : ℕ) (w : View) → worker_of w ≡ saw (worker_of (get_or views id spent_view)) word (get_or words word 0) → word < length words → Move rows (core_with words views) (core_with words (set views id w))
  read_move word w same inside =
      let ws : List WorkerState = map worker_of views in
      let n : ℕ = get_or words word 0 in
      let here : saw (worker_at (core_with words views) id) word n ≡ worker_of w = ap (λ (x : WorkerState). saw x word n) (worker_here words views id some_stake) ∙ sym same in
      let all : set ws id (saw (worker_at (core_with words views) id) word n) ≡ map worker_of (set views id w) = ap (λ (x : WorkerState). set ws id x) here ∙ sym (map-set worker_of views id w) in
      let P : List WorkerState → Type 0 = λ l. Move rows (core_with words views) record { words = words; workers = l } in
      subst P all (load id word (live_here words views id some_stake) inside)

  pub clear_move : (word mask : ℕ) → word < length words → mask < 2 ^ 64 → MayClear rows (get_or views id spent_view).seen word mask
      → Move rows (core_with words views) (core_with (set words word (bit_and (get_or words word 0) mask)) (set views id (after_clear (get_or views id spent_view) word mask (get_or words word 0))))
  clear_move word mask inside fits may =
      let v : View = get_or views id spent_view in
      let ws : List WorkerState = map worker_of views in
      let n : ℕ = get_or words word 0 in
      let is = worker_here words views id some_stake in
      let may' : MayClear rows (worker_at (core_with words views) id).seen word mask = subst (λ (w : WorkerState). MayClear rows w.seen word mask) (sym is) may in
      let all : set ws id (took (worker_at (core_with words views) id) word n mask) ≡ map worker_of (set views id (after_clear v word mask n)) =
      ap (λ (x : WorkerState). set ws id (took x word n mask)) is ∙ sym (map-set worker_of views id (after_clear v word mask n)) in
      let P : List WorkerState → Type 0 = λ l. Move rows (core_with words views) record { words = set words word (bit_and n mask); workers = l } in
      subst P all (and id word mask (live_here words views id some_stake) inside fits may')

  pub split_move : 2 ≤ (get_or views id spent_view).stake
      → Move rows (core_with words views) (core_with words (set views id (poorer (get_or views id spent_view)) ++ new_view (get_or views id spent_view) ∷ []))
  split_move enough =
      let v : View = get_or views id spent_view in
      let is = worker_here words views id some_stake in
      let ws : List WorkerState = map worker_of views in
      let poor : worker_of (poorer v) ≡ worker_of v = same_worker v (v.stake - 1) v.credits some_stake (omega arith) in
      let stays : map worker_of (set views id (poorer v)) ≡ ws =
      map-set worker_of views id (poorer v) ∙ (ap (λ (w : WorkerState). set ws id w) (poor ∙ sym is) ∙ set-get_or ws id spent) in
      let all : map worker_of (set views id (poorer v) ++ new_view v ∷ []) ≡ ws ++ newcomer (worker_at (core_with words views) id).seen ∷ [] =
      map-append worker_of (set views id (poorer v)) (new_view v ∷ [])
      ∙ (ap (λ (l : List WorkerState). l ++ worker_of (new_view v) ∷ []) stays ∙ ap (λ (w : WorkerState). ws ++ newcomer w.seen ∷ []) (sym is)) in
      let P : List WorkerState → Type 0 = λ l. Move rows (core_with words views) record { words = words; workers = l } in
      subst P (sym all) (split id (live_here words views id some_stake))

  pub join_move : (other : ℕ) → id ≢ other → 0 < (get_or views other spent_view).stake
      → Move rows (core_with words views) (core_with words (set (set views id (both_views (get_or views id spent_view) (get_or views other spent_view))) other spent_view))
  join_move other differ other_stake =
      let v : View = get_or views id spent_view in
      let w : View = get_or views other spent_view in
      let ws : List WorkerState = map worker_of views in
      let s : CoreState = core_with words views in
      let is = worker_here words views id some_stake in
      let is' = worker_here words views other other_stake in
      let rich : worker_of (both_views v w) ≡ richer (worker_of v) (worker_of w) = same_worker v (v.stake + w.stake) (united v.credits w.credits) some_stake (omega arith) in
      let as_core : richer (worker_of v) (worker_of w) ≡ richer (worker_at s id) (worker_at s other) =
      ap (λ (x : WorkerState). richer x (worker_of w)) (sym is) ∙ ap (λ (x : WorkerState). richer (worker_at s id) x) (sym is') in
      let first : map worker_of (set views id (both_views v w)) ≡ set ws id (richer (worker_at s id) (worker_at s other)) =
      map-set worker_of views id (both_views v w) ∙ ap (λ (x : WorkerState). set ws id x) (rich ∙ as_core) in
      let all : map worker_of (set (set views id (both_views v w)) other spent_view) ≡ set (set ws id (richer (worker_at s id) (worker_at s other))) other spent =
      map-set worker_of (set views id (both_views v w)) other spent_view ∙ ap (λ (l : List WorkerState). set l other spent) first in
      let P : List WorkerState → Type 0 = λ l. Move rows s record { words = words; workers = l } in
      subst P (sym all) (join id other differ (live_here words views id some_stake) (live_here words views other other_stake))

-- the same moves, on the words of the system in a table
module _ (rows : List Row) (full words : List ℕ) (views : List View) (id : ℕ) (some_stake : 0 < (get_or views id spent_view).stake) where
  -- a word of the system is the one of the table
  word_of_table : (word : ℕ) → word < length (system_words full words) → (word < length full) × (get_or (system_words full words) word 0 ≡ get_or words word 0)
  word_of_table word inside =
      let long : length (system_words full words) ≡ min (length full) (length words) = length-take (length full) words in
      let below : word < length full = omega arith in
      (below, get_or-take (length full) words word 0 below)

  pub read_in_table : (word : ℕ) (w : View) → worker_of w ≡ saw (worker_of (get_or views id spent_view)) word (get_or words word 0) → word < length (system_words full words)
      → Move rows (core_in full words views) (core_in full words (set views id w))
  read_in_table word w same inside =
      let here = (word_of_table word inside).1 in
      read_move rows (system_words full words) views id some_stake word w (same ∙ ap (λ (n : ℕ). saw (worker_of (get_or views id spent_view)) word n) (sym here)) inside

  pub clear_in_table : (word mask : ℕ) → word < length (system_words full words) → mask < 2 ^ 64 → MayClear rows (get_or views id spent_view).seen word mask
      → Move rows (core_in full words views) (core_in full (set words word (bit_and (get_or words word 0) mask)) (set views id (after_clear (get_or views id spent_view) word mask (get_or words word 0))))
  clear_in_table word mask inside fits may =
      let own : List ℕ = system_words full words in
      let t = word_of_table word inside in
      let left : ℕ = bit_and (get_or words word 0) mask in
      let P : ℕ → Type 0 = λ n. Move rows (core_in full words views) (core_with (set own word (bit_and n mask)) (set views id (after_clear (get_or views id spent_view) word mask n))) in
      let Q : List ℕ → Type 0 = λ ws. Move rows (core_in full words views) (core_with ws (set views id (after_clear (get_or views id spent_view) word mask (get_or words word 0)))) in
      subst Q (sym (take-set-lt (length full) words word left t.0)) (subst P t.1 (clear_move rows own views id some_stake word mask inside fits may))

  pub steps_move : StepsAreMoves rows full words views id
  steps_move = record {
    look = λ word inside. read_in_table word (after_look (get_or views id spent_view) word (get_or words word 0)) refl inside;
    load = λ word inside. read_in_table word (after_load (get_or views id spent_view) word (get_or words word 0)) refl inside;
    clear = clear_in_table;
    split = split_move rows (system_words full words) views id some_stake;
    join = join_move rows (system_words full words) views id some_stake;
    mark = λ word mask past. same_core full words views word (bit_or (get_or words word 0) mask) past;
    take = λ word past. same_core full words views word 0 past;
  }
