-- Every lawful move keeps the words law.
use Rattle.std.proofs.Common.{◌≡◌, ◌≢◌, ℕ, ◌+◌, ◌*◌, ◌/◌, ◌%◌, ◌^◌, ◌<◌, ◌≤◌, ◌⊎◌, inl, inr, Bool, true, false, IsTrue, List, [], ◌∷◌, ◌++◌, length, get_or, set, replicate, bit_and, bit_or, min, refl, sym, ap, subst, arith, ◌∙◌, sum_by, length-set}
use Rattle.std.specs.Int.{bit_at}
use Rattle.std.proofs.lemmas.Bool.{cases_eq, cases_lt}
use Rattle.std.proofs.lemmas.List.{set_past, get_or-set_same, get_or-set_other, length-replicate}
use Rattle.std.proofs.lemmas.List.Sums.{sum_by-set, sum_by_push, get_or-le-sum_by}
use Rattle.std.proofs.lemmas.Nat.Bits.{bit_at-lt, bit_at-zero, bit_at_and}
use Rattle.rh_system.specs.declared.system.Row.{Row}
use Rattle.rh_system.specs.Bits.{bits_in, IsSubword}
use Rattle.rh_system.specs.Rows.{IsInGreatest, HoldsGreatest, IsCovered}
use Rattle.rh_system.proofs.Supports.{greatest_supported, bits_in_same, bits_in_from}
use Rattle.rh_system.proofs.OneRound.{full_holds}
use Rattle.rh_core.specs.State.{WorkerState, CoreState, newcomer, spent, opening, worker_at, IsLive, holders}
use Rattle.rh_core.specs.Moves.{saw, taken, took, richer, loaded, anded, divided, joined, MayClear, Move}
use Rattle.rh_core.specs.Moves.{load, and, split, join}
use Rattle.rh_core.specs.WordsLaw.{SeesWords, KeepsWords}
use Rattle.rh_core.proofs.Lists.{live_inside, by_place, parted, added, united_length, united_at, by_push, by_copies, none_of_copies, two_of}

-- ---- words within words

-- words that are within others, word by word, hold no bit that these do not
pub wider : (words seen : List ℕ) → ((word : ℕ) → IsSubword (get_or words word 0) (get_or seen word 0)) → (bit : ℕ) → IsTrue (bits_in words bit) → IsTrue (bits_in seen bit)
wider words seen within bit h =
    let here : bit_at (get_or words (bit / 64) 0) (bit % 64) ≡ 1 = bits_in_same words bit h in
    let le : bit_at (get_or words (bit / 64) 0) (bit % 64) ≤ bit_at (get_or seen (bit / 64) 0) (bit % 64) = within (bit / 64) (bit % 64) in
    let lt = bit_at-lt (get_or seen (bit / 64) 0) (bit % 64) in
    bits_in_from seen bit (omega arith)

-- a list of which one word became a part of it
pub word_written : (seen : List ℕ) (word x : ℕ) → IsSubword x (get_or seen word 0) → (k : ℕ) → IsSubword (get_or (set seen word x) k 0) (get_or seen k 0)
word_written seen word x within k place =
    elim (cases_lt word (length seen)) [
      | inl inside ↦ by_place (λ (y : ℕ). bit_at y place ≤ bit_at (get_or seen k 0) place) seen word k x 0 inside
          (λ same. let a : bit_at (get_or seen k 0) place ≡ bit_at (get_or seen word 0) place = ap (λ (i : ℕ). bit_at (get_or seen i 0) place) same in let b = within place in omega arith)
          (λ differs. omega arith)
      | inr past ↦
          let same : bit_at (get_or (set seen word x) k 0) place ≡ bit_at (get_or seen k 0) place = ap (λ (ws : List ℕ). bit_at (get_or ws k 0) place) (set_past seen word x past) in
          omega arith
    ]

both_off : {b : Bool} → b ≡ true → b ≡ false → ⊥
both_off {b} on off = let e : true ≡ false = sym on ∙ off in cc

-- the bits that a worker holds the credit for, at a place
credit : ℕ → ℕ → WorkerState → ℕ
credit word place w = bit_at (get_or w.credits word 0) place

saw_sees : (words : List ℕ) (w : WorkerState) (word : ℕ) → SeesWords words w → word < length words → SeesWords words (saw w word (get_or words word 0))
saw_sees words w word sees inside = record {
  as_long = length-set w.seen word (get_or words word 0) ∙ sees.as_long;
  credits_as_long = sees.credits_as_long;
  within = λ k place.
      let a = sees.as_long in
      by_place (λ (x : ℕ). bit_at (get_or words k 0) place ≤ bit_at x place) w.seen word k (get_or words word 0) 0 (omega arith)
      (λ same. let e : bit_at (get_or words k 0) place ≡ bit_at (get_or words word 0) place = ap (λ (i : ℕ). bit_at (get_or words i 0) place) same in omega arith)
      (λ differs. sees.within k place);
}

less : (found mask place : ℕ) → bit_at (bit_and found mask) place ≤ bit_at found place
less found mask place =
    let is : bit_at (bit_and found mask) place ≡ min (bit_at found place) (bit_at mask place) = bit_at_and found mask place in
    omega arith

-- the worker that cleared
took_sees : (words : List ℕ) (w : WorkerState) (word mask : ℕ) → SeesWords words w → word < length words
    → SeesWords (set words word (bit_and (get_or words word 0) mask)) (took w word (get_or words word 0) mask)
took_sees words w word mask sees inside =
    let found : ℕ = get_or words word 0 in
    let left : ℕ = bit_and found mask in
    let long : length (set words word left) ≡ length words = length-set words word left in
    let a : length w.seen ≡ length words = sees.as_long in
    let b : length w.credits ≡ length words = sees.credits_as_long in
    record {
      as_long = length-set w.seen word left ∙ (a ∙ sym long);
      credits_as_long = length-set w.credits word (bit_or (get_or w.credits word 0) (taken found mask)) ∙ (b ∙ sym long);
      within = λ k place.
          by_place (λ (x : ℕ). bit_at x place ≤ bit_at (get_or (set w.seen word left) k 0) place) words word k left 0 inside
          (λ same.
          let e : get_or (set w.seen word left) k 0 ≡ left = ap (λ (i : ℕ). get_or (set w.seen word left) i 0) same ∙ get_or-set_same w.seen word left 0 (omega arith) in
          let f : bit_at (get_or (set w.seen word left) k 0) place ≡ bit_at left place = ap (λ (x : ℕ). bit_at x place) e in
          omega arith)
          (λ differs.
          let e : bit_at (get_or (set w.seen word left) k 0) place ≡ bit_at (get_or w.seen k 0) place = ap (λ (x : ℕ). bit_at x place) (get_or-set_other w.seen word k left 0 differs) in
          let le : bit_at (get_or words k 0) place ≤ bit_at (get_or w.seen k 0) place = sees.within k place in
          omega arith);
    }

-- the other workers
still_sees : (words : List ℕ) (w : WorkerState) (word mask : ℕ) → SeesWords words w → word < length words → SeesWords (set words word (bit_and (get_or words word 0) mask)) w
still_sees words w word mask sees inside =
    let found : ℕ = get_or words word 0 in
    let left : ℕ = bit_and found mask in
    let long : length (set words word left) ≡ length words = length-set words word left in
    record {
      as_long = sees.as_long ∙ sym long;
      credits_as_long = sees.credits_as_long ∙ sym long;
      within = λ k place.
          by_place (λ (x : ℕ). bit_at x place ≤ bit_at (get_or w.seen k 0) place) words word k left 0 inside
          (λ same.
          let le : bit_at (get_or words k 0) place ≤ bit_at (get_or w.seen k 0) place = sees.within k place in
          let e : bit_at (get_or words k 0) place ≡ bit_at found place = ap (λ (i : ℕ). bit_at (get_or words i 0) place) same in
          let l : bit_at left place ≤ bit_at found place = less found mask place in
          omega arith)
          (λ differs. sees.within k place);
    }

nothing : (n word place : ℕ) → bit_at (get_or (replicate n 0) word 0) place ≡ 0
nothing n word place = by_copies (λ (x : ℕ). bit_at x place ≡ 0) n 0 0 word (bit_at-zero place) (bit_at-zero place)

newcomer_sees : (words : List ℕ) (w : WorkerState) → SeesWords words w → SeesWords words (newcomer w.seen)
newcomer_sees words w sees = record {
  as_long = sees.as_long;
  credits_as_long = length-replicate (length w.seen) 0 ∙ sees.as_long;
  within = sees.within;
}

richer_sees : (words : List ℕ) (w v : WorkerState) → SeesWords words w → SeesWords words (richer w v)
richer_sees words w v sees = record {
  as_long = sees.as_long;
  credits_as_long = united_length w.credits v.credits ∙ sees.credits_as_long;
  within = sees.within;
}

module _ {full : List ℕ} {rows : List Row} where
  pub seen_holds : (s : CoreState) (worker : ℕ) → KeepsWords full rows s → IsLive s worker → HoldsGreatest rows (worker_at s worker).seen
  seen_holds s worker kept live bit greatest = wider s.words (worker_at s worker).seen (kept.seen worker live).within bit (kept.greatest bit greatest)

  -- ---- load

  load_keeps : (s : CoreState) (worker word : ℕ) → KeepsWords full rows s → IsLive s worker → word < length s.words → KeepsWords full rows (loaded s worker word)
  load_keeps s worker word kept live inside =
      let w = worker_at s worker in
      let w' : WorkerState = saw w word (get_or s.words word 0) in
      let there : worker < length s.workers = live_inside s worker live in
      record {
        as_long = kept.as_long;
        greatest = kept.greatest;
        seen = λ j. by_place (λ (x : WorkerState). x.live ≡ true → SeesWords s.words x) s.workers worker j w' spent there
            (λ same on. saw_sees s.words w word (kept.seen worker live) inside)
            (λ differs. kept.seen j);
        spent = λ j. by_place (λ (x : WorkerState). x.live ≡ false → (x.seen ≡ []) × (x.credits ≡ [])) s.workers worker j w' spent there
            (λ same off. absurd (both_off live off))
            (λ differs. kept.spent j);
        once = λ k place small.
            let f : WorkerState → ℕ = λ x. bit_at (get_or x.credits k 0) place in
            let sums : sum_by f (set s.workers worker w') + f w ≡ sum_by f s.workers + f w = sum_by-set f s.workers worker w' spent there in
            let before : bit_at (get_or s.words k 0) place + sum_by f s.workers ≡ bit_at (get_or full k 0) place = kept.once k place small in
            let now : bit_at (get_or s.words k 0) place + sum_by f (set s.workers worker w') ≡ bit_at (get_or full k 0) place = omega arith in
            now;
      }

  -- ---- and

  kept_place : (s : CoreState) (worker word mask place : ℕ) → KeepsWords full rows s → IsLive s worker → MayClear rows (worker_at s worker).seen word mask → place < 64
      → IsInGreatest rows (64 * word + place) → bit_at (get_or s.words word 0) place ≡ 1 → (bit_at mask place ≡ 0) ⊎ (bit_at mask place ≢ 0) → bit_at (bit_and (get_or s.words word 0) mask) place ≡ 1
  kept_place s worker word mask place kept live may small greatest stands (inl out) =
      let seen = (worker_at s worker).seen in
      let le : bit_at (get_or s.words word 0) place ≤ bit_at (get_or seen word 0) place = (kept.seen worker live).within word place in
      let lt = bit_at-lt (get_or seen word 0) place in
      let in_seen : bit_at (get_or seen word 0) place ≡ 1 = omega arith in
      absurd (both_off (greatest_supported rows seen (seen_holds s worker kept live) (64 * word + place) greatest) (may place small in_seen out))
  kept_place s worker word mask place kept live may small greatest stands (inr stays) =
      let lt = bit_at-lt mask place in
      let is : bit_at (bit_and (get_or s.words word 0) mask) place ≡ min (bit_at (get_or s.words word 0) place) (bit_at mask place) = bit_at_and (get_or s.words word 0) mask place in
      omega arith

  and_holds : (s : CoreState) (worker word mask : ℕ) → KeepsWords full rows s → IsLive s worker → word < length s.words → MayClear rows (worker_at s worker).seen word mask
      → HoldsGreatest rows (set s.words word (bit_and (get_or s.words word 0) mask))
  and_holds s worker word mask kept live inside may bit greatest =
      let left : ℕ = bit_and (get_or s.words word 0) mask in
      let stands : bit_at (get_or s.words (bit / 64) 0) (bit % 64) ≡ 1 = bits_in_same s.words bit (kept.greatest bit greatest) in
      bits_in_from (set s.words word left) bit
      (by_place (λ (x : ℕ). bit_at x (bit % 64) ≡ 1) s.words word (bit / 64) left 0 inside
      (λ same.
      let place : 64 * word + bit % 64 ≡ bit = omega arith in
      kept_place s worker word mask (bit % 64) kept live may (omega arith)
      (subst (λ (b : ℕ). IsInGreatest rows b) (sym place) greatest)
      (subst (λ (i : ℕ). bit_at (get_or s.words i 0) (bit % 64) ≡ 1) same stands)
      (cases_eq (bit_at mask (bit % 64)) 0))
      (λ differs. stands))

  -- the bits of one word that and-step and credit share out
  and_once : (s : CoreState) (worker word mask : ℕ) → KeepsWords full rows s → IsLive s worker → word < length s.words → mask < 2 ^ 64 → (k place : ℕ) → place < 64 → (k ≡ word) ⊎ (k ≢ word)
      → holders (anded s worker word mask) k place ≡ bit_at (get_or full k 0) place
  and_once s worker word mask kept live inside fits k place small (inl same) =
      let w = worker_at s worker in
      let found : ℕ = get_or s.words word 0 in
      let w' : WorkerState = took w word found mask in
      let there : worker < length s.workers = live_inside s worker live in
      let f : WorkerState → ℕ = λ x. bit_at (get_or x.credits word 0) place in
      let sums : sum_by f (set s.workers worker w') + f w ≡ sum_by f s.workers + f w' = sum_by-set f s.workers worker w' spent there in
      let before : bit_at found place + sum_by f s.workers ≡ bit_at (get_or full word 0) place = kept.once word place small in
      let shared : bit_at (bit_and found mask) place + bit_at (taken found mask) place ≡ bit_at found place = parted found mask place fits small in
      let own : f w ≤ sum_by f s.workers = get_or-le-sum_by f s.workers worker spent there in
      let one = bit_at-lt (get_or full word 0) place in
      let long : length w.credits ≡ length s.words = (kept.seen worker live).credits_as_long in
      let at_word : get_or w'.credits word 0 ≡ bit_or (get_or w.credits word 0) (taken found mask) =
      get_or-set_same w.credits word (bit_or (get_or w.credits word 0) (taken found mask)) 0 (omega arith) in
      let grown : f w' ≡ f w + bit_at (taken found mask) place =
      ap (λ (x : ℕ). bit_at x place) at_word ∙ added (get_or w.credits word 0) (taken found mask) place (omega arith) in
      let left : bit_at (get_or (set s.words word (bit_and found mask)) word 0) place ≡ bit_at (bit_and found mask) place =
      ap (λ (x : ℕ). bit_at x place) (get_or-set_same s.words word (bit_and found mask) 0 inside) in
      let now : holders (anded s worker word mask) word place ≡ bit_at (get_or full word 0) place = omega arith in
      subst (λ (i : ℕ). holders (anded s worker word mask) i place ≡ bit_at (get_or full i 0) place) (sym same) now
  and_once s worker word mask kept live inside fits k place small (inr differs) =
      let w = worker_at s worker in
      let found : ℕ = get_or s.words word 0 in
      let w' : WorkerState = took w word found mask in
      let there : worker < length s.workers = live_inside s worker live in
      let f : WorkerState → ℕ = λ x. bit_at (get_or x.credits k 0) place in
      let sums : sum_by f (set s.workers worker w') + f w ≡ sum_by f s.workers + f w' = sum_by-set f s.workers worker w' spent there in
      let before : bit_at (get_or s.words k 0) place + sum_by f s.workers ≡ bit_at (get_or full k 0) place = kept.once k place small in
      let same : f w' ≡ f w = ap (λ (x : ℕ). bit_at x place) (get_or-set_other w.credits word k (bit_or (get_or w.credits word 0) (taken found mask)) 0 differs) in
      let left : bit_at (get_or (set s.words word (bit_and found mask)) k 0) place ≡ bit_at (get_or s.words k 0) place =
      ap (λ (x : ℕ). bit_at x place) (get_or-set_other s.words word k (bit_and found mask) 0 differs) in
      let now : holders (anded s worker word mask) k place ≡ bit_at (get_or full k 0) place = omega arith in
      now

  and_keeps : (s : CoreState) (worker word mask : ℕ) → KeepsWords full rows s → IsLive s worker → word < length s.words → mask < 2 ^ 64 → MayClear rows (worker_at s worker).seen word mask
      → KeepsWords full rows (anded s worker word mask)
  and_keeps s worker word mask kept live inside fits may =
      let w = worker_at s worker in
      let found : ℕ = get_or s.words word 0 in
      let w' : WorkerState = took w word found mask in
      let there : worker < length s.workers = live_inside s worker live in
      record {
        as_long = length-set s.words word (bit_and found mask) ∙ kept.as_long;
        greatest = and_holds s worker word mask kept live inside may;
        seen = λ j. by_place (λ (x : WorkerState). x.live ≡ true → SeesWords (set s.words word (bit_and found mask)) x) s.workers worker j w' spent there
            (λ same on. took_sees s.words w word mask (kept.seen worker live) inside)
            (λ differs on. still_sees s.words (worker_at s j) word mask (kept.seen j on) inside);
        spent = λ j. by_place (λ (x : WorkerState). x.live ≡ false → (x.seen ≡ []) × (x.credits ≡ [])) s.workers worker j w' spent there
            (λ same off. absurd (both_off live off))
            (λ differs. kept.spent j);
        once = λ k place small. and_once s worker word mask kept live inside fits k place small (cases_eq k word);
      }

  -- ---- split

  split_keeps : (s : CoreState) (worker : ℕ) → KeepsWords full rows s → IsLive s worker → KeepsWords full rows (divided s worker)
  split_keeps s worker kept live =
      let w = worker_at s worker in
      let child : WorkerState = newcomer w.seen in
      record {
        as_long = kept.as_long;
        greatest = kept.greatest;
        seen = λ j. by_push (λ (x : WorkerState). x.live ≡ true → SeesWords s.words x) s.workers child spent j (kept.seen j)
            (λ on. newcomer_sees s.words w (kept.seen worker live))
            (λ on. absurd (both_off on refl));
        spent = λ j. by_push (λ (x : WorkerState). x.live ≡ false → (x.seen ≡ []) × (x.credits ≡ [])) s.workers child spent j (kept.spent j)
            (λ off. absurd (both_off refl off))
            (λ off. (refl, refl));
        once = λ k place small.
            let f : WorkerState → ℕ = λ x. bit_at (get_or x.credits k 0) place in
            let sums : sum_by f (s.workers ++ child ∷ []) ≡ sum_by f s.workers + f child = sum_by_push f s.workers child in
            let none : f child ≡ 0 = nothing (length w.seen) k place in
            let before : bit_at (get_or s.words k 0) place + sum_by f s.workers ≡ bit_at (get_or full k 0) place = kept.once k place small in
            let now : bit_at (get_or s.words k 0) place + sum_by f (s.workers ++ child ∷ []) ≡ bit_at (get_or full k 0) place = omega arith in
            now;
      }

  -- ---- join

  join_once : (s : CoreState) (worker other : ℕ) → KeepsWords full rows s → worker ≢ other → IsLive s worker → IsLive s other → (k place : ℕ) → place < 64
      → holders (joined s worker other) k place ≡ bit_at (get_or full k 0) place
  join_once s worker other kept differ live other_live k place small =
      let w = worker_at s worker in
      let v = worker_at s other in
      let r : WorkerState = richer w v in
      let there : worker < length s.workers = live_inside s worker live in
      let there' : other < length s.workers = live_inside s other other_live in
      let f : WorkerState → ℕ = λ x. bit_at (get_or x.credits k 0) place in
      let long : length (set s.workers worker r) ≡ length s.workers = length-set s.workers worker r in
      let sums : sum_by f (set s.workers worker r) + f w ≡ sum_by f s.workers + f r = sum_by-set f s.workers worker r spent there in
      let sums' : sum_by f (set (set s.workers worker r) other spent) + f (get_or (set s.workers worker r) other spent) ≡ sum_by f (set s.workers worker r) + f spent =
      sum_by-set f (set s.workers worker r) other spent spent (omega arith) in
      let same : f (get_or (set s.workers worker r) other spent) ≡ f v = ap f (get_or-set_other s.workers worker other r spent (λ e. differ (sym e))) in
      let none : f spent ≡ 0 = bit_at-zero place in
      let before : bit_at (get_or s.words k 0) place + sum_by f s.workers ≡ bit_at (get_or full k 0) place = kept.once k place small in
      let one = bit_at-lt (get_or full k 0) place in
      let two : f w + f v ≤ sum_by f s.workers = two_of f s.workers worker other spent there there' differ none in
      let a : length w.credits ≡ length s.words = (kept.seen worker live).credits_as_long in
      let b : length v.credits ≡ length s.words = (kept.seen other other_live).credits_as_long in
      let both : f r ≡ f w + f v = ap (λ (x : ℕ). bit_at x place) (united_at w.credits v.credits k (a ∙ sym b)) ∙ added (get_or w.credits k 0) (get_or v.credits k 0) place (omega arith) in
      let now : bit_at (get_or s.words k 0) place + sum_by f (set (set s.workers worker r) other spent) ≡ bit_at (get_or full k 0) place = omega arith in
      now

  join_keeps : (s : CoreState) (worker other : ℕ) → KeepsWords full rows s → worker ≢ other → IsLive s worker → IsLive s other → KeepsWords full rows (joined s worker other)
  join_keeps s worker other kept differ live other_live =
      let w = worker_at s worker in
      let v = worker_at s other in
      let r : WorkerState = richer w v in
      let there : worker < length s.workers = live_inside s worker live in
      let there' : other < length s.workers = live_inside s other other_live in
      let long : length (set s.workers worker r) ≡ length s.workers = length-set s.workers worker r in
      record {
        as_long = kept.as_long;
        greatest = kept.greatest;
        seen = λ j. by_place (λ (x : WorkerState). x.live ≡ true → SeesWords s.words x) (set s.workers worker r) other j spent spent (omega arith)
            (λ same on. absurd (both_off on refl))
            (λ differs. by_place (λ (x : WorkerState). x.live ≡ true → SeesWords s.words x) s.workers worker j r spent there
            (λ same on. richer_sees s.words w v (kept.seen worker live))
            (λ other_one. kept.seen j));
        spent = λ j. by_place (λ (x : WorkerState). x.live ≡ false → (x.seen ≡ []) × (x.credits ≡ [])) (set s.workers worker r) other j spent spent (omega arith)
            (λ same off. (refl, refl))
            (λ differs. by_place (λ (x : WorkerState). x.live ≡ false → (x.seen ≡ []) × (x.credits ≡ [])) s.workers worker j r spent there
            (λ same off. absurd (both_off live off))
            (λ other_one. kept.spent j));
        once = join_once s worker other kept differ live other_live;
      }

  pub move_keeps : (s t : CoreState) → Move rows s t → KeepsWords full rows s → KeepsWords full rows t
  move_keeps s t (load worker word live inside) kept = load_keeps s worker word kept live inside
  move_keeps s t (and worker word mask live inside fits may) kept = and_keeps s worker word mask kept live inside fits may
  move_keeps s t (split worker live) kept = split_keeps s worker kept live
  move_keeps s t (join worker other differ live other_live) kept = join_keeps s worker other kept differ live other_live

  -- ---- the start

  pub opening_keeps : (workers : ℕ) → IsCovered full rows → KeepsWords full rows (opening full workers)
  opening_keeps workers covered = record {
    as_long = refl;
    greatest = full_holds full rows covered;
    seen = λ j. by_copies (λ (x : WorkerState). x.live ≡ true → SeesWords full x) workers (newcomer full) spent j
        (λ on. record { as_long = refl; credits_as_long = length-replicate (length full) 0; within = λ k place. omega arith })
        (λ on. absurd (both_off on refl));
    spent = λ j. by_copies (λ (x : WorkerState). x.live ≡ false → (x.seen ≡ []) × (x.credits ≡ [])) workers (newcomer full) spent j
        (λ off. absurd (both_off refl off))
        (λ off. (refl, refl));
    once = λ k place small.
        let none : sum_by (λ (x : WorkerState). bit_at (get_or x.credits k 0) place) (replicate workers (newcomer full)) ≡ 0 =
        none_of_copies (λ (x : WorkerState). bit_at (get_or x.credits k 0) place) workers (newcomer full) (nothing (length full) k place) in
        let now : bit_at (get_or full k 0) place + sum_by (λ (x : WorkerState). bit_at (get_or x.credits k 0) place) (replicate workers (newcomer full)) ≡ bit_at (get_or full k 0) place = omega arith in
        now;
  }
