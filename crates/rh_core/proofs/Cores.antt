-- The states of the pure core, and lists of events.
use Rattle.std.proofs.Common.{◌≡◌, ℕ, ◌+◌, ◌*◌, ◌-◌, ◌^◌, ◌<◌, ◌≤◌, ◌==◌, ◌⊎◌, inl, inr, ◌↔◌, Bool, true, false, IsTrue, List, [], ◌∷◌, length, get_or, set, replicate, bit_and, min, refl, sym, ap, subst, arith, ◌∙◌, length-set, w64}
use Rattle.std.specs.Int.{bit_at, bit_not}
use Rattle.std.proofs.lemmas.Bool.{cases_eq, cases_lt}
use Rattle.std.proofs.lemmas.Bool.Decides.{nat_tests}
use Rattle.std.proofs.lemmas.List.{get_or-replicate, get_or_default, length-replicate}
use Rattle.std.proofs.lemmas.Nat.Bits.{bit_at-lt, bit_at-zero, bit_at_and, bit_at_not, bit_at_above, same_from_bits}
use Rattle.rh_system.specs.declared.system.Row.{Row}
use Rattle.rh_system.specs.Bits.{bits_in}
use Rattle.rh_system.specs.Rows.{supports, IsCovered, IsSupportedPart}
use Rattle.rh_core.specs.declared.event.Event.{Event}
use Rattle.rh_core.specs.declared.event.Event.TheVariants.{Load, And}
use Rattle.rh_core.specs.State.{WorkerState, CoreState, newcomer, spent, opening, worker_at, IsLive}
use Rattle.rh_core.specs.Moves.{saw, took, MayClear, Move}
use Rattle.rh_core.specs.Moves.{load, and}
use Rattle.rh_core.specs.Events.{IsLawful, after, AreLawful, after_all}
use Rattle.rh_core.specs.WordsLaw.{KeepsWords, IsCore}
use Rattle.rh_core.proofs.Lists.{live_inside, by_place}
use Rattle.rh_core.proofs.Keeps.{move_keeps, opening_keeps}

pub opening_core : (full : List ℕ) (rows : List Row) (workers : ℕ) → IsCovered full rows → IsCore full rows (opening full workers)
opening_core full rows workers covered = record {
  keeps = opening_keeps workers covered;
  all_live = λ j within.
      let many : length (replicate workers (newcomer full)) ≡ workers = length-replicate workers (newcomer full) in
      ap (λ (w : WorkerState). w.live) (get_or-replicate workers j (newcomer full) spent (omega arith));
}

pub event_moves : (rows : List Row) (s : CoreState) (event : Event) → IsLawful rows s event → Move rows s (after s event)
event_moves rows s (Load worker word) lawful = load worker word lawful.0 lawful.1
event_moves rows s (And worker word mask) lawful = and worker word mask lawful.0 lawful.1 lawful.2 lawful.3

event_keeps : (full : List ℕ) (rows : List Row) (s : CoreState) (event : Event) → KeepsWords full rows s → IsLawful rows s event → KeepsWords full rows (after s event)
event_keeps full rows s event kept lawful = move_keeps s (after s event) (event_moves rows s event lawful) kept

pub events_keep : (full : List ℕ) (rows : List Row) (s : CoreState) (events : List Event) → KeepsWords full rows s → AreLawful rows s events → KeepsWords full rows (after_all s events)
events_keep full rows s [] kept lawful = kept
events_keep full rows s (event ∷ events) kept lawful = events_keep full rows (after s event) events (event_keeps full rows s event kept lawful.0) lawful.1

-- a worker that moves stays live
still_live : (s : CoreState) (worker : ℕ) (w' : WorkerState) → w'.live ≡ true → worker < length s.workers → ((j : ℕ) → j < length s.workers → IsLive s j)
    → (j : ℕ) → j < length (set s.workers worker w') → (get_or (set s.workers worker w') j spent).live ≡ true
still_live s worker w' on there all j within =
    let long : length (set s.workers worker w') ≡ length s.workers = length-set s.workers worker w' in
    by_place (λ (x : WorkerState). x.live ≡ true) s.workers worker j w' spent there (λ same. on) (λ differs. all j (omega arith))

pub event_core : (full : List ℕ) (rows : List Row) (s : CoreState) (event : Event) → IsCore full rows s → IsLawful rows s event → IsCore full rows (after s event)
event_core full rows s (Load worker word) core lawful = record {
  keeps = event_keeps full rows s (Load worker word) core.keeps lawful;
  all_live = still_live s worker (saw (worker_at s worker) word (get_or s.words word 0)) lawful.0 (live_inside s worker lawful.0) core.all_live;
}
event_core full rows s (And worker word mask) core lawful = record {
  keeps = event_keeps full rows s (And worker word mask) core.keeps lawful;
  all_live = still_live s worker (took (worker_at s worker) word (get_or s.words word 0) mask) lawful.0 (live_inside s worker lawful.0) core.all_live;
}

-- ---- which masks are lawful

both : (a m : ℕ) (place : ℕ) → m < 2 ^ 64 → place < 64 → bit_at a place ≡ 1 → bit_at m place ≡ 0 → bit_at (bit_and a (bit_not w64 m)) place ≡ 1
both a m place fits small set clear =
    let is : bit_at (bit_and a (bit_not w64 m)) place ≡ min (bit_at a place) (bit_at (bit_not w64 m) place) = bit_at_and a (bit_not w64 m) place in
    let turned : bit_at (bit_not w64 m) place ≡ 1 - bit_at m place = bit_at_not w64 m place fits small in
    omega arith

off : (b : Bool) → (b ≡ true → ⊥) → b ≡ false
off true never = absurd (never refl)
off false never = refl

-- where no supported bit of the word is outside the mask, the mask may be used
pub may_clear : (rows : List Row) (seen : List ℕ) (word part mask : ℕ) → IsSupportedPart rows seen word part → mask < 2 ^ 64 → bit_and part (bit_not w64 mask) ≡ 0 → MayClear rows seen word mask
may_clear rows seen word part mask is_part fits none place small set clear =
    off (supports rows (bits_in seen) (64 * word + place))
    (λ on.
    let kept : bit_at part place ≡ 1 = is_part.2 place small set on in
    let left : bit_at (bit_and part (bit_not w64 mask)) place ≡ 1 = both part mask place fits small kept clear in
    let zero : bit_at (bit_and part (bit_not w64 mask)) place ≡ 0 = ap (λ (x : ℕ). bit_at x place) none ∙ bit_at-zero place in
    omega arith)

-- and only there
outside_none : (rows : List Row) (seen : List ℕ) (word part mask : ℕ) → IsSupportedPart rows seen word part → mask < 2 ^ 64 → part < 2 ^ 64 → MayClear rows seen word mask → (place : ℕ) → (place < 64) ⊎ (64 ≤ place)
    → bit_at (bit_and part (bit_not w64 mask)) place ≡ 0
outside_none rows seen word part mask is_part fits part_fits may place (inl small) =
    let is : bit_at (bit_and part (bit_not w64 mask)) place ≡ min (bit_at part place) (bit_at (bit_not w64 mask) place) = bit_at_and part (bit_not w64 mask) place in
    let turned : bit_at (bit_not w64 mask) place ≡ 1 - bit_at mask place = bit_at_not w64 mask place fits small in
    let p = bit_at-lt part place in
    let m = bit_at-lt mask place in
    elim (cases_eq (bit_at part place) 1) [
      | inl kept ↦
          elim (cases_eq (bit_at mask place) 0) [
            | inl clear ↦
                let le : bit_at part place ≤ bit_at (get_or seen word 0) place = is_part.0 place in
                let lt = bit_at-lt (get_or seen word 0) place in
                let in_seen : bit_at (get_or seen word 0) place ≡ 1 = omega arith in
                let out : supports rows (bits_in seen) (64 * word + place) ≡ false = may place small in_seen clear in
                let inside : supports rows (bits_in seen) (64 * word + place) ≡ true = is_part.1 place small kept in
                let clash : true ≡ false = sym inside ∙ out in
                absurd (cc)
            | inr stays ↦ omega arith
          ]
      | inr gone ↦ omega arith
    ]
outside_none rows seen word part mask is_part fits part_fits may place (inr high) =
    let is : bit_at (bit_and part (bit_not w64 mask)) place ≡ min (bit_at part place) (bit_at (bit_not w64 mask) place) = bit_at_and part (bit_not w64 mask) place in
    let none : bit_at part place ≡ 0 = bit_at_above part 64 place part_fits high in
    omega arith

pub none_outside : (rows : List Row) (seen : List ℕ) (word part mask : ℕ) → IsSupportedPart rows seen word part → mask < 2 ^ 64 → part < 2 ^ 64 → MayClear rows seen word mask → bit_and part (bit_not w64 mask) ≡ 0
none_outside rows seen word part mask is_part fits part_fits may =
    same_from_bits (bit_and part (bit_not w64 mask)) 0
    (λ place. outside_none rows seen word part mask is_part fits part_fits may place (cases_lt place 64) ∙ sym (bit_at-zero place))

-- the test of a mask that the core makes
pub mask_decides : (rows : List Row) (seen : List ℕ) (word part mask : ℕ) → IsSupportedPart rows seen word part → mask < 2 ^ 64 → part < 2 ^ 64 → IsTrue (bit_and part (bit_not w64 mask) == 0) ↔ MayClear rows seen word mask
mask_decides rows seen word part mask is_part fits part_fits = (
  (λ test. may_clear rows seen word part mask is_part fits (let none : bit_and part (bit_not w64 mask) ≡ 0 = grind (arith, nat_tests) in none)),
  (λ may. let none : bit_and part (bit_not w64 mask) ≡ 0 = none_outside rows seen word part mask is_part fits part_fits may in grind (arith, nat_tests)),
)

-- the core after an and-step, as the code has it: what was read, and the worker as it was changed
pub and_core : (full : List ℕ) (rows : List Row) (words : List ℕ) (workers : List WorkerState) (worker word mask found : ℕ) (w w' : WorkerState)
    → IsCore full rows record { words = words; workers = workers } → IsLawful rows record { words = words; workers = workers } (And worker word mask)
    → found ≡ get_or words word found → w ≡ get_or workers worker w → w' ≡ took w word found mask
    → IsCore full rows record { words = set words word (bit_and found mask); workers = set workers worker w' }
and_core full rows words workers worker word mask found w w' core lawful read is after =
    let s : CoreState = record { words = words; workers = workers } in
    let found_is : get_or words word 0 ≡ found = get_or_default words word 0 found lawful.1 ∙ sym read in
    let worker_is : worker_at s worker ≡ w = get_or_default workers worker spent w (live_inside s worker lawful.0) ∙ sym is in
    let after_is : took (worker_at s worker) word (get_or words word 0) mask ≡ w' =
    ap (λ (n : ℕ). took (worker_at s worker) word n mask) found_is ∙ (ap (λ (v : WorkerState). took v word found mask) worker_is ∙ sym after) in
    let P : ℕ → WorkerState → Type 0 = λ n v. IsCore full rows record { words = set words word (bit_and n mask); workers = set workers worker v } in
    subst (λ (n : ℕ). P n w') found_is (subst (P (get_or words word 0)) after_is (event_core full rows s (And worker word mask) core lawful))
