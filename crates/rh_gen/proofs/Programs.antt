-- Made programs pass every check.
use Rattle.std.proofs.Common.{◌≡◌, ℕ, zero, suc, ◌+◌, ◌<◌, ◌≤◌, ◌^◌, true, false, not, List, [], ◌∷◌, ◌++◌, length, take, map, Option, Some, None, refl, ap, sym, ◌∙◌, subst, arith, codes, ⊎_elim}
use Rattle.std.proofs.lemmas.Bool.{and_from, or_from, or_right, cases_lt, le-leb}
use Rattle.std.proofs.lemmas.List.{length-append, take-append-le}
use Rattle.std.proofs.lemmas.List.Folds.{list_all-append, list_any-append}
use Rattle.std.proofs.lemmas.List.FromFn.{length-map-range_with_len}
use Rattle.std.specs.List.{AllByRecursion, list_all, list_any, range_with_len}
use Rattle.std.specs.Option.{option_and_then, option_map_or}
use Rattle.std.specs.Prelude.{nat_le, slice_get}
use Rattle.std.specs.Str.{bytes_eq}
use Rattle.rh_il.specs.Checks.{IsProgram, first_some, has_proper_names, is_called, is_new_proc_at, proc_fault, program_fault, unless}
use Rattle.rh_il.specs.declared.fault.Limited.TheVariants.{Procs}
use Rattle.rh_il.specs.declared.fault.ProgWrong.TheVariants.{DuplicateName, Limit, NoMain}
use Rattle.rh_il.specs.declared.program.Proc.{Proc}
use Rattle.rh_list.proofs.Appended.{joined}
use Rattle.rh_list.proofs.AtPlace.{has_at, read_at}
use Rattle.rh_gen.specs.Generated.{call_of, generated, main_proc, made_proc, numbered, procs_from, returning, state_after, stmts_from}
use Rattle.rh_gen.proofs.Checked.{none_both, none_of, passed_by, proc_passes, seam}
use Rattle.rh_gen.proofs.Fitting.{Fits, body_fits, main_fits, stmts_count}
use Rattle.rh_gen.proofs.Numbered.{is_proper_numbered, other_number, variables_proper}

-- ---- names

proper_from : (procs number count state : ℕ) → number + count < 2 ^ 32 → list_all has_proper_names (procs_from procs number count state) ≡ true
unfolding procs_from
proper_from procs number zero state small = refl
proper_from procs number (suc count) state small =
    and_from (has_proper_names (made_proc procs number state)) _ (and_from _ _ (is_proper_numbered number (omega (arith, small))) variables_proper)
    (proper_from procs (number + 1) count (state_after procs 0 39 state) (omega (arith, small)))

main_proper : (procs : ℕ) → has_proper_names (main_proc procs) ≡ true
main_proper procs = and_from true _ refl variables_proper

pub procs_count : (procs number count state : ℕ) → length (procs_from procs number count state) ≡ count
unfolding procs_from
procs_count procs number zero state = refl
procs_count procs number (suc count) state = ap suc (procs_count procs (number + 1) count (state_after procs 0 39 state))

-- no procedure has a name that those before its number lack
unnamed : (name : List ℕ) (procs number count state i : ℕ) → ((k : ℕ) → number ≤ k → k < number + i → bytes_eq name (numbered 112 k) ≡ false) → list_any (is_called name) (take i (procs_from procs number count state)) ≡ false
unfolding procs_from
unnamed name procs number zero state zero other = refl
unnamed name procs number zero state (suc i) other = refl
unnamed name procs number (suc count) state zero other = refl
unnamed name procs number (suc count) state (suc i) other =
    or_from (bytes_eq name (numbered 112 number)) _ (other number (omega arith) (omega arith))
    (unnamed name procs (number + 1) count (state_after procs 0 39 state) i (λ k low high. other k (omega (arith, low)) (omega (arith, high))))

read_made : (procs number count state i : ℕ) (rest : List Proc) → i < count → (s : ℕ) × (slice_get (procs_from procs number count state ++ rest) i ≡ Some (made_proc procs (number + i) s))
unfolding procs_from
read_made procs number zero state i rest below = absurd (omega (arith, below))
read_made procs number (suc count) state zero rest below = let same : number ≡ number + 0 = omega arith in (state, ap (λ n. Some (made_proc procs n state)) same)
read_made procs number (suc count) state (suc i) rest below =
    let there = read_made procs (number + 1) count (state_after procs 0 39 state) i rest (omega (arith, below)) in
    let same : (number + 1) + i ≡ number + suc i = omega arith in
    (there.0, there.1 ∙ ap (λ n. Some (made_proc procs n there.0)) same)

-- ---- each procedure

abbrev Passes : ℕ → Proc → Type 0
Passes total proc = (number : ℕ) → proc_fault total number proc ≡ None

made_passes : (procs number state : ℕ) → 0 < procs → Passes (procs + 1) (made_proc procs number state)
made_passes procs number state some = λ place.
    let front = stmts_from procs 0 39 state in
    let count = stmts_count procs 0 39 state in
    let size : 40 ≡ length (front ++ returning ∷ []) = sym (length-append front (returning ∷ []) ∙ ap (λ n. n + 1) count) in
    proc_passes (procs + 1) place (numbered 112 number) front (omega (arith, count))
    (subst (λ n. AllByRecursion (Fits (procs + 1) n) (front ++ returning ∷ [])) size (body_fits procs some state))

all_pass : (procs number count state : ℕ) → 0 < procs → AllByRecursion (Passes (procs + 1)) (procs_from procs number count state)
unfolding procs_from
all_pass procs number zero state some = tt
all_pass procs number (suc count) state some = (made_passes procs number state some, all_pass procs (number + 1) count (state_after procs 0 39 state) some)

no_procs : (total procs state : ℕ) → AllByRecursion (Passes total) (procs_from procs 1 0 state)
unfolding procs_from
no_procs total procs state = tt

main_passes : (procs : ℕ) → procs ≤ 255 → Passes (procs + 1) (main_proc procs)
main_passes procs few = λ place.
    let front = map call_of (range_with_len 0 procs) in
    let count = length-map-range_with_len call_of 0 procs in
    proc_passes (procs + 1) place (codes "main") front (omega (arith, count, few)) (main_fits procs (length (front ++ returning ∷ [])))

-- ---- the program

module _ (procs : ℕ) (few : procs ≤ 255) where
  abbrev front : List Proc
  front = procs_from procs 1 procs procs

  abbrev whole : List Proc
  whole = front ++ main_proc procs ∷ []

  size : length whole ≡ procs + 1
  size = length-append front (main_proc procs ∷ []) ∙ ap (λ n. n + 1) (procs_count procs 1 procs procs)

  names : list_all has_proper_names whole ≡ true
  names =
      list_all-append has_proper_names front (main_proc procs ∷ [])
      ∙ and_from _ _ (proper_from procs 1 procs procs (omega (arith, few))) (and_from _ true (main_proper procs) refl)

  front_taken : (i : ℕ) → i ≤ procs → take i whole ≡ take i front
  front_taken i inside = let count = procs_count procs 1 procs procs in take-append-le i front (main_proc procs ∷ []) (omega (arith, count, inside))

  new_by : (i : ℕ) (proc : Proc) → i ≤ procs → slice_get whole i ≡ Some proc → ((k : ℕ) → 1 ≤ k → k < 1 + i → bytes_eq proc.name (numbered 112 k) ≡ false) → is_new_proc_at whole i ≡ true
  new_by i proc inside read other =
      ap (λ (o : Option Proc). option_map_or (λ p. not (list_any (is_called p.name) (take i whole))) o true) read
      ∙ ap (λ ps. not (list_any (is_called proc.name) ps)) (front_taken i inside)
      ∙ ap not (unnamed proc.name procs 1 procs procs i other)

  new_at : (i : ℕ) → i < length whole → is_new_proc_at whole i ≡ true
  new_at i below =
      ⊎_elim
      (λ inside.
      let there = read_made procs 1 procs procs i (main_proc procs ∷ []) inside in
      new_by i (made_proc procs (1 + i) there.0) (omega (arith, inside)) there.1
      (λ k low high. other_number 112 (1 + i) k (omega (arith, inside, few)) (omega (arith, inside, few, high)) (λ same. absurd (omega (arith, high, same)))))
      (λ past.
      let count = procs_count procs 1 procs procs in
      let last : length front ≡ i = omega (arith, count, past, below, size) in
      new_by i (main_proc procs) (omega (arith, below, size)) (ap (slice_get whole) (sym last) ∙ seam front (main_proc procs)) (λ k low high. refl))
      (cases_lt i procs)

  each : AllByRecursion (Passes (procs + 1)) whole
  each =
      joined (Passes (procs + 1)) front (main_proc procs ∷ [])
      (⊎_elim (λ none. let is : procs ≡ 0 = omega (arith, none) in subst (λ n. AllByRecursion (Passes (procs + 1)) (procs_from procs 1 n procs)) (sym is) (no_procs (procs + 1) procs procs))
      (λ some. all_pass procs 1 procs procs some) (cases_lt procs 1))
      (main_passes procs few, tt)

  faultless : program_fault whole ≡ None
  unfolding program_fault
  faultless =
      none_both (unless (nat_le (length whole) 256) (Limit Procs) 0 0) _ (passed_by _ (Limit Procs) 0 0 (le-leb (length whole) 256 (omega (arith, size, few))))
      (none_both (first_some (length whole) (λ k. unless (is_new_proc_at whole k) DuplicateName k 0)) _
      (none_of (length whole) (λ k. unless (is_new_proc_at whole k) DuplicateName k 0) (λ k below. passed_by _ DuplicateName k 0 (new_at k below)))
      (none_both (first_some (length whole) (λ k. option_and_then (proc_fault (length whole) k) (slice_get whole k))) _
      (none_of (length whole) (λ k. option_and_then (proc_fault (length whole) k) (slice_get whole k))
      (λ k below.
      let there = read_at whole k below in
      ap (option_and_then (proc_fault (length whole) k)) there.1 ∙ ap (λ n. proc_fault n k there.0) size ∙ has_at (Passes (procs + 1)) whole k there.0 each there.1 k))
      (passed_by _ NoMain 0 0 (list_any-append (is_called (codes "main")) front (main_proc procs ∷ []) ∙ or_right _ _ refl))))

  pub generated_is_program : IsProgram (generated procs)
  unfolding generated
  generated_is_program = record { names = names; passes = faultless }
