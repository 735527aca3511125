-- A run begins with a state of the program, and goes through such states.
use Rattle.std.proofs.Common.{ℕ, zero, suc, ℤ, pos, ◌≡◌, ◌+◌, ◌-◌, ◌<◌, ◌≤◌, List, [], ◌∷◌, length, codes, Option, Some, None, unwrap_or, refl, ap, sym, ◌∙◌, subst, arith}
use Rattle.std.specs.List.{position, prefix_len}
use Rattle.std.specs.Option.{option_and_then}
use Rattle.std.specs.Prelude.{IsSome, not, replicate, slice_get}
use Rattle.std.proofs.Math.ListN.{length-replicate}
use Rattle.rh_list.specs.Each.{Each}
use Rattle.rh_il.specs.declared.program.Proc.{Proc}
use Rattle.rh_il.specs.declared.value.Value.{Value}
use Rattle.rh_il.specs.declared.value.Value.TheVariants.{Num}
use Rattle.rh_il.specs.Checks.{IsProgram, is_called}
use Rattle.rh_il.specs.Numbers.{HasNumbers}
use Rattle.rh_il.specs.Value.{IsNumber}
use Rattle.rh_il.proofs.Passed.{passed, placed, placed_below}
use Rattle.rh_il_step.specs.declared.frame.Frame.{Frame}
use Rattle.rh_il_step.specs.Run.{main_number, next, run, start}
use Rattle.rh_il_step.specs.State.{State, IsStateOf, statement_at, width_of}
use Rattle.rh_il_step.specs.Step.{Outcome, Went, Returned, Stuck, entered, fresh_cells, step}
use Rattle.rh_il_step.proofs.Held.{AreHeld, all_held, held_first, zeros_held}
use Rattle.rh_il_step.proofs.Kept.{all_with, fresh_are, some_at, some_vars, steps_keep, width_is}
use Rattle.rh_il_step.proofs.Standing.{enters_some, first_statement}

module _ (procs : List Proc) (program : IsProgram procs) where
  -- there is a procedure `main`
  pub main_there : (proc : Proc) × (slice_get procs (main_number procs) ≡ Some proc)
  main_there =
      let called = (passed procs program.passes).main in
      let place : ℕ = prefix_len (λ proc. not (is_called (codes "main") proc)) procs in
      let at : position (is_called (codes "main")) procs ≡ Some place = placed (is_called (codes "main")) procs called in
      let found = some_at procs place (placed_below (is_called (codes "main")) procs place called at) in
      (found.0, ap (slice_get procs) (ap (λ o. unwrap_or o 0) at) ∙ found.1)

  module _ (numbers : Each HasNumbers procs) where
    pub start_is : (arg : ℤ) → IsNumber arg → IsStateOf procs (start procs arg)
    start_is arg fits =
        let main : Proc = main_there.0 in
        let here : Frame = entered (main_number procs) 0 in
        let cells : List Value = fresh_cells procs (main_number procs) (Num arg) in
        let are : cells ≡ Num arg ∷ replicate (length main.vars - 1) (Num (pos 0)) = fresh_are procs program numbers (main_number procs) main (Num arg) main_there.1 in
        let zeros : length (replicate (length main.vars - 1) (Num (pos 0))) ≡ length main.vars - 1 = length-replicate (length main.vars - 1) (Num (pos 0)) in
        let some : 1 ≤ length main.vars = some_vars procs program numbers (main_number procs) main main_there.1 in
        let size : length cells ≡ length main.vars = ap length are ∙ omega (arith, zeros, some) in
        let width : width_of procs here ≡ length main.vars = width_is procs program numbers here main main_there.1 in
        let held : AreHeld (length cells) cells =
        subst (AreHeld (length cells)) (sym are) (held_first (length cells) (Num arg) (replicate (length main.vars - 1) (Num (pos 0))) fits (zeros_held (length cells) (length main.vars - 1))) in
        record {
          running = omega arith;
          edges = all_with (λ frame. IsSome (statement_at procs frame)) here []
              (enters_some procs here main 0 main_there.1 refl (first_statement procs program (main_number procs) main main_there.1))
              (λ k d below. absurd (omega (arith, below)));
          stacked = (omega (arith, size, width), tt);
          called = tt;
          held = all_held (length cells) cells held;
        }

    next_went : (outcome : Outcome) (state : State) → next outcome ≡ Some state → outcome ≡ Went state
    next_went (Went new) state is = cc
    next_went (Returned value) state is = cc
    next_went Stuck state is = cc

    -- each state of a run is a state of the program
    pub run_is : (arg : ℤ) → IsNumber arg → (steps : ℕ) (state : State) → run procs arg steps ≡ Some state → IsStateOf procs state
    run_is arg fits zero state is = let same : start procs arg ≡ state = cc in subst (IsStateOf procs) same (start_is arg fits)
    run_is arg fits (suc steps) state is =
        elim (run procs arg steps) as (λ o. run procs arg steps ≡ o → option_and_then (λ s. next (step procs s)) o ≡ Some state → IsStateOf procs state) [
          | None ↦ λ at told. cc
          | Some before ↦ λ at told. steps_keep procs program numbers before state (run_is arg fits steps before at) (next_went (step procs before) state told)
        ] refl is
