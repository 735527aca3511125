-- How runs go on and end, by what the code tells of each step.
use Rattle.std.proofs.Common.{ℕ, ℤ, suc, ◌≡◌, ◌+◌, ◌<◌, ◌≤◌, List, [], ◌∷◌, Option, Some, None, refl, ap, sym, subst, ◌∙◌}
use Rattle.std.specs.Option.{option_and_then}
use Rattle.std.proofs.Math.Numerals.{suc-eq-add-one}
use Rattle.std.specs.Prelude.{slice_get}
use Rattle.rh_il.specs.declared.program.Proc.{Proc}
use Rattle.rh_il.specs.declared.program.Stmt.{Stmt}
use Rattle.rh_il.specs.declared.value.Value.{Value}
use Rattle.rh_il_step.specs.declared.frame.Frame.{Frame}
use Rattle.rh_il_step.specs.declared.runs.RunEnd.{RunEnd}
use Rattle.rh_il_step.specs.declared.runs.RunEnd.TheVariants.{Returned as EndsReturned, Stuck as EndsStuck, Running as EndsRunning}
use Rattle.rh_il_step.specs.declared.stepping.Outcome.TheVariants.{Went as TellsNext, Returned as TellsValue, Stuck as TellsStuck}
use Rattle.rh_il_step.specs.Run.{next, run}
use Rattle.rh_il_step.specs.RunEnd.{IsAt, IsRunEnd, TellsStuck as Told, ReturnsAt}
use Rattle.rh_il_step.specs.State.{State, statement_at}
use Rattle.rh_il_step.specs.Step.{Outcome, Went, Returned, Stuck, step}
use Rattle.rh_il_step.specs.Told.{Leaves}

went_told : (outcome : Outcome) (old new : State) → Leaves outcome old new TellsNext → outcome ≡ Went new
went_told (Went state) old new told = ap Went (sym told.1)
went_told (Returned value) old new told = let no = told.0 in absurd cc
went_told Stuck old new told = let no = told.0 in absurd cc

returned_told : (outcome : Outcome) (old new : State) (value : Value) → Leaves outcome old new (TellsValue value) → outcome ≡ Returned value
returned_told (Went state) old new value told = let no = told.0 in absurd cc
returned_told (Returned v) old new value told = let same = told.0 in cc
returned_told Stuck old new value told = let no = told.0 in absurd cc

stuck_told : (outcome : Outcome) (old new : State) → Leaves outcome old new TellsStuck → (outcome ≡ Stuck) × (new ≡ old)
stuck_told (Went state) old new told = let no = told.0 in absurd cc
stuck_told (Returned value) old new told = let no = told.0 in absurd cc
stuck_told Stuck old new told = (refl, told.1)

pub is_at : (procs : List Proc) (state : State) (top : Frame) (node : ℕ) (stmt : Stmt) → Some top ≡ slice_get state.frames 0 → Some (node, stmt) ≡ statement_at procs top → IsAt procs state top.proc node
is_at procs state top node stmt read at = by_frames state.frames refl read
  where
    by_frames : (frames : List Frame) → state.frames ≡ frames → Some top ≡ slice_get frames 0 → IsAt procs state top.proc node
    by_frames [] are first = cc
    by_frames (frame ∷ below) are first =
        let same : frame ≡ top = cc in
        record { top = top; below = below; frames = are ∙ ap (λ f. f ∷ below) same; proc_is = refl; stmt = stmt; stmt_at = sym at }

module _ (procs : List Proc) (arg : ℤ) where
  pub run_more : (steps : ℕ) (old new : State) → run procs arg steps ≡ Some old → Leaves (step procs old) old new TellsNext → run procs arg (steps + 1) ≡ Some new
  run_more steps old new reached told =
      ap (run procs arg) (sym (suc-eq-add-one steps)) ∙ ap (option_and_then (λ s. next (step procs s))) reached ∙ ap next (went_told (step procs old) old new told)

  pub run_returns : (steps most : ℕ) (old new : State) (value : Value) → steps + 1 ≤ most → run procs arg steps ≡ Some old → Leaves (step procs old) old new (TellsValue value) → ReturnsAt procs arg most value (steps + 1)
  run_returns steps most old new value within reached told =
      record { before = steps; last = refl; within = within; state = old; reached = reached; returned = returned_told (step procs old) old new value told }

  pub run_stuck : (steps most : ℕ) (old new : State) (end : RunEnd) → steps < most → run procs arg steps ≡ Some old → Leaves (step procs old) old new TellsStuck → Told procs new steps end → IsRunEnd procs arg most end
  run_stuck steps most old new (EndsReturned value count) within reached told is = absurd is
  run_stuck steps most old new (EndsStuck proc node count) within reached told is =
      let parts = stuck_told (step procs old) old new told in
      subst (λ n. IsRunEnd procs arg most (EndsStuck proc node n)) (sym is.0)
      (record { within = within; state = old; reached = reached; stuck = parts.0; place = subst (λ s. IsAt procs s proc node) parts.1 is.1 })
  run_stuck steps most old new EndsRunning within reached told is = absurd is
