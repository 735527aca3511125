-- What a step leaves is a state of the program.
use Rattle.std.proofs.Common.{ℕ, ◌≡◌, List, [], ◌∷◌, Option, Some, None, Result, Ok, Err, refl, ap, sym, subst, ◌∙◌}
use Rattle.std.specs.Prelude.{slice_get}
use Rattle.std.specs.declared.alloc.AllocError.{AllocError}
use Rattle.rh_list.specs.Each.{Each}
use Rattle.rh_il.specs.declared.program.Proc.{Proc}
use Rattle.rh_il.specs.declared.program.Stmt.{Stmt}
use Rattle.rh_il.specs.Checks.{IsProgram}
use Rattle.rh_il.specs.Numbers.{HasNumbers}
use Rattle.rh_il_step.specs.declared.frame.Frame.{Frame}
use Rattle.rh_il_step.specs.declared.stepping.Outcome.{Outcome as Told}
use Rattle.rh_il_step.specs.State.{State, IsStateOf, statement_at}
use Rattle.rh_il_step.specs.Step.{Outcome, Went, Returned, Stuck, executed}
use Rattle.rh_il_step.specs.Told.{Does, DoesOrFails, Leaves}
use Rattle.rh_il_step.proofs.Kept.{executed_keeps}

module _ (procs : List Proc) (program : IsProgram procs) (numbers : Each HasNumbers procs) where
  left_keeps : (outcome : Outcome) (old new : State) (told : Told) → IsStateOf procs old → ((next : State) → outcome ≡ Went next → IsStateOf procs next) → Leaves outcome old new told → IsStateOf procs new
  left_keeps (Went next) old new told state keeps leaves = subst (IsStateOf procs) (sym leaves.1) (keeps next refl)
  left_keeps (Returned value) old new told state keeps leaves = subst (IsStateOf procs) (sym leaves.1) state
  left_keeps Stuck old new told state keeps leaves = subst (IsStateOf procs) (sym leaves.1) state

  done_keeps : (top : Frame) (number : ℕ) (stmt : Stmt) (old new : State) (told : Told) → IsStateOf procs old → statement_at procs top ≡ Some (number, stmt)
      → Does top (λ below. executed procs top below old.cells number stmt) old new told
      → (frames : List Frame) → old.frames ≡ frames → slice_get frames 0 ≡ Some top → IsStateOf procs new
  done_keeps top number stmt old new told state at does [] is read = cc
  done_keeps top number stmt old new told state at does (frame ∷ below) is read =
      let same : frame ≡ top = cc in
      let here : old.frames ≡ top ∷ below = is ∙ ap (λ f. f ∷ below) same in
      left_keeps (executed procs top below old.cells number stmt) old new told state
      (executed_keeps procs program numbers top below old.cells number stmt (subst (λ frames. IsStateOf procs (record { frames = frames; cells = old.cells })) here state) at)
      (does below here)

  pub step_keeps : (top : Frame) (number : ℕ) (stmt : Stmt) (old new : State) (result : Result Told AllocError) → IsStateOf procs old → Some top ≡ slice_get old.frames 0 → Some (number, stmt) ≡ statement_at procs top
      → DoesOrFails top (λ below. executed procs top below old.cells number stmt) old new result → IsStateOf procs new
  step_keeps top number stmt old new (Ok told) state read at does = done_keeps top number stmt old new told state (sym at) does old.frames refl (sym read)
  step_keeps top number stmt old new (Err error) state read at same = subst (IsStateOf procs) (sym same) state
