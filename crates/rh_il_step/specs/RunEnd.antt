-- How a run of a number of steps ends.
use Rattle.std.specs.Prelude.{ℕ, ◌+◌, ◌<◌, ◌≤◌, ◌≡◌, ℤ, List, ◌∷◌, Some}
use Rattle.rh_il.specs.declared.program.Proc.{Proc}
use Rattle.rh_il.specs.declared.program.Stmt.{Stmt}
use Rattle.rh_il.specs.declared.value.Value.{Value}
use Rattle.rh_il_step.specs.declared.frame.Frame.{Frame}
use Rattle.rh_il_step.specs.declared.runs.RunEnd.{RunEnd}
use Rattle.rh_il_step.specs.declared.runs.RunEnd.TheVariants.{Returned as EndsReturned, Stuck as EndsStuck, Running as EndsRunning}
use Rattle.rh_il_step.specs.Run.{run}
use Rattle.rh_il_step.specs.State.{State, statement_at}
use Rattle.rh_il_step.specs.Step.{Returned, Stuck, step}

-- main returns the value in its last step, of so many
pub record ReturnsAt (procs : List Proc) (arg : ℤ) (most : ℕ) (value : Value) (steps : ℕ) : Type 0 where
  pub before : ℕ
  pub last : steps ≡ before + 1
  pub within : steps ≤ most
  pub state : State
  pub reached : run procs arg before ≡ Some state
  pub returned : step procs state ≡ Returned value

-- the running procedure is the one with this number, at the statement with that number
pub record IsAt (procs : List Proc) (state : State) (proc node : ℕ) : Type 0 where
  pub top : Frame
  pub below : List Frame
  pub frames : state.frames ≡ top ∷ below
  pub proc_is : top.proc ≡ proc
  pub stmt : Stmt
  pub stmt_at : statement_at procs top ≡ Some (node, stmt)

-- the state after so many steps cannot step
pub record IsStuckAfter (procs : List Proc) (arg : ℤ) (most proc node steps : ℕ) : Type 0 where
  pub within : steps < most
  pub state : State
  pub reached : run procs arg steps ≡ Some state
  pub stuck : step procs state ≡ Stuck
  pub place : IsAt procs state proc node

abbrev pub IsRunEnd : List Proc → ℤ → ℕ → RunEnd → Type 0
IsRunEnd procs arg most (EndsReturned value steps) = ReturnsAt procs arg most value steps
IsRunEnd procs arg most (EndsStuck proc node steps) = IsStuckAfter procs arg most proc node steps
IsRunEnd procs arg most EndsRunning = (state : State) × (run procs arg most ≡ Some state)

-- the state cannot step, and the end says where
abbrev pub TellsStuck : List Proc → State → ℕ → RunEnd → Type 0
TellsStuck procs state steps (EndsReturned value count) = ⊥
TellsStuck procs state steps (EndsStuck proc node count) = (count ≡ steps) × IsAt procs state proc node
TellsStuck procs state steps EndsRunning = ⊥
