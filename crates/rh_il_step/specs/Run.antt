-- Runs of a program, and what it returns.
use Rattle.std.specs.Prelude.{ℕ, zero, suc, ◌<◌, ◌≡◌, ℤ, List, [], ◌∷◌, Option, Some, None, unwrap_or}
use Rattle.std.specs.Option.{option_and_then}
use Rattle.rh_il.specs.declared.program.Proc.{Proc}
use Rattle.rh_il.specs.declared.program.Edge.{Edge}
use Rattle.rh_il.specs.declared.value.Value.{Value}
use Rattle.rh_il.specs.declared.value.Value.TheVariants.{Num}
use Rattle.rh_il.specs.Checks.{main_of}
use Rattle.rh_il.specs.Value.{IsNumber}
use Rattle.rh_il_step.specs.declared.frame.Frame.{Frame}
use Rattle.rh_il_step.specs.State.{State}
use Rattle.rh_il_step.specs.Step.{Outcome, Went, Returned, Stuck, step, entered, fresh_cells}

-- where the run begins
abbrev pub main_number : List Proc → ℕ
main_number procs = unwrap_or (main_of procs) 0

-- main at its entry, with a number as its argument
abbrev pub start : List Proc → ℤ → State
start procs arg = record { frames = entered (main_number procs) 0 ∷ []; cells = fresh_cells procs (main_number procs) (Num arg) }

-- the next state, where the outcome is one
abbrev pub next : Outcome → Option State
next (Went state) = Some state
next (Returned value) = None
next Stuck = None

-- the state after so many steps, where each of them leads to a next state
abbrev pub run : List Proc → ℤ → ℕ → Option State
run procs arg zero = Some (start procs arg)
run procs arg (suc steps) = option_and_then (λ state. next (step procs state)) (run procs arg steps)

-- main returns the value within so many steps, of which the return is the last
pub record Returns (procs : List Proc) (arg : ℤ) (value : Value) (bound : ℕ) : Type 0 where
  pub steps : ℕ
  pub within : steps < bound
  pub state : State
  pub reached : run procs arg steps ≡ Some state
  pub returned : step procs state ≡ Returned value

-- the state is the one after some number of steps, for some number as the argument
pub record IsReached (procs : List Proc) (state : State) : Type 0 where
  pub arg : ℤ
  pub number : IsNumber arg
  pub steps : ℕ
  pub reached : run procs arg steps ≡ Some state

-- the top frame of the state has this procedure, and took this edge last
pub record Reaches (state : State) (proc : ℕ) (edge : Edge) : Type 0 where
  pub top : Frame
  pub below : List Frame
  pub frames : state.frames ≡ top ∷ below
  pub proc_is : top.proc ≡ proc
  pub edge_is : top.edge ≡ edge
