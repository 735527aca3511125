-- States of a program.
use Rattle.std.specs.Prelude.{ℕ, ◌≡◌, ◌<◌, ◌≤◌, ◌+◌, ◌^◌, List, [], ◌∷◌, Option, Some, None, IsSome, length, slice_get, slice_index_or, pos}
use Rattle.std.specs.List.{All}
use Rattle.std.specs.Option.{option_and_then, option_map, option_map_or}
use Rattle.rh_il.specs.declared.program.Base.{Base}
use Rattle.rh_il.specs.declared.program.Proc.{Proc}
use Rattle.rh_il.specs.declared.program.Stmt.{Stmt}
use Rattle.rh_il.specs.declared.program.Stmt.TheVariants.{Call}
use Rattle.rh_il.specs.declared.value.Value.{Value}
use Rattle.rh_il.specs.declared.value.Value.TheVariants.{Num, Ptr}
use Rattle.rh_il.specs.Value.{IsNumber}
use Rattle.rh_il.specs.Flow.{edge_target}
use Rattle.rh_il_step.specs.declared.frame.Frame.{Frame}

-- the frames, the top one first, and the store, which is a list of cells
pub record State : Type 0 where
  pub frames : List Frame
  pub cells : List Value

-- what the cell at a location holds, and 0 past the store
abbrev pub cell : List Value → ℕ → Value
cell cells location = slice_index_or cells location (Num (pos 0))

-- the location is one of a machine of 64 bits, and this is it
abbrev pub IsPlace : ℕ → Option ℕ → Type 0
IsPlace location None = 2 ^ 64 ≤ location
IsPlace location (Some at) = at ≡ location

-- the statement that the edge of the frame enters, with its number
abbrev pub statement_at : List Proc → Frame → Option (ℕ × Stmt)
statement_at procs frame =
    option_and_then
    (λ proc. option_and_then (λ number. option_map (λ stmt. (number, stmt)) (slice_get proc.body number)) (edge_target proc frame.edge))
    (slice_get procs frame.proc)

-- how many variables the frame has
abbrev pub width_of : List Proc → Frame → ℕ
width_of procs frame = option_map_or (λ proc. length proc.vars) (slice_get procs frame.proc) 0

-- a pointer names one of so many cells, and a number is one of 64 bits
abbrev pub IsHeld : ℕ → Value → Type 0
IsHeld cells (Num number) = IsNumber number
IsHeld cells (Ptr location) = location < cells

-- the cells of the frames lie below a limit, and those of each frame below those of the frame above it
abbrev pub AreStacked : List Proc → List Frame → ℕ → Type 0
AreStacked procs [] limit = Unit {0}
AreStacked procs (frame ∷ frames) limit = (frame.base + width_of procs frame ≤ limit) × AreStacked procs frames frame.base

-- the frame is at a call of that procedure
pub record IsCalling (procs : List Proc) (frame : Frame) (callee : ℕ) : Type 0 where
  pub number : ℕ
  pub to : ℕ
  pub arg : Base
  pub at_call : statement_at procs frame ≡ Some (number, Call to callee arg)

-- each frame below another is at a call of the other's procedure
abbrev pub AreCalled : List Proc → List Frame → Type 0
AreCalled procs [] = Unit {0}
AreCalled procs (frame ∷ []) = Unit {0}
AreCalled procs (frame ∷ caller ∷ frames) = IsCalling procs caller frame.proc × AreCalled procs (caller ∷ frames)

-- a state of the program
pub record IsStateOf (procs : List Proc) (state : State) : Type 0 where
  pub running : 1 ≤ length state.frames
  pub edges : All (λ frame. IsSome (statement_at procs frame)) state.frames
  pub stacked : AreStacked procs state.frames (length state.cells)
  pub called : AreCalled procs state.frames
  pub held : All (IsHeld (length state.cells)) state.cells
