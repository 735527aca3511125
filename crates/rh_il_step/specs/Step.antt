-- Steps: what one statement makes of a state.
use Rattle.std.specs.Prelude.{ℕ, ◌+◌, ◌-◌, pos, List, [], ◌∷◌, ◌++◌, Option, Some, None, length, slice_get, slice_set, replicate, if◌then◌else◌}
use Rattle.std.specs.Ordering.{int_eq}
use Rattle.rh_il.specs.declared.program.Base.{Base}
use Rattle.rh_il.specs.declared.program.Base.TheVariants.{Var, Num as Literal}
use Rattle.rh_il.specs.declared.program.Node.TheVariants.{Entry, At}
use Rattle.rh_il.specs.declared.program.Proc.{Proc}
use Rattle.rh_il.specs.declared.program.Slot.{Slot}
use Rattle.rh_il.specs.declared.program.Slot.TheVariants.{Out, Then, Else}
use Rattle.rh_il.specs.declared.program.Stmt.{Stmt}
use Rattle.rh_il.specs.declared.program.Stmt.TheVariants.{Skip, Copy, Address, Load, Compute, Write, New, Call, Goto, If, Return}
use Rattle.rh_il.specs.declared.value.Value.{Value}
use Rattle.rh_il.specs.declared.value.Value.TheVariants.{Num, Ptr}
use Rattle.rh_il.specs.Op.{apply}
use Rattle.rh_il_step.specs.declared.frame.Frame.{Frame}
use Rattle.rh_il_step.specs.State.{State, cell, statement_at}

-- what a step makes of a state: a next state, or a value that main returns, or nothing, which is stuck
pub data Outcome : Type 0 where
  Went : State → Outcome
  Returned : Value → Outcome
  Stuck : Outcome

-- the value of an operand, for the variables at a base
abbrev pub base_value : List Value → ℕ → Base → Value
base_value cells base (Var number) = cell cells (base + number)
base_value cells base (Literal number) = Num number

-- the frame, gone out of the statement by a slot
abbrev pub past : Frame → ℕ → Slot → Frame
past frame number slot = record frame { edge = record { node = At number; slot = slot } }

-- the frame on top has gone out of the statement by a slot
abbrev pub gone : List Frame → ℕ → Slot → List Frame
gone [] number slot = []
gone (top ∷ below) number slot = past top number slot ∷ below

-- a procedure at its entry
abbrev pub entered : ℕ → ℕ → Frame
entered proc base = record { proc = proc; base = base; edge = record { node = Entry; slot = Out } }

-- the cells of a procedure that is called: the argument, and 0 for each local
abbrev pub fresh_cells : List Proc → ℕ → Value → List Value
fresh_cells procs callee arg = elim (slice_get procs callee) as (λ _. List Value) [ None ↦ [] | Some proc ↦ arg ∷ replicate (length proc.vars - 1) (Num (pos 0)) ]

-- the frames go on behind the statement, over these cells
abbrev pub goes_on : Frame → List Frame → ℕ → List Value → Outcome
goes_on top below number cells = Went (record { frames = past top number Out ∷ below; cells = cells })

-- the variable gets the value, and the frames go on behind the statement
abbrev pub sets : Frame → List Frame → ℕ → List Value → ℕ → Value → Outcome
sets top below number cells to value = goes_on top below number (slice_set cells (top.base + to) value)

-- the variable gets what the cell holds to which the value points
abbrev pub loads : Frame → List Frame → ℕ → List Value → ℕ → Value → Outcome
loads top below number cells to (Num address) = Stuck
loads top below number cells to (Ptr location) = sets top below number cells to (cell cells location)

-- the variable gets the value, where there is one
abbrev pub computes : Frame → List Frame → ℕ → List Value → ℕ → Option Value → Outcome
computes top below number cells to None = Stuck
computes top below number cells to (Some value) = sets top below number cells to value

-- the cell gets the value to which the address points
abbrev pub writes : Frame → List Frame → ℕ → List Value → Value → Value → Outcome
writes top below number cells (Num address) value = Stuck
writes top below number cells (Ptr location) value = goes_on top below number (slice_set cells location value)

-- one of two ways, by a number
abbrev pub branches : Frame → List Frame → ℕ → List Value → Value → Outcome
branches top below number cells (Ptr location) = Stuck
branches top below number cells (Num condition) =
    Went (record { frames = past top number (if int_eq condition (pos 0) then Else else Then) ∷ below; cells = cells })

-- a call ends: its variable gets the value that the called procedure returned
abbrev pub ends_call : Frame → List Frame → ℕ → List Value → Value → Stmt → Outcome
ends_call caller below number cells value (Call to callee arg) = sets caller below number cells to value
ends_call caller below number cells value _ = Stuck

-- the frame below the top gets the value into the variable of its call, or main returns it
abbrev pub returns : List Proc → List Frame → List Value → Value → Outcome
returns procs [] cells value = Returned value
returns procs (caller ∷ below) cells value =
    elim (statement_at procs caller) as (λ _. Outcome) [ None ↦ Stuck | Some at ↦ ends_call caller below at.0 cells value at.1 ]

-- the variable gets a pointer to a new cell with 0
abbrev pub renews : Frame → List Frame → ℕ → List Value → ℕ → Outcome
renews top below number cells to = sets top below number (cells ++ Num (pos 0) ∷ []) to (Ptr (length cells))

-- the procedure begins, above the frame that calls it
abbrev pub calls : List Proc → Frame → List Frame → List Value → ℕ → Value → Outcome
calls procs top below cells callee value =
    Went (record { frames = entered callee (length cells) ∷ top ∷ below; cells = cells ++ fresh_cells procs callee value })

-- what the statement makes of a state with this top frame, where it has this number
abbrev pub executed : List Proc → Frame → List Frame → List Value → ℕ → Stmt → Outcome
executed procs top below cells number Skip = goes_on top below number cells
executed procs top below cells number (Goto to) = goes_on top below number cells
executed procs top below cells number (Copy to from) = sets top below number cells to (base_value cells top.base from)
executed procs top below cells number (Address to of) = sets top below number cells to (Ptr (top.base + of))
executed procs top below cells number (Load to from) = loads top below number cells to (cell cells (top.base + from))
executed procs top below cells number (Compute to op left right) =
    computes top below number cells to (apply op (base_value cells top.base left) (base_value cells top.base right))
executed procs top below cells number (Write to from) = writes top below number cells (cell cells (top.base + to)) (base_value cells top.base from)
executed procs top below cells number (New to) = renews top below number cells to
executed procs top below cells number (If cond taken other) = branches top below number cells (base_value cells top.base cond)
executed procs top below cells number (Call to callee arg) = calls procs top below cells callee (base_value cells top.base arg)
executed procs top below cells number (Return value) = returns procs below cells (base_value cells top.base value)

-- the step of a state
abbrev pub step_from : List Proc → List Frame → List Value → Outcome
step_from procs [] cells = Stuck
step_from procs (top ∷ below) cells =
    elim (statement_at procs top) as (λ _. Outcome) [ None ↦ Stuck | Some at ↦ executed procs top below cells at.0 at.1 ]

abbrev pub step : List Proc → State → Outcome
step procs state = step_from procs state.frames state.cells
