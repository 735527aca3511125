-- What the code tells of a step, and leaves of the state.
use Rattle.std.specs.Prelude.{ℕ, ◌≡◌, List, ◌∷◌, Result, Ok, Err}
use Rattle.std.specs.declared.alloc.AllocError.{AllocError}
use Rattle.rh_il.specs.declared.value.Value.{Value}
use Rattle.rh_il_step.specs.declared.frame.Frame.{Frame}
use Rattle.rh_il_step.specs.declared.stepping.Outcome.{Outcome as Told}
use Rattle.rh_il_step.specs.declared.stepping.Outcome.TheVariants.{Went as TellsNext, Returned as TellsValue, Stuck as TellsStuck}
use Rattle.rh_il_step.specs.State.{State}
use Rattle.rh_il_step.specs.Step.{Outcome, Went, Returned, Stuck}

-- the state becomes the next one, and else stays as it was
abbrev pub Leaves : Outcome → State → State → Told → Type 0
Leaves (Went next) old new told = (told ≡ TellsNext) × (new ≡ next)
Leaves (Returned value) old new told = (told ≡ TellsValue value) × (new ≡ old)
Leaves Stuck old new told = (told ≡ TellsStuck) × (new ≡ old)

-- with this frame on top, and any frames below it
abbrev pub Does : Frame → (List Frame → Outcome) → State → State → Told → Type 0
Does top outcome old new told = (below : List Frame) → old.frames ≡ top ∷ below → Leaves (outcome below) old new told

-- the same, or memory ran out and the state is as it was
abbrev pub DoesOrFails : Frame → (List Frame → Outcome) → State → State → Result Told AllocError → Type 0
DoesOrFails top outcome old new (Ok told) = Does top outcome old new told
DoesOrFails top outcome old new (Err error) = new ≡ old
