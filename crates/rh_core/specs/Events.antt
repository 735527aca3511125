-- The events of the pure core: the moves of a fixed number of workers.
use Rattle.std.specs.Prelude.{◌^◌, ◌<◌, List, [], ◌∷◌, length}
use Rattle.rh_system.specs.declared.system.Row.{Row}
use Rattle.rh_core.specs.declared.event.Event.{Event}
use Rattle.rh_core.specs.declared.event.Event.TheVariants.{Load, And}
use Rattle.rh_core.specs.State.{CoreState, worker_at, IsLive}
use Rattle.rh_core.specs.Moves.{loaded, anded, MayClear}

-- the event is a move that can be made
abbrev pub IsLawful : List Row → CoreState → Event → Type 0
IsLawful rows s (Load worker word) = IsLive s worker × (word < length s.words)
IsLawful rows s (And worker word mask) = IsLive s worker × (word < length s.words) × (mask < 2 ^ 64) × MayClear rows (worker_at s worker).seen word mask

abbrev pub after : CoreState → Event → CoreState
after s (Load worker word) = loaded s worker word
after s (And worker word mask) = anded s worker word mask

-- each event is lawful where it comes
abbrev pub AreLawful : List Row → CoreState → List Event → Type 0
AreLawful rows s [] = Unit {0}
AreLawful rows s (event ∷ events) = IsLawful rows s event × AreLawful rows (after s event) events

abbrev pub after_all : CoreState → List Event → CoreState
after_all s [] = s
after_all s (event ∷ events) = after_all (after s event) events
