-- Which edges enter a statement.
use Rattle.std.specs.Prelude.{ℕ, Bool, false, ◌==◌, List, filter}
use Rattle.std.specs.Option.{option_map_or}
use Rattle.rh_il.specs.declared.program.Stmt.{Stmt}
use Rattle.rh_il.specs.declared.program.Edge.{Edge}
use Rattle.rh_il.specs.Flow.{target_in}

-- the edge enters the statement of this number
abbrev pub enters : List Stmt → ℕ → Edge → Bool
enters body number edge = option_map_or (λ target. target == number) (target_in body edge.node edge.slot) false

-- those of the edges that enter it
abbrev pub entering : List Stmt → ℕ → List Edge → List Edge
entering body number edges = filter (enters body number) edges
