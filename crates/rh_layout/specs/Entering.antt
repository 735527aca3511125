-- The edges that enter the statements of a procedure, by number.
use Rattle.std.specs.Prelude.{ℕ, ◌≡◌, ◌+◌, ◌==◌, Bool, false, List, [], ◌∷◌, ◌++◌, Option, Some, None, length, slice_get, slice_index_or, slice_set, if◌then◌else◌}
use Rattle.std.specs.Option.{option_map_or}
use Rattle.rh_il.specs.declared.program.Edge.{Edge}
use Rattle.rh_il.specs.declared.program.Node.{Node}
use Rattle.rh_il.specs.declared.program.Node.TheVariants.{Entry, At}
use Rattle.rh_il.specs.declared.program.Proc.{Proc}
use Rattle.rh_il.specs.Flow.{edge_target, edges_of}

-- the places of the items that pass a test, counted from a number
abbrev pub places_from : {X : Type 0} → (X → Bool) → ℕ → List X → List ℕ
places_from test n [] = []
places_from test n (x ∷ xs) = if test x then n ∷ places_from test (n + 1) xs else places_from test (n + 1) xs

-- whether an edge enters a statement
abbrev pub enters : Proc → ℕ → Edge → Bool
enters proc number edge = option_map_or (λ target. target == number) (edge_target proc edge) false

-- the numbers of the edges that enter a statement, rising
abbrev pub numbers_into : Proc → ℕ → List ℕ
numbers_into proc number = places_from (enters proc number) 0 (edges_of proc)

-- those of the edges that enter a node; none enters the entry
abbrev pub numbers_before : Proc → Node → List ℕ
numbers_before proc Entry = []
numbers_before proc (At number) = numbers_into proc number

-- for each statement of the procedure the numbers of the edges that enter it
pub record AreEntering (proc : Proc) (entering : List (List ℕ)) : Type 0 where
  pub many : length entering ≡ length proc.body
  pub each : (number : ℕ) (places : List ℕ) → slice_get entering number ≡ Some places → places ≡ numbers_into proc number

-- the lists with a number added to the one at the target
abbrev pub with_number : Option ℕ → ℕ → List (List ℕ) → List (List ℕ)
with_number None number entering = entering
with_number (Some target) number entering = slice_set entering target (slice_index_or entering target [] ++ number ∷ [])

-- the list for a node
abbrev pub entering_at : List (List ℕ) → Node → Option (List ℕ)
entering_at entering Entry = Some []
entering_at entering (At number) = slice_get entering number
