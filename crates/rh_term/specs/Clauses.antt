-- Lists of clauses in parts.
use Rattle.std.specs.Prelude.{◌≡◌, ℕ, ◌+◌, List, ◌++◌, Some, length, slice_get}
use Rattle.std.specs.List.{flat_map}
use Rattle.rh_term.specs.declared.clause.Clause.{Clause}
use Rattle.rh_term.specs.declared.clauses.Part.{Part}
use Rattle.rh_term.specs.declared.numbered.Reached.{Reached}
use Rattle.rh_term.specs.declared.numbered.Reached.TheVariants.{At, Past}
use Rattle.rh_term.specs.Computed.{computed_clauses}

abbrev pub part_clauses : Part → List Clause
part_clauses part = part.made.items ++ computed_clauses part.computed

-- the clauses of the parts, and those after them
abbrev pub all_clauses : List Part → List Clause → List Clause
all_clauses parts last = flat_map part_clauses parts ++ last

-- the clause with this number, or how far the number leads past the last
abbrev pub IsReached : List Clause → ℕ → Reached → Type 0
IsReached clauses number (At clause) = slice_get clauses number ≡ Some clause
IsReached clauses number (Past left) = number ≡ length clauses + left
