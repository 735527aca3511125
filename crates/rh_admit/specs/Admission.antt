-- What is kept of the obligations of a rule.
use Rattle.std.specs.Prelude.{◌≡◌, List, Some, slice_get, take}
use Rattle.std.specs.List.{AllByRecursion, AllZip}
use Rattle.rh_term.specs.declared.clause.Clause.{Clause}
use Rattle.rh_term.specs.declared.term.Term.{Term}
use Rattle.rh_term.specs.Partition.{HasNoOpenPartition, IsOpen}
use Rattle.rh_log.specs.declared.log.Admission.{Admission}
use Rattle.rh_log.specs.declared.log.Admission.TheVariants.{Admitted, Refused}
use Rattle.rh_refuter.specs.declared.search.Verdict.{Verdict}
use Rattle.rh_refuter.specs.declared.search.Verdict.TheVariants.{Closed, Open}
use Rattle.rh_refuter.specs.Choice.{IsFound}

-- an obligation: its terms and its clauses
abbrev pub Part : Type 0
Part = List Term × List Clause

-- the search finds this of an obligation
abbrev pub Finds : Part → Verdict → Type 0
Finds part verdict = IsFound part.0 part.1 verdict

abbrev pub IsShut : Part → Type 0
IsShut part = HasNoOpenPartition part.0 part.1

-- the log that the search finds of each obligation, in order, or the labels that it finds of the one named
abbrev pub IsKept : List Part → Admission → Type 0
IsKept parts (Admitted logs) = AllZip (λ part log. Finds part (Closed log)) parts logs
IsKept parts (Refused obligation classes) = (part : Part) × (slice_get parts obligation ≡ Some part) × Finds part (Open classes)

-- no obligation has an open partition, or the labels are those of one of the obligation named, and none
-- before it has one
abbrev pub IsDecision : List Part → Admission → Type 0
IsDecision parts (Admitted logs) = AllByRecursion IsShut parts
IsDecision parts (Refused obligation classes) =
    (part : Part) × (slice_get parts obligation ≡ Some part) × IsOpen part.0 part.1 classes × AllByRecursion IsShut (take obligation parts)
