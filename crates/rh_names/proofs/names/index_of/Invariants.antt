use Rattle.std.proofs.Common.{take}
use Rattle.rh_names.specs.Index.{IsIndex}
use Rattle.rh_names.proofs.names.index_of.Given as goal

abbrev pub invariant-loop-place : goal.invariant-loop-place
invariant-loop-place l = record { index : IsIndex l.places (take l.place l.names) }
