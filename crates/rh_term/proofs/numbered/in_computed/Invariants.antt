use Rattle.std.proofs.Common.{◌≡◌, ◌+◌, length, take}
use Rattle.std.specs.List.{flat_map}
use Rattle.rh_term.specs.Computed.{operation_clauses}
use Rattle.rh_term.proofs.numbered.in_computed.Given as goal

abbrev pub invariant-loop-operation : goal.invariant-loop-operation
invariant-loop-operation l = l.number ≡ length (flat_map (operation_clauses l.computed.triples) (take l.operation-index l.operation-items)) + l.left
