use Rattle.std.proofs.Common.{take}
use Rattle.std.specs.List.{flat_map}
use Rattle.rh_term.specs.Computed.{operation_clauses}
use Rattle.rh_refuter.specs.Choice.{Adds}
use Rattle.rh_refuter.proofs.choice.Seen.with_computed.Given as goal

abbrev pub invariant-loop-operation : goal.invariant-loop-operation
invariant-loop-operation l = Adds l.labels l.fn.self (flat_map (operation_clauses l.computed.triples) (take l.operation-index l.operation-items)) l.seen
