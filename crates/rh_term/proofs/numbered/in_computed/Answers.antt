use Rattle.std.proofs.Common.{◌≡◌, List, Some, slice_get, subst}
use Rattle.std.specs.List.{flat_map}
use Rattle.rh_term.specs.declared.computed.Operation.{Operation}
use Rattle.rh_term.specs.Computed.{operation_clauses}
use Rattle.rh_term.proofs.InParts.{reached}
use Rattle.rh_term.proofs.numbered.in_computed.Goals as goal

pub returns-in-At : goal.returns-in-At
returns-in-At c =
    let clauses_of = operation_clauses c.args.computed.now.triples in
    let operations = c.as_slice-operation-items.result.now in
    subst (λ (operations : List Operation). slice_get (flat_map clauses_of operations) c.args.number ≡ Some c.in-At.clause) c.as_slice-operation-items.ensures.value
    (reached clauses_of operations c.loop-operation.operation-index _ c.loop-operation-test.true c.args.number c.loop-operation.left c.in-At.clause
    c.loop-operation.invariant c.in-At.ensures)
