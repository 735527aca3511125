use Rattle.std.proofs.Common.{List, ◌<◌, ◌+◌, ◌^◌, length, sym, subst}
use Rattle.std.specs.List.{flat_map}
use Rattle.rh_term.specs.declared.computed.Operation.{Operation}
use Rattle.rh_term.specs.Computed.{operation_clauses}
use Rattle.rh_refuter.proofs.Adding.{adds_next, has_room}
use Rattle.rh_refuter.proofs.choice.Seen.with_computed.Goals as goal

pub with_operation-seen-requires : goal.with_operation-seen-requires
with_operation-seen-requires c =
    let clauses_of = operation_clauses c.args.computed.now.triples in
    has_room clauses_of c.as_slice-operation-items.result.now c.loop-operation.operation-index _ c.loop-operation-test.true c.args.self.count
    c.loop-operation.seen.count c.loop-operation.invariant.counted
    (subst (λ (operations : List Operation). c.args.self.count + length (flat_map clauses_of operations) < 2 ^ 32) (sym c.as_slice-operation-items.ensures.value) c.requires)

pub loop-operation-preserved : goal.loop-operation-preserved
loop-operation-preserved c =
    adds_next c.args.labels.now (operation_clauses c.args.computed.now.triples) c.as_slice-operation-items.result.now c.loop-operation.operation-index _
    c.loop-operation-test.true c.args.self c.loop-operation.seen c.with_operation-seen.result c.loop-operation.invariant c.with_operation-seen.ensures
