use Rattle.std.proofs.Common.{List, ◌≡◌, ◌∙◌, ap}
use Rattle.rh_term.specs.declared.computed.Operation.{Operation}
use Rattle.std.specs.List.{list_all}
use Rattle.rh_term.specs.Computed.{operation_clauses}
use Rattle.rh_term.proofs.InParts.{all_flat}
use Rattle.rh_term.proofs.tests.all_computed.Goals as goal

pub returns : goal.returns
returns g c =
    let passes = g.T.ClauseTest.passes c.args.test.now in
    let clauses_of = operation_clauses c.args.computed.now.triples in
    c.all_operations.ensures
    ∙ ap (λ (operations : List Operation). list_all (λ operation. list_all passes (clauses_of operation)) operations) c.as_slice.ensures.value
    ∙ all_flat passes clauses_of c.args.computed.now.operations.items
