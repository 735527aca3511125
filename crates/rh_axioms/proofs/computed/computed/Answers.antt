use Rattle.std.proofs.Common.{◌≡◌, ◌∙◌, ap}
use Rattle.std.specs.List.{flat_map}
use Rattle.rh_term.specs.Computed.{operation_clauses}
use Rattle.rh_axioms.proofs.Computing.{computations_are}
use Rattle.rh_axioms.proofs.computed.computed.Goals as goal

pub returns : goal.returns
returns c =
    let triples = c.in_ok-triples.field-0 in
    ap (flat_map (operation_clauses triples)) c.in_ok-operations.ensures ∙ computations_are c.args.terms.now triples c.in_ok-triples.ensures
