use Rattle.std.proofs.Common.{List, ◌≡◌, ◌∙◌, ap, sym}
use Rattle.std.specs.List.{list_all}
use Rattle.std.proofs.lemmas.List.Folds.{list_all-map}
use Rattle.rh_term.specs.declared.computed.Triple.{Triple}
use Rattle.rh_term.specs.Computed.{clause_with, triples_in}
use Rattle.rh_term.proofs.tests.all_of_operation.Goals as goal

pub returns : goal.returns
returns g c =
    let passes = g.T.ClauseTest.passes c.args.test.now in
    let operation = c.args.operation in
    c.all_triples.ensures
    ∙ ap (λ (triples : List Triple). list_all (λ triple. passes (clause_with operation triple)) triples) c.of.ensures
    ∙ sym (list_all-map passes (clause_with operation) (triples_in c.args.triples.now operation.op))
