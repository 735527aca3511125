use Rattle.std.proofs.lemmas.Result.{err_from_is_err_and}
use Rattle.rh_rule.specs.RuleFiles.{Rules}
use Rattle.rh_top.specs.Counts.{RefusesTerms}
use Rattle.rh_top.specs.Files.{AcceptsRules}
use Rattle.rh_top.specs.Refusals.{at_first}
use Rattle.rh_top.proofs.Refusing.{first_later}
use Rattle.rh_top.proofs.ruled.prove.Goals as goal

pub returns-in_err-file-clause-refused : goal.returns-in_err-file-clause-refused
returns-in_err-file-clause-refused g c =
    let told = err_from_is_err_and c.from_residual.result c.from_residual.ensures.1 in
    rw (told.1, told.2) (at_first c.in_err-file.ensures.refused)

pub returns-clause-refused : goal.returns-clause-refused
returns-clause-refused g c =
    first_later Rules _ (AcceptsRules (g.S.Shelf.holds c.args.shelf.now c.args.rules.now)) RefusesTerms c.in_ok-file.file c.proved.result c.in_ok-file.ensures.read c.proved.ensures.refused
