use Rattle.std.proofs.Common.{sym, ◌∙◌}
use Rattle.rh_classes.proofs.Chaining.{agrees_by_one}
use Rattle.rh_classes.proofs.chains.unless_joined.Goals as goal

pub returns-then-joined-clause-none : goal.returns-then-joined-clause-none
returns-then-joined-clause-none c = agrees_by_one _ _ _ _ c.requires.alike (sym c.joined.ensures ∙ c.if-joined.true) c.requires.agree
