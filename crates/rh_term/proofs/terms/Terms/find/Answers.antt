use Rattle.std.proofs.Common.{sym, ◌∙◌}
use Rattle.rh_term.proofs.Found.{looked_up, not_there}
use Rattle.rh_term.proofs.Placed.{place_stands}
use Rattle.rh_term.proofs.terms.Terms.find.Goals as goal

pub returns-clause-found : goal.returns-clause-found
returns-clause-found c = place_stands c.args.self.now c.args.term _ (sym (looked_up _ _ c.args.term _ c.in_ok-place.ensures.index c.self.view_is))

pub returns-clause-place : goal.returns-clause-place
returns-clause-place c = looked_up _ _ c.args.term _ c.in_ok-place.ensures.index c.self.view_is

pub returns-in_err-place-clause-missing : goal.returns-in_err-place-clause-missing
returns-in_err-place-clause-missing c =
    rw c.from_residual.ensures
    (not_there c.args.self.now c.args.term (sym (looked_up _ _ c.args.term _ c.in_err-place.ensures.index c.self.view_is)))

pub returns-in_err-place-clause-place : goal.returns-in_err-place-clause-place
returns-in_err-place-clause-place c = c.from_residual.ensures ∙ looked_up _ _ c.args.term _ c.in_err-place.ensures.index c.self.view_is
