use Rattle.std.proofs.Common.{sym, ◌∙◌}
use Rattle.std.proofs.lemmas.Bool.{false≢true}
use Rattle.rh_ground.proofs.SameForm.{matched_form}
use Rattle.rh_ground.proofs.fixed.fixed_by_pattern.Goals as goal

-- no binding makes a pattern a statement of another form
pub returns-else-is_form_of : goal.returns-else-is_form_of
returns-else-is_form_of c = λ binding same.
    absurd (false≢true (sym c.if-is_form_of.false ∙ c.is_form_of.ensures ∙ matched_form binding c.args.pattern c.args.stmt same))
