use Rattle.std.proofs.Common.{sym, ◌∙◌}
use Rattle.rh_sparse.specs.Candidates.{some_concludes}
use Rattle.rh_sparse.proofs.Marking.{marks_nothing}
use Rattle.rh_sparse.proofs.Outside.{mismatched}
use Rattle.rh_sparse.proofs.candidates.mark_instances.Goals as goal

pub returns-else-may_match : goal.returns-else-may_match
returns-else-may_match c =
    let site = c.args.site.now in
    let rule = c.args.rule.now in
    let concluded = c.args.concluded.now in
    marks_nothing (some_concludes site.schemas.now site.program.now site.place site.proc.now site.edge rule concluded) c.args.masks.now.items
    (λ bit below. mismatched site.schemas.now site.program.now site.place site.proc.now site.edge rule concluded (sym c.may_match.ensures ∙ c.if-may_match.false) bit)
