use Rattle.std.proofs.Common.{sym}
use Rattle.rh_sparse.specs.Candidates.{fact_on, is_bit_of}
use Rattle.rh_sparse.proofs.Marking.{marks_nothing}
use Rattle.rh_sparse.proofs.candidates.ConcludingVisitor.visit.Goals as goal

pub returns-in_default : goal.returns-in_default
returns-in_default c =
    let concluding = c.args.self.now in
    let site = concluding.site in
    marks_nothing (is_bit_of site.schemas.now site.program.now (fact_on site.place site.edge concluding.concluded.now c.args.binding.now)) c.args.masks.now.items (λ bit below. sym (c.in_default.ensures bit))
