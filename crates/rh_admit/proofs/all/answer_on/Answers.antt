use Rattle.std.proofs.Common.{Err, ap, sym, subst}
use Rattle.rh_rule.specs.RuleFiles.{OfRule}
use Rattle.rh_admit.specs.declared.all.AdmitFault.{AdmitFault}
use Rattle.rh_admit.specs.Rules.{IsAnswer}
use Rattle.rh_admit.proofs.Answered.{fault_answers}
use Rattle.rh_admit.proofs.all.answer_on.Goals as goal

pub returns-in-Err : goal.returns-in-Err
returns-in-Err c =
    let file = c.args.file.now in
    let number = c.args.number in
    subst (λ (told : AdmitFault). OfRule file number (λ schemas rule. IsAnswer schemas rule number (Err told))) (sym c.fault_of.ensures)
    (fault_answers file number c.in-Err.fault (λ count is. c.in-Err.ensures.too_many count (ap Err is)))
