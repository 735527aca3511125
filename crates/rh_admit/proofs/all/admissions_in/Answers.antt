use Rattle.std.proofs.Common.{Some, subst}
use Rattle.std.specs.Vec.Iter.{into_iter_steps}
use Rattle.rh_oblig.proofs.Each.{err_is}
use Rattle.rh_admit.specs.declared.all.AdmitFault.TheVariants.{TooManyTerms}
use Rattle.rh_admit.specs.Rules.{Answer}
use Rattle.rh_admit.proofs.Gathered.{fault_next}
use Rattle.rh_admit.proofs.all.admissions_in.Goals as goal

pub returns-in_err-answer-clause-fault : goal.returns-in_err-answer-clause-fault
returns-in_err-answer-clause-fault c = λ rule count is.
    let next = c.next.new.self in
    let fault = c.in_err-answer.field-0.0 in
    fault_next c.args.answers.items c.loop-answer.yielded c.loop-answer.made.items _ c.loop-answer.answer-iterator next fault (TooManyTerms rule count)
    c.into_iter-answer-iterator.ensures.into_iter_gives.0 c.loop-answer.yielded_by c.loop-answer.invariant
    (subst (λ (answer : Answer). into_iter_steps c.loop-answer.answer-iterator (Some answer) next) c.in_err-answer.was c.in-Some.ensures.steps)
    (err_is c.from_residual-in_err-answer.result fault (TooManyTerms rule count) c.from_residual-in_err-answer.ensures.1 is)
