use Rattle.std.proofs.Common.{arith, ap, sym, subst, Err}
use Rattle.std.proofs.lemmas.Option.{slice_get_within}
use Rattle.rh_audit.specs.Walk.{ExceedsWith}
use Rattle.rh_audit.proofs.Proving.{exceeds}
use Rattle.rh_audit.proofs.few_terms.check_terms.Goals as goal

pub returns-in-Err-clause-fault : goal.returns-in-Err-clause-fault
returns-in-Err-clause-fault c =
    subst (ExceedsWith c.args.file.now) (sym c.of_rule.ensures)
    (exceeds c.args.file.now c.loop-rule.rule c.in-Err.fault (omega (arith, c.loop-rule-test.true, c.rule_count-rule-end.ensures)) c.loop-rule.invariant (λ count e. c.in-Err.ensures.too_many count (ap Err e)))

pub returns-clause-few : goal.returns-clause-few
returns-clause-few c = λ number rule stands.
    let within = slice_get_within c.args.file.now.rules number rule stands in
    c.loop-rule.invariant number rule (omega (arith, within, c.loop-rule-test.false, c.rule_count-rule-end.ensures)) stands
