use Rattle.std.proofs.Common.{length, ap, subst, arith, Some, ◌≡◌, List}
use Rattle.std.proofs.lemmas.Option.{slice_get_within}
use Rattle.std.specs.Prelude.{slice_get}
use Rattle.rh_admit.proofs.Small.{few_rules}
use Rattle.rh_rule.specs.declared.rule.Rule.{Rule}
use Rattle.rh_audit.specs.Walk.{BreaksWith, StopsWith}
use Rattle.rh_oblig.specs.Obligation.{obligations_of}
use Rattle.rh_audit.proofs.Proving.{at_rule, passed_on, stops_with}
use Rattle.rh_audit.proofs.section.check_section.Goals as goal

pub overflow_cast-rule : goal.overflow_cast-rule
overflow_cast-rule c =
    let within = slice_get_within c.rules.result.now c.in-Some.rule c.in-Some.ensures.1 c.in-Some.ensures.2 in
    omega (arith, within, few_rules c.args.file.now c.rules.ensures.file, ap length c.rules.ensures.value)

pub check_rule-requires-clause-within : goal.check_rule-requires-clause-within
check_rule-requires-clause-within c =
    let within = slice_get_within c.rules.result.now c.in-Some.rule c.in-Some.ensures.1 c.in-Some.ensures.2 in
    omega (arith, within, ap length c.rules.ensures.value)

pub returns-in_err-check_rule-in-Some-clause-fault : goal.returns-in_err-check_rule-in-Some-clause-fault
returns-in_err-check_rule-in-Some-clause-fault c =
    let file = c.args.file.now in
    let rule = c.in-Some.ensures.1 in
    let stands : slice_get file.rules c.in-Some.rule ≡ Some rule = subst (λ (all : List Rule). slice_get all c.in-Some.rule ≡ Some rule) c.rules.ensures.value c.in-Some.ensures.2 in
    let fault = c.in_err-check_rule-in-Some.field-0.0 in
    passed_on (StopsWith file c.args.next c.args.section.now) c.from_residual.result fault c.from_residual.ensures.1
    (stops_with file c.args.next c.args.section.now c.in-Some.rule rule fault (record { stands = stands; named = c.in-Some.ensures.3 }) c.in-Some.ensures.0
    (at_rule file c.in-Some.rule rule (λ schemas described. BreaksWith (obligations_of schemas described) c.args.section.now fault) stands c.in_err-check_rule-in-Some.ensures.fault))
