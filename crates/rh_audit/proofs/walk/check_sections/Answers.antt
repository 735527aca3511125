use Rattle.std.proofs.Common.{◌≡◌, ◌∙◌, Bool, List, ℕ, Some, true, false, length, take, refl, ap, arith}
use Rattle.std.proofs.lemmas.List.{length-map}
use Rattle.std.proofs.lemmas.Option.{slice_get_read, slice_get_within}
use Rattle.std.specs.Prelude.{replicate, slice_get, slice_set}
use Rattle.rh_admit.proofs.Small.{few_rules}
use Rattle.rh_log_text.specs.Text.{IsLogText}
use Rattle.rh_audit.specs.Audit.{RefusesAudit, has_logs}
use Rattle.rh_audit.specs.declared.fault.AuditFault.TheVariants.{NoMemory}
use Rattle.rh_audit.specs.Faults.{IsAtFault}
use Rattle.rh_audit.proofs.Firsts.{refuses, spares}
use Rattle.rh_audit.proofs.Marks.{marked_more, unmarked}
use Rattle.rh_audit.proofs.Passing.{admitted, faultless, none_passed, passed_more}
use Rattle.rh_audit.proofs.Proving.{passed_on}
use Rattle.rh_audit.proofs.walk.check_sections.Goals as goal

pub loop-section-init : goal.loop-section-init
loop-section-init c = (
  none_passed c.args.file.now c.args.sections.now,
  c.in_ok-marks.ensures ∙ ap (λ n. replicate n false) (ap length c.rules.ensures.value) ∙ unmarked c.args.file.now.rules,
)

pub returns-in_err-rule-clause-fault : goal.returns-in_err-rule-clause-fault
returns-in_err-rule-clause-fault c =
    let sections = c.args.sections.now in
    let place = c.loop-section.section-index in
    let stands : slice_get sections place ≡ Some c.section-item.result = slice_get_read sections (length sections) place c.section-item.result refl c.loop-section-test.true c.section-item.is in
    passed_on (λ fault. (text : List ℕ) → IsLogText text sections → RefusesAudit c.args.file.now text fault) c.from_residual-in_err-rule.result c.in_err-rule.field-0.0
    c.from_residual-in_err-rule.ensures.1
    (refuses c.args.file.now sections place c.loop-section.next c.section-item.result c.in_err-rule.field-0.0 c.rules.ensures.file stands c.loop-section.invariant.0 c.requires.few c.in_err-rule.ensures.fault)

pub index_mut-requires : goal.index_mut-requires
index_mut-requires c =
    let passed = c.in_ok-rule.ensures.passed in
    let within = slice_get_within c.args.file.now.rules c.in_ok-rule.rule passed.rule passed.is_of.stands in
    let long = ap length c.loop-section.invariant.1 in
    omega (arith, within, long, length-map c.args.file.now.rules (has_logs (take c.loop-section.section-index c.args.sections.now)), c.loop-section.marks.ok.0)

pub overflow_add-next : goal.overflow_add-next
overflow_add-next c =
    let passed = c.in_ok-rule.ensures.passed in
    let within = slice_get_within c.args.file.now.rules c.in_ok-rule.rule passed.rule passed.is_of.stands in
    omega (arith, within, few_rules c.args.file.now c.rules.ensures.file)

pub loop-section-preserved : goal.loop-section-preserved
loop-section-preserved c =
    let file = c.args.file.now in
    let sections = c.args.sections.now in
    let place = c.loop-section.section-index in
    let section = c.section-item.result in
    let rule = c.in_ok-rule.rule in
    let passed = c.in_ok-rule.ensures.passed in
    let stands : slice_get sections place ≡ Some section = slice_get_read sections (length sections) place section refl c.loop-section-test.true c.section-item.is in (
      passed_more file sections place c.loop-section.next section rule c.rules.ensures.file c.loop-section.invariant.0 stands passed,
      ap (λ (marks : List Bool). slice_set marks rule true) c.loop-section.invariant.1 ∙ marked_more file sections place section rule passed.rule c.rules.ensures.file stands passed.is_of,
    )

pub returns-clause-faultless : goal.returns-clause-faultless
returns-clause-faultless c = faultless c.args.file.now c.args.sections.now c.loop-section.section-index c.loop-section.next c.loop-section.invariant.0 c.rules.ensures.file c.loop-section-test.false

pub returns-clause-admitted : goal.returns-clause-admitted
returns-clause-admitted c = admitted c.args.file.now c.args.sections.now c.loop-section.section-index c.loop-section.next c.loop-section.invariant.0 c.loop-section-test.false

pub returns-in_err-rule-clause-spared : goal.returns-in_err-rule-clause-spared
returns-in_err-rule-clause-spared c =
    let sections = c.args.sections.now in
    let place = c.loop-section.section-index in
    let stands : slice_get sections place ≡ Some c.section-item.result = slice_get_read sections (length sections) place c.section-item.result refl c.loop-section-test.true c.section-item.is in
    passed_on (λ fault. ((line : ℕ) → ¬ (IsAtFault c.args.file.now sections line)) → fault ≡ NoMemory) c.from_residual-in_err-rule.result c.in_err-rule.field-0.0
    c.from_residual-in_err-rule.ensures.1
    (spares c.args.file.now sections place c.loop-section.next c.section-item.result c.in_err-rule.field-0.0 c.rules.ensures.file stands c.loop-section.invariant.0 c.in_err-rule.ensures.fault)
