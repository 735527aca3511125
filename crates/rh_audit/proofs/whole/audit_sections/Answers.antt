use Rattle.std.proofs.Common.{◌≡◌, ◌∙◌, ℕ, List, ap}
use Rattle.rh_rule.specs.declared.rule.Rule.{Rule}
use Rattle.rh_audit.specs.Walk.{marked_lines}
use Rattle.rh_audit.specs.declared.fault.AuditFault.TheVariants.{NoMemory}
use Rattle.rh_audit.specs.Audit.{HaveFewTerms}
use Rattle.rh_audit.specs.Faults.{IsAtFault}
use Rattle.rh_audit.proofs.Proving.{none_exceeds, passed_on}
use Rattle.rh_audit.proofs.LinesOf.{lines_are}
use Rattle.rh_audit.proofs.whole.audit_sections.Goals as goal

pub returns-clause-audited : goal.returns-clause-audited
returns-clause-audited c = λ text is. record {
  sections = c.args.sections.now;
  is_text = is;
  few = c.in_ok-check_terms.ensures.few;
  faultless = c.in_ok-marks.ensures.faultless;
  admitted = c.in_ok-marks.ensures.admitted;
  lines = c.in_ok-marked_lines.ensures
      ∙ ap (λ (rules : List Rule). marked_lines rules c.as_slice.result.now) c.rules.ensures.value
      ∙ ap (marked_lines c.args.file.now.rules) (c.as_slice.ensures.value ∙ c.in_ok-marks.ensures.marks)
      ∙ lines_are c.args.file.now.rules c.args.sections.now;
}

pub returns-in_err-check_terms-clause-spared : goal.returns-in_err-check_terms-clause-spared
returns-in_err-check_terms-clause-spared c =
    passed_on (λ fault. HaveFewTerms c.args.file.now → ((line : ℕ) → ¬ (IsAtFault c.args.file.now c.args.sections.now line)) → fault ≡ NoMemory) c.from_residual.result c.in_err-check_terms.field-0.0
    c.from_residual.ensures.1 (λ few faultless. none_exceeds c.args.file.now c.in_err-check_terms.field-0.0 c.in_err-check_terms.ensures.fault few)

pub returns-in_err-marks-clause-spared : goal.returns-in_err-marks-clause-spared
returns-in_err-marks-clause-spared c =
    passed_on (λ fault. HaveFewTerms c.args.file.now → ((line : ℕ) → ¬ (IsAtFault c.args.file.now c.args.sections.now line)) → fault ≡ NoMemory) c.from_residual-in_err-marks.result c.in_err-marks.field-0.0
    c.from_residual-in_err-marks.ensures.1 (λ few faultless. c.in_err-marks.ensures.spared faultless)
