use Rattle.std.proofs.Common.{◌≡◌, ◌∙◌, ℕ, List, sym, subst}
use Rattle.std.proofs.lemmas.Result.{MatchResult-weaker}
use Rattle.rh_log_text.specs.declared.logs.RuleLogs.{RuleLogs}
use Rattle.rh_audit.specs.Faults.{IsAtFault}
use Rattle.rh_audit.proofs.whole.audit.Goals as goal

pub returns-in-Ok-clause-accepted : goal.returns-in-Ok-clause-accepted
returns-in-Ok-clause-accepted c =
    MatchResult-weaker c.audit_sections.result c.audit_sections.ensures.spared (λ out t. t)
    (λ fault spared accepted.
    let same : c.as_slice.result.now ≡ accepted.sections = c.as_slice.ensures.value ∙ c.in-Ok.ensures.whole accepted.sections accepted.is_text in
    spared accepted.few (subst (λ (all : List RuleLogs). (line : ℕ) → ¬ (IsAtFault c.args.file.now all line)) (sym same) accepted.faultless))
