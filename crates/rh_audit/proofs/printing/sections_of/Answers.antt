use Rattle.std.proofs.Common.{◌≡◌, ◌∙◌, ◌++◌, [], List, ap, arith}
use Rattle.std.proofs.lemmas.Grind.{common_steps}
use Rattle.std.proofs.lemmas.List.{nil_from_length}
use Rattle.rh_log_text.specs.declared.logs.RuleLogs.{RuleLogs}
use Rattle.rh_audit.specs.Proofs.{sections_of}
use Rattle.rh_audit.proofs.Sections.{all_sections, no_rule_left, one_section_more}
use Rattle.rh_audit.proofs.printing.sections_of.Goals as goal

pub loop-admission-init : goal.loop-admission-init
loop-admission-init c =
    ap (λ (front : List RuleLogs). front ++ sections_of c.args.rules.now c.into_iter-admission-iterator.result.rest.items) c.new-sections.ensures.items
    ∙ ap (sections_of c.args.rules.now) c.into_iter-admission-iterator.ensures.into_iter_gives.0

pub loop-admission-preserved : goal.loop-admission-preserved
loop-admission-preserved c =
    let rest = c.next.new.self.rest.items in
    let others = c.in-Some-split_first.others.now in
    ap (λ (front : List RuleLogs). front ++ sections_of others rest) c.in_ok-push_section.ensures
    ∙ one_section_more (sections_of c.args.rules.now c.args.admissions.items) c.loop-admission.sections.items c.in-Some-split_first.rule.now others c.loop-admission.left.now c.in-Some.admission rest
    c.loop-admission.admission-iterator.rest.items c.in-Some-split_first.ensures.cases.0 c.in-Some.ensures.steps.0 c.loop-admission.invariant

pub returns-in_default : goal.returns-in_default
returns-in_default c =
    no_rule_left (sections_of c.args.rules.now c.args.admissions.items) c.loop-admission.sections.items c.loop-admission.left.now c.loop-admission.admission-iterator.rest.items
    (nil_from_length c.loop-admission.left.now c.in_default.ensures.cases) c.loop-admission.invariant

pub returns : goal.returns
returns c =
    let rest = c.loop-admission.admission-iterator.rest in
    let none : rest.items ≡ [] = nil_from_length rest.items (grind (arith, common_steps, c.in-None.ensures.steps.0, rest.ok)) in
    all_sections (sections_of c.args.rules.now c.args.admissions.items) c.loop-admission.sections.items c.loop-admission.left.now rest.items none c.loop-admission.invariant
