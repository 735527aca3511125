use Rattle.std.proofs.Common.{List, ℕ, ap, sym, ◌∙◌, subst}
use Rattle.std.specs.Prelude.{slice_get}
use Rattle.rh_rule.specs.RuleFiles.{IsRuleFile}
use Rattle.rh_rule.proofs.Passed.{rule_passed}
use Rattle.rh_layout.proofs.EdgeWords.{words_counted}
use Rattle.rh_sparse.specs.Candidates.{Marks, is_concluded}
use Rattle.rh_sparse.proofs.Concluded.{concluded_has_row, past_full}
use Rattle.rh_sparse.proofs.Marking.{marks_all}
use Rattle.rh_sparse.proofs.candidates.candidates.Goals as goal

pub mark_program-requires-clause-few : goal.mark_program-requires-clause-few
mark_program-requires-clause-few c = λ i rule read.
    (rule_passed c.file.result.now i rule c.rules.ensures.file (ap (λ rules. slice_get rules i) (sym c.rules.ensures.value) ∙ read)).params

pub returns-clause-length : goal.returns-clause-length
returns-clause-length c =
    let ground = c.args.ground.now in
    c.mark_program.new.masks.ok.0
    ∙ c.mark_program.ensures.as_many
    ∙ sym c.in_ok-masks.masks.ok.0
    ∙ c.in_ok-masks.ensures.len
    ∙ c.words.ensures ground.file.schemas ground.program c.layout.ensures
    ∙ sym (words_counted ground.file.schemas ground.program)

pub returns-clause-bits : goal.returns-clause-bits
returns-clause-bits c = λ bit.
    let ground = c.args.ground.now in
    let is_file : IsRuleFile ground.file = subst IsRuleFile c.file.ensures c.rules.ensures.file in
    let count = c.words.ensures ground.file.schemas ground.program c.layout.ensures in
    let marks = subst (λ (words : List ℕ). Marks (is_concluded ground.file c.args.rulings.now ground.program) words c.mark_program.new.masks.items) (c.in_ok-masks.ensures.items_if_clones_equal (λ y same. same)) c.mark_program.ensures in
    marks_all (is_concluded ground.file c.args.rulings.now ground.program) c.words.result c.mark_program.new.masks.items marks (λ b. past_full ground.file c.args.rulings.now ground.program b is_file c.words.result count) bit
    ∙ concluded_has_row ground.file c.args.rulings.now ground.program bit is_file
