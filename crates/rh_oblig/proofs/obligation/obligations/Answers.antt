use Rattle.std.proofs.Common.{◌≡◌, ◌<◌, ◌^◌, Some, None, length}
use Rattle.std.specs.Prelude.{slice_get}
use Rattle.rh_rule.specs.RuleFiles.{IsRuleOf, OfRule}
use Rattle.rh_rule.proofs.Passed.{of_rule, rule_of}
use Rattle.rh_oblig.specs.Obligation.{excess, obligations_of, parts_of}
use Rattle.rh_oblig.proofs.Sizes.{made_few, ok_leads, on_ok_leads, read_at}
use Rattle.rh_oblig.proofs.obligation.obligations.Goals as goal

pub obligations_over-requires : goal.obligations_over-requires
obligations_over-requires c =
    rule_of c.args.file.now c.args.rule c.schemas.result.now c.index-rules-rule.result c.schemas.ensures.file c.schemas.ensures.value
    (read_at c.args.file.now.rules c.rules.result.now c.args.rule c.index-rules-rule.result c.requires c.rules.ensures.value c.index-rules-rule.is)

pub returns-clause-few : goal.returns-clause-few
returns-clause-few c =
    let is : IsRuleOf c.schemas.result.now c.index-rules-rule.result =
    rule_of c.args.file.now c.args.rule c.schemas.result.now c.index-rules-rule.result c.schemas.ensures.file c.schemas.ensures.value
    (read_at c.args.file.now.rules c.rules.result.now c.args.rule c.index-rules-rule.result c.requires c.rules.ensures.value c.index-rules-rule.is) in
    ok_leads (λ made. parts_of made.items ≡ obligations_of c.schemas.result.now c.index-rules-rule.result) (λ made. length made.items < 2 ^ 32) c.obligations_over.result
    (λ made same. made_few c.schemas.result.now c.index-rules-rule.result made.items is same) c.obligations_over.ensures.made

pub returns-clause-terms : goal.returns-clause-terms
returns-clause-terms c =
    let stands : slice_get c.args.file.now.rules c.args.rule ≡ Some c.index-rules-rule.result =
    read_at c.args.file.now.rules c.rules.result.now c.args.rule c.index-rules-rule.result c.requires c.rules.ensures.value c.index-rules-rule.is in
    on_ok_leads (excess c.schemas.result.now c.index-rules-rule.result ≡ None) (OfRule c.args.file.now c.args.rule (λ schemas rule. excess schemas rule ≡ None)) c.obligations_over.result
    (λ none. of_rule c.args.file.now c.args.rule c.schemas.result.now c.index-rules-rule.result (λ schemas rule. excess schemas rule ≡ None) c.schemas.ensures.value stands none)
    c.obligations_over.ensures.terms

pub returns-clause-too_many : goal.returns-clause-too_many
returns-clause-too_many c = λ count is.
    let stands : slice_get c.args.file.now.rules c.args.rule ≡ Some c.index-rules-rule.result =
    read_at c.args.file.now.rules c.rules.result.now c.args.rule c.index-rules-rule.result c.requires c.rules.ensures.value c.index-rules-rule.is in
    of_rule c.args.file.now c.args.rule c.schemas.result.now c.index-rules-rule.result (λ schemas rule. excess schemas rule ≡ Some count) c.schemas.ensures.value stands
    (c.obligations_over.ensures.too_many count is)
