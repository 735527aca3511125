use Rattle.std.proofs.Common.{◌≡◌, map, ap, ◌∙◌}
use Rattle.std.specs.List.{flat_map}
use Rattle.rh_rule_text.specs.Resolve.{metas_of, rule_param, rule_pattern, premises_of, sides_of, conclusion_of}
use Rattle.rh_rule_text.proofs.file.rule_of.Goals as goal

pub returns : goal.returns
returns c =
    let rule = c.args.rule.now in
    let facts = c.args.facts.now in
    let metas : c.in_ok-metas.metas ≡ metas_of rule.params = c.in_ok-metas.ensures ∙ ap metas_of c.as_slice.ensures.value in
    let params : c.from.result ≡ map rule_param rule.params = c.from.ensures ∙ c.in_ok-params.ensures ∙ ap (map rule_param) c.as_slice-2.ensures.value in
    let pattern : c.rule_pattern.result ≡ rule_pattern (metas_of rule.params) rule.pattern = c.rule_pattern.ensures ∙ ap (λ m. rule_pattern m rule.pattern) metas in
    let premises : c.in_ok-premises.premises ≡ flat_map (premises_of facts (metas_of rule.params)) rule.conds =
    c.in_ok-premises.ensures ∙ ap (flat_map (premises_of facts c.in_ok-metas.metas)) c.as_slice-3.ensures.value ∙ ap (λ m. flat_map (premises_of facts m) rule.conds) metas in
    let sides : c.in_ok-sides.sides ≡ flat_map (sides_of (metas_of rule.params)) rule.conds =
    c.in_ok-sides.ensures ∙ ap (flat_map (sides_of c.in_ok-metas.metas)) c.as_slice-4.ensures.value ∙ ap (λ m. flat_map (sides_of m) rule.conds) metas in
    let conclusion : c.in_ok-conclusion.conclusion ≡ conclusion_of facts (metas_of rule.params) rule.conclusion =
    c.in_ok-conclusion.ensures ∙ ap (λ m. conclusion_of facts m rule.conclusion) metas in
    λ i. record { name = rule.name.name; params = params i; pattern = pattern i; premises = premises i; sides = sides i; conclusion = conclusion i }
