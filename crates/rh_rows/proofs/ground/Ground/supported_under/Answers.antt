use Rattle.std.proofs.Common.{ap, sym, ◌∙◌, subst}
use Rattle.std.specs.Prelude.{slice_get}
use Rattle.rh_rule.specs.RuleFiles.{IsRuleFile, Rules}
use Rattle.rh_rule.proofs.Passed.{rule_passed}
use Rattle.rh_rows.proofs.Supported.{nothing_supported, support_is}
use Rattle.rh_rows.proofs.ground.Ground.supported_under.Goals as goal

pub is_given-requires : goal.is_given-requires
is_given-requires g c = record {
  rules = c.rules-rules.ensures.value ∙ ap (λ (file : Rules). file.rules) c.file.ensures;
  few = λ i x there. (rule_passed c.file.result.now i x c.rules-rules.ensures.file (ap (λ rules. slice_get rules i) (sym c.rules-rules.ensures.value) ∙ there)).params;
}

pub returns-in-Some : goal.returns-in-Some
returns-in-Some g c =
    let ground = c.args.self.now in
    c.is_given.ensures
    ∙ sym (support_is ground.file c.args.rulings.now ground.program (g.T.BitTest.holds c.args.known.now) c.args.bit c.in-Some.fact (subst IsRuleFile c.file.ensures c.rules-rules.ensures.file) c.in-Some.ensures.found)

pub returns-in-None : goal.returns-in-None
returns-in-None g c =
    let ground = c.args.self.now in
    sym (nothing_supported ground.file c.args.rulings.now ground.program (g.T.BitTest.holds c.args.known.now) c.args.bit (subst IsRuleFile c.file.ensures c.rules-rules.ensures.file) c.in-None.ensures.none)
