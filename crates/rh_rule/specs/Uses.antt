-- Each metavariable of a rule is used after its declaration.
use Rattle.std.specs.Prelude.{ℕ, Bool, ◌||◌, List}
use Rattle.std.specs.List.{list_any}
use Rattle.rh_rule.specs.declared.rule.RuleBase.{RuleBase}
use Rattle.rh_rule.specs.declared.rule.FactUse.{FactUse}
use Rattle.rh_rule.specs.declared.rule.Side.{Side}
use Rattle.rh_rule.specs.declared.rule.Conclusion.{Conclusion}
use Rattle.rh_rule.specs.declared.rule.Conclusion.TheVariants.{Fact, Transform}
use Rattle.rh_rule.specs.declared.rule.Rule.{Rule}
use Rattle.rh_rule.specs.Operands.{operands, term_operands, side_terms, is_meta}

-- the metavariable is among the operands
abbrev pub names : ℕ → List RuleBase → Bool
names meta bases = list_any (is_meta meta) bases

abbrev pub fact_names : ℕ → FactUse → Bool
fact_names meta fact = names meta fact.args

abbrev pub side_names : ℕ → Side → Bool
side_names meta side = names meta (term_operands (side_terms side).0) || names meta (term_operands (side_terms side).1)

abbrev pub conclusion_names : ℕ → Conclusion → Bool
conclusion_names meta (Fact fact slot) = fact_names meta fact
conclusion_names meta (Transform template) = names meta (operands template)

-- the pattern, a premise, a side condition or the conclusion names it
abbrev pub rule_names : ℕ → Rule → Bool
rule_names meta rule =
    names meta (operands rule.pattern)
    || (list_any (fact_names meta) rule.premises || (list_any (side_names meta) rule.sides || conclusion_names meta rule.conclusion))
