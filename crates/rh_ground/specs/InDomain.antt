-- Rules whose numbers are constants of a domain. For the domain of a procedure this is what `Instance` says of the
-- procedure.
use Rattle.std.specs.Prelude.{Bool, true}
use Rattle.std.specs.List.{list_all, list_any}
use Rattle.std.specs.Ordering.{int_eq}
use Rattle.rh_rule.specs.declared.rule.Conclusion.{Conclusion}
use Rattle.rh_rule.specs.declared.rule.Conclusion.TheVariants.{Fact, Transform}
use Rattle.rh_rule.specs.declared.rule.FactUse.{FactUse}
use Rattle.rh_rule.specs.declared.rule.RuleBase.{RuleBase}
use Rattle.rh_rule.specs.declared.rule.RuleBase.TheVariants.{Meta, Num, Wild}
use Rattle.rh_domain.specs.declared.domain.Domain.{Domain}

-- a number is a constant of the domain
abbrev pub is_base_in : Domain → RuleBase → Bool
is_base_in domain (Num number) = list_any (int_eq number) domain.constants
is_base_in domain (Meta meta) = true
is_base_in domain Wild = true

abbrev pub is_fact_in : Domain → FactUse → Bool
is_fact_in domain fact = list_all (is_base_in domain) fact.args

abbrev pub is_conclusion_in : Domain → Conclusion → Bool
is_conclusion_in domain (Fact fact slot) = is_fact_in domain fact
is_conclusion_in domain (Transform template) = true
