-- A rule file has few rules.
use Rattle.std.proofs.Common.{◌<◌, ◌^◌, length, arith}
use Rattle.rh_rule.specs.RuleFiles.{IsRuleFile, Rules}
use Rattle.rh_rule.proofs.Passed.{passed}

pub few_rules : (file : Rules) → IsRuleFile file → length file.rules < 2 ^ 32
few_rules file is = omega (arith, (passed file.schemas file.rules is.passes).few_rules)
