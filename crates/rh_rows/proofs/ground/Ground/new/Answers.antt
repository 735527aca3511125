use Rattle.std.proofs.Common.{sym, subst}
use Rattle.rh_domain.specs.Count.{AreFew}
use Rattle.rh_rule.specs.RuleFiles.{IsRuleFile}
use Rattle.rh_rows.proofs.Covered.{all_covered}
use Rattle.rh_rows.proofs.FewSchemas.{few_schemas}
use Rattle.rh_rows.proofs.ground.Ground.new.Goals as goal

pub new-requires : goal.new-requires
new-requires c = subst AreFew (sym c.schemas.ensures.value) (few_schemas c.args.file.now c.schemas.ensures.file)

pub invariant_of-result-clause-covered : goal.invariant_of-result-clause-covered
invariant_of-result-clause-covered c = all_covered c.in_ok-file.file c.from-rulings.result c.in_ok-program.program (subst IsRuleFile (sym c.in_ok-file.ensures) c.schemas.ensures.file)
