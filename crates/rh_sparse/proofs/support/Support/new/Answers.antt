use Rattle.std.proofs.Common.{subst}
use Rattle.rh_rule.specs.RuleFiles.{IsRuleFile}
use Rattle.rh_carry.proofs.Split.{support_carried}
use Rattle.rh_sparse.proofs.support.Support.new.Goals as goal

pub invariant_of-result-clause-before : goal.invariant_of-result-clause-before
invariant_of-result-clause-before c = λ set bit before is.
    let ground = c.args.ground.now in
    support_carried ground.file ground.rulings ground.program set bit before (subst IsRuleFile c.file.ensures c.rules-rules.ensures.file) is
