use Rattle.std.proofs.Common.{length, ap, arith}
use Rattle.rh_rule.proofs.Passed.{passed}
use Rattle.rh_transform.proofs.templates.rule_count.Goals as goal

pub overflow_cast-result : goal.overflow_cast-result
overflow_cast-result c =
    let few = (passed c.file.result.now.schemas c.file.result.now.rules c.rules.ensures.file.passes).few_rules in
    omega (arith, few, ap length c.rules.ensures.value)
