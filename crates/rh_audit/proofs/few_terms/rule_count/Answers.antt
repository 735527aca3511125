use Rattle.std.proofs.Common.{length, ap, arith}
use Rattle.rh_admit.proofs.Small.{few_rules}
use Rattle.rh_audit.proofs.few_terms.rule_count.Goals as goal

pub overflow_cast-result : goal.overflow_cast-result
overflow_cast-result c = omega (arith, few_rules c.args.file.now c.rules.ensures.file, ap length c.rules.ensures.value)
