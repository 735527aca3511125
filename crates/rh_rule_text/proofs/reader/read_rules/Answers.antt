use Rattle.rh_rule_text.proofs.Answered.{answers, refuses}
use Rattle.rh_rule_text.proofs.reader.read_rules.Goals as goal

pub returns-clause-whole : goal.returns-clause-whole
returns-clause-whole c = answers c.args.src.now c.rules_in.result c.rules_in.ensures.rules c.rules_in.ensures.fault

pub returns-clause-refused : goal.returns-clause-refused
returns-clause-refused c = refuses c.args.src.now c.rules_in.result c.rules_in.ensures.rules c.rules_in.ensures.fault
