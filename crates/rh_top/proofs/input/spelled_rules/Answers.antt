use Rattle.std.proofs.Common.{sym, subst}
use Rattle.rh_top.specs.Files.{RefusesRulesText}
use Rattle.rh_top.proofs.Faulty.{rules_refused}
use Rattle.rh_top.proofs.input.spelled_rules.Goals as goal

pub returns-in-Err-clause-refused : goal.returns-in-Err-clause-refused
returns-in-Err-clause-refused c = subst (RefusesRulesText c.args.bytes.now) (sym c.of_rules.ensures) (rules_refused c.args.bytes.now c.in-Err.fault c.in-Err.ensures.fault)
