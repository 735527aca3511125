use Rattle.std.proofs.Common.{subst}
use Rattle.rh_list.specs.Each.{Each}
use Rattle.rh_il.specs.Checks.{IsProgram}
use Rattle.rh_il.specs.Numbers.{HasNumbers}
use Rattle.rh_rule.specs.RuleFiles.{IsRuleFile}
use Rattle.rh_transform.proofs.Passing.{program_kept}
use Rattle.rh_transform.proofs.rewriting.passes.Goals as goal

pub returns : goal.returns
returns c = λ known.
    program_kept c.args.ground.now.file (subst IsRuleFile c.file.ensures c.rules.ensures.file) c.args.ground.now.rulings known c.args.ground.now.program
    (subst IsProgram c.program.ensures c.count.ensures.program) (subst (Each HasNumbers) c.program-2.ensures c.numbers_fit.ensures)
