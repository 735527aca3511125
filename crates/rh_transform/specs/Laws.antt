-- The program that rules rewrite is a program.
use Rattle.std.specs.Prelude.{List}
use Rattle.rh_list.specs.Each.{Each}
use Rattle.rh_il.specs.declared.program.Proc.{Proc}
use Rattle.rh_il.specs.Checks.{IsProgram}
use Rattle.rh_il.specs.Numbers.{HasNumbers}
use Rattle.rh_rule.specs.declared.rule.Ruling.{Ruling}
use Rattle.rh_rule.specs.RuleFiles.{IsRuleFile, Rules}
use Rattle.rh_domain.specs.Facts.{Known}
use Rattle.rh_transform.specs.Rewritten.{rewritten}

-- the rewritten program passes every check, where the numbers in the program are of 64 bits
abbrev pub RewrittenPasses : Type 0
RewrittenPasses =
    (file : Rules) (rulings : List Ruling) (known : Known) (procs : List Proc) → IsRuleFile file → IsProgram procs → Each HasNumbers procs
    → IsProgram (rewritten known file.rules rulings procs)
