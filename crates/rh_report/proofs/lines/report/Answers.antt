use Rattle.std.proofs.Common.{◌≡◌, ◌++◌, List, ℕ, rules, sym, subst}
use Rattle.rh_il.specs.Checks.{IsProgram}
use Rattle.rh_il_text.specs.Program.{IsText}
use Rattle.rh_il_print.specs.Text.{program_text}
use Rattle.rh_rule.specs.RuleFiles.{IsRuleFile}
use Rattle.rh_rows.specs.Known.{known_in}
use Rattle.rh_report.specs.Output.{fact_lines, rule_lines}
use Rattle.rh_report.proofs.Commented.{comments}
use Rattle.rh_report.proofs.lines.report.Goals as goal

pub returns-clause-program : goal.returns-clause-program
returns-clause-program c =
    let ground = c.args.ground.now in
    let q = c.args.q.now in
    let known = known_in ground.file.schemas ground.program c.args.words.now in
    let front = rule_lines ground.file.rules ground.rulings ++ fact_lines ground.file.schemas ground.program known in
    let whole : c.push.new.out.items ≡ front ++ program_text q = search rules in
    let is_file : IsRuleFile ground.file = subst IsRuleFile c.file-file.ensures c.rules.ensures.file in
    let is_program : IsProgram ground.program = subst IsProgram c.program-program.ensures c.is_program.ensures in
    let printed : IsText (program_text q) q = subst (λ (t : List ℕ). IsText t q) c.in_ok-print_program.ensures.text c.in_ok-print_program.ensures.again in
    subst (λ (t : List ℕ). IsText t q) (sym whole) (comments ground.file ground.rulings ground.program known is_file is_program (program_text q) q printed)
