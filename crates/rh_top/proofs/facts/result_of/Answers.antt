use Rattle.std.proofs.Common.{◌≡◌, ◌++◌, Vec, Global, ℕ, sym, subst}
use Rattle.rh_list.specs.Each.{Each}
use Rattle.rh_il.specs.Checks.{IsProgram}
use Rattle.rh_il.specs.Numbers.{HasNumbers}
use Rattle.rh_il_text.specs.Program.{IsText}
use Rattle.rh_il_print.specs.Text.{program_text}
use Rattle.rh_report.specs.Output.{fact_lines, rule_lines}
use Rattle.rh_rows.specs.BitRows.{rows_of}
use Rattle.rh_rows.specs.Known.{known_in}
use Rattle.rh_rows.proofs.GreatestFacts.{greatest_is_known}
use Rattle.rh_rule.specs.RuleFiles.{IsRuleFile}
use Rattle.rh_system.specs.Rows.{IsGreatest}
use Rattle.rh_top.specs.Result.{IsResult}
use Rattle.rh_top.proofs.Results.{of_ok, solved_result}
use Rattle.rh_top.proofs.facts.result_of.Goals as goal

pub returns : goal.returns
returns g c =
    let file = c.args.ground.now.file in
    let rulings = c.args.ground.now.rulings in
    let procs = c.args.ground.now.program in
    let words = c.as_slice-words.result.now in
    let known = known_in file.schemas procs words in
    let after = c.in_ok-rewritten.rewritten in
    let is_file = subst IsRuleFile c.file.ensures c.is_rule_file.ensures in
    let greatest = subst (IsGreatest (rows_of file rulings procs)) (sym c.as_slice-words.ensures.value) c.in_ok-analysed.ensures.greatest in
    of_ok (λ (text : Vec ℕ Global). text.items ≡ rule_lines file.rules rulings ++ fact_lines file.schemas procs known ++ program_text after)
    (λ (text : Vec ℕ Global). IsText text.items after)
    (λ (text : Vec ℕ Global). IsResult file procs text.items) c.report.result
    (λ text is printed.
    solved_result file procs is_file (subst IsProgram c.program-2.ensures c.passes_checks.ensures) (subst (Each HasNumbers) c.program.ensures c.numbers_fit.ensures)
    rulings known after text.items c.requires.ruled (greatest_is_known file rulings procs words is_file greatest) c.in_ok-rewritten.ensures is printed)
    c.report.ensures.text c.report.ensures.program
