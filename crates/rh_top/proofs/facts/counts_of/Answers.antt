use Rattle.std.proofs.Common.{◌≡◌, Vec, Global, ℕ, sym, subst}
use Rattle.rh_report.specs.Counts.{counts_text}
use Rattle.rh_rows.specs.BitRows.{rows_of}
use Rattle.rh_rows.specs.Known.{known_in}
use Rattle.rh_rows.proofs.GreatestFacts.{greatest_is_known}
use Rattle.rh_rule.specs.RuleFiles.{IsRuleFile}
use Rattle.rh_system.specs.Rows.{IsGreatest}
use Rattle.rh_top.specs.Result.{IsCounted}
use Rattle.rh_top.proofs.Results.{of_one}
use Rattle.rh_top.proofs.facts.counts_of.Goals as goal

pub returns : goal.returns
returns g c =
    let file = c.args.ground.now.file in
    let rulings = c.args.ground.now.rulings in
    let procs = c.args.ground.now.program in
    let words = c.as_slice.result.now in
    let is_file = subst IsRuleFile c.file.ensures c.is_rule_file.ensures in
    let greatest = subst (IsGreatest (rows_of file rulings procs)) (sym c.as_slice.ensures.value) c.in_ok-analysed.ensures.greatest in
    of_one (λ (text : Vec ℕ Global). text.items ≡ counts_text file rulings (known_in file.schemas procs words) procs) (λ (text : Vec ℕ Global). IsCounted file procs text.items) c.counts.result
    (λ text is.
    record {
      rulings = rulings;
      ruled = c.requires.ruled;
      known = known_in file.schemas procs words;
      greatest = greatest_is_known file rulings procs words is_file greatest;
      text_is = is;
    }) c.counts.ensures
