-- What each request makes of its files: all its steps accepted, and this is its output.
use Rattle.std.specs.Prelude.{ℕ, ℤ, ◌≤◌, List, Option, Some, length}
use Rattle.rh_audit.specs.Audit.{IsAudited}
use Rattle.rh_gen.specs.Generated.{generated}
use Rattle.rh_gen.specs.Standard.{standard_rules}
use Rattle.rh_il.specs.declared.program.Proc.{Proc}
use Rattle.rh_il_print.specs.Text.{program_text}
use Rattle.rh_rule.specs.RuleFiles.{Rules}
use Rattle.rh_top.specs.Call.{Reads, MayBe}
use Rattle.rh_audit.specs.Audit.{HaveFewTerms}
use Rattle.rh_top.specs.Counts.{HaveRoom}
use Rattle.rh_top.specs.Files.{AcceptsProgram, AcceptsRules, most_log_bytes}
use Rattle.rh_top.specs.Requests.{Request, audit, check, gen, opt, prove, run}
use Rattle.rh_top.specs.Result.{IsChecked, IsCounted, IsProved, IsResult, IsRun}

-- what is made of a rule file
pub record IsOfRules (Is : Rules → List ℕ → Type 0) (rules : Option (List ℕ)) (text : List ℕ) : Type 0 where
  pub file : Rules
  pub rules_read : AcceptsRules rules file
  pub few_terms : HaveFewTerms file
  pub result : Is file text

-- what is made of a rule file and a program
pub record IsOfBoth (Is : Rules → List Proc → List ℕ → Type 0) (rules program : Option (List ℕ)) (text : List ℕ) : Type 0 where
  pub file : Rules
  pub procs : List Proc
  pub rules_read : AcceptsRules rules file
  pub program_read : AcceptsProgram program procs
  pub few_terms : HaveFewTerms file
  pub room : HaveRoom file procs
  pub result : Is file procs text

-- what is made of a rule file and its logs
pub record IsOfLogs (rules log : Option (List ℕ)) (text : List ℕ) : Type 0 where
  pub file : Rules
  pub rules_read : AcceptsRules rules file
  pub bytes : List ℕ
  pub told : MayBe log bytes
  pub within : length bytes ≤ most_log_bytes
  pub audited : IsAudited file bytes text

-- what is made of a program
pub record IsOfProgram (steps : ℕ) (program : Option (List ℕ)) (arg : ℤ) (text : List ℕ) : Type 0 where
  pub procs : List Proc
  pub program_read : AcceptsProgram program procs
  pub result : IsRun procs arg steps text

-- the output of a request
abbrev pub IsMade : Reads → Request → List ℕ → Type 0
IsMade reads (opt workers rules program) = IsOfBoth IsResult (reads.holds rules) (reads.holds program)
IsMade reads (check rules) = IsOfRules IsChecked (reads.holds rules)
IsMade reads (prove rules) = IsOfRules IsProved (reads.holds rules)
IsMade reads (audit rules log) = IsOfLogs (reads.holds rules) (reads.holds log)
IsMade reads (run steps program arg) = IsOfProgram steps (reads.holds program) arg
IsMade reads (gen workers n) = IsOfBoth IsCounted (Some standard_rules) (Some (program_text (generated n)))
