-- When a call has to be done.
use Rattle.std.specs.Prelude.{ℕ, ◌≡◌, ◌≤◌, List, Some, length}
use Rattle.rh_audit.specs.Audit.{IsAudited}
use Rattle.rh_gen.specs.Generated.{generated}
use Rattle.rh_gen.specs.Standard.{standard_rules}
use Rattle.rh_il.specs.declared.program.Proc.{Proc}
use Rattle.rh_il_print.specs.Text.{program_text}
use Rattle.rh_report.specs.declared.status.Status.{Status}
use Rattle.rh_report.specs.declared.status.Status.TheVariants.{Done, NoMemory}
use Rattle.rh_rule.specs.RuleFiles.{Rules}
use Rattle.rh_top.specs.Call.{Reads, Source, Writes, ReadFails, WriteFails, WroteNothing, file, made}
use Rattle.rh_audit.specs.Audit.{HaveFewTerms}
use Rattle.rh_top.specs.Counts.{HaveRoom}
use Rattle.rh_top.specs.Files.{SpellProgram, SpellRules, most_log_bytes}
use Rattle.rh_top.specs.Requests.{Request, audit, check, gen, opt, prove, run}

-- the source tells a text of this rule file, and no read of it fails
pub record GivesRules (source : Source) (file : Rules) : Type 0 where
  pub bytes : List ℕ
  pub held : source.held ≡ Some bytes
  pub spelled : SpellRules bytes file
  pub calm : ReadFails source → ⊥

-- it tells one of this program
pub record GivesProgram (source : Source) (procs : List Proc) : Type 0 where
  pub bytes : List ℕ
  pub held : source.held ≡ Some bytes
  pub spelled : SpellProgram bytes procs
  pub calm : ReadFails source → ⊥

-- it tells logs that are accepted
pub record GivesLogs (source : Source) (file : Rules) : Type 0 where
  pub bytes : List ℕ
  pub held : source.held ≡ Some bytes
  pub within : length bytes ≤ most_log_bytes
  pub text : List ℕ
  pub audited : IsAudited file bytes text
  pub calm : ReadFails source → ⊥

-- a rule file of few terms
pub record AreGoodRules (rules : Source) : Type 0 where
  pub file : Rules
  pub gives : GivesRules rules file
  pub few_terms : HaveFewTerms file

-- a rule file and a program with no counted quantity past its limit
pub record AreGood (rules program : Source) : Type 0 where
  pub file : Rules
  pub procs : List Proc
  pub gives_rules : GivesRules rules file
  pub gives_program : GivesProgram program procs
  pub few_terms : HaveFewTerms file
  pub room : HaveRoom file procs

-- a rule file and logs
pub record AreGoodLogs (rules log : Source) : Type 0 where
  pub file : Rules
  pub gives_rules : GivesRules rules file
  pub gives_logs : GivesLogs log file

-- a program
pub record IsGoodProgram (program : Source) : Type 0 where
  pub procs : List Proc
  pub gives : GivesProgram program procs

-- the files of a request are accepted, no counted quantity passes its limit, and no read fails
abbrev pub HasGoodFiles : Reads → Request → Type 0
HasGoodFiles reads (opt workers rules program) = AreGood (file reads rules) (file reads program)
HasGoodFiles reads (check rules) = AreGoodRules (file reads rules)
HasGoodFiles reads (prove rules) = AreGoodRules (file reads rules)
HasGoodFiles reads (audit rules log) = AreGoodLogs (file reads rules) (file reads log)
HasGoodFiles reads (run steps program arg) = IsGoodProgram (file reads program)
HasGoodFiles reads (gen workers n) = AreGood (made standard_rules) (made (program_text (generated n)))

-- besides, no write fails
pub record IsGood (reads : Reads) (writes : Writes) (request : Request) : Type 0 where
  pub files : HasGoodFiles reads request
  pub calm : WriteFails writes → ⊥

-- it is done, or memory ran out and nothing was written
abbrev pub IsDoneOrNothing : Writes → Status → Type 0
IsDoneOrNothing writes Done = Unit {0}
IsDoneOrNothing writes NoMemory = WroteNothing writes
IsDoneOrNothing writes _ = ⊥
