-- How each request is refused: at the first step that refuses.
use Rattle.std.specs.Prelude.{ℕ, ◌≡◌, List}
use Rattle.rh_audit.specs.declared.fault.AuditFault.{AuditFault}
use Rattle.rh_audit.specs.declared.fault.AuditFault.TheVariants.{BadLog as IsBadLog, TooManyTerms, NoMemory as NoAuditMemory}
use Rattle.rh_audit.specs.Audit.{IsAccepted, RefusesAudit}
use Rattle.rh_gen.specs.Generated.{generated}
use Rattle.rh_gen.specs.Standard.{standard_rules}
use Rattle.rh_il.specs.declared.program.Proc.{Proc}
use Rattle.rh_il_print.specs.Text.{program_text}
use Rattle.rh_report.specs.declared.status.Large.TheVariants.{Terms}
use Rattle.rh_report.specs.declared.status.Part.TheVariants.{Log}
use Rattle.rh_report.specs.declared.status.Status.{Status}
use Rattle.rh_report.specs.declared.status.Status.TheVariants.{BadLog, NoMemory, TooLarge}
use Rattle.rh_rule.specs.RuleFiles.{Rules}
use Rattle.rh_top.specs.Call.{Reads, Source, file, made}
use Rattle.rh_top.specs.Counts.{RefusesCounts, RefusesTerms}
use Rattle.rh_top.specs.Files.{AcceptsProgram, AcceptsRules, RefusesProgram, RefusesRules, RefusesSource, most_log_bytes}
use Rattle.rh_top.specs.Requests.{Request, audit, check, gen, opt, prove, run}

-- the first step refuses, or it accepts and a later one refuses
pub data First (A : Type 0) (Refuses : Status → Type 0) (Accepts : A → Type 0) (Later : A → Status → Type 0) (status : Status) : Type 0 where
  at_first : Refuses status → First A Refuses Accepts Later status
  later : (a : A) → Accepts a → Later a status → First A Refuses Accepts Later status

-- the status of logs that are not accepted
abbrev pub of_audit : AuditFault → Status
of_audit (IsBadLog line) = BadLog line
of_audit (TooManyTerms rule count) = TooLarge (Terms rule count)
of_audit NoAuditMemory = NoMemory

-- a text of logs is refused: logs that are accepted only for want of memory
abbrev pub RefusesLogText : Rules → List ℕ → Status → Type 0
RefusesLogText file bytes status =
    (fault : AuditFault) × RefusesAudit file bytes fault × (IsAccepted file bytes → fault ≡ NoAuditMemory) × (status ≡ of_audit fault)

-- the rule file is refused, or the terms of its obligations
abbrev pub RefusedOfRules : Source → Status → Type 0
RefusedOfRules rules = First Rules (RefusesRules rules) (AcceptsRules rules.held) RefusesTerms

-- the rule file, the program, or a counted quantity
abbrev pub RefusedOfBoth : Source → Source → Status → Type 0
RefusedOfBoth rules program =
    First Rules (RefusesRules rules) (AcceptsRules rules.held)
    (λ file. First (List Proc) (RefusesProgram program) (AcceptsProgram program.held) (RefusesCounts file))

-- the rule file, or the logs
abbrev pub RefusedOfLogs : Source → Source → Status → Type 0
RefusedOfLogs rules log = First Rules (RefusesRules rules) (AcceptsRules rules.held) (λ file. RefusesSource Log most_log_bytes (RefusesLogText file) log)

-- a request is refused
abbrev pub IsRefused : Reads → Request → Status → Type 0
IsRefused reads (opt workers rules program) = RefusedOfBoth (file reads rules) (file reads program)
IsRefused reads (check rules) = RefusedOfRules (file reads rules)
IsRefused reads (prove rules) = RefusedOfRules (file reads rules)
IsRefused reads (audit rules log) = RefusedOfLogs (file reads rules) (file reads log)
IsRefused reads (run steps program arg) = RefusesProgram (file reads program)
IsRefused reads (gen workers n) = RefusedOfBoth (made standard_rules) (made (program_text (generated n)))
