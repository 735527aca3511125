-- What the walk over the sections has found of one of them.
use Rattle.std.specs.Prelude.{◌≡◌, ℕ, ◌<◌, ◌≤◌, Bool, List, [], ◌∷◌, ◌++◌, Some, length, slice_get}
use Rattle.rh_admit.specs.Admission.{Part}
use Rattle.rh_admit.specs.Rules.{IsFirstExcess}
use Rattle.rh_log_text.specs.declared.logs.PlacedLog.{PlacedLog}
use Rattle.rh_log_text.specs.declared.logs.RuleLogs.{RuleLogs}
use Rattle.rh_oblig.specs.declared.obligation.ObligFault.{ObligFault}
use Rattle.rh_oblig.specs.declared.obligation.ObligFault.TheVariants.{TooManyTerms as TooMany, NoMemory as NoRoom}
use Rattle.rh_oblig.specs.Obligation.{IsAdmitted}
use Rattle.rh_rule.specs.declared.rule.Rule.{Rule}
use Rattle.rh_rule.specs.RuleFiles.{Rules}
use Rattle.rh_audit.specs.declared.fault.AuditFault.{AuditFault}
use Rattle.rh_audit.specs.declared.fault.AuditFault.TheVariants.{BadLog, TooManyTerms, NoMemory}
use Rattle.rh_audit.specs.Audit.{audit_line}
use Rattle.rh_audit.specs.Faults.{Closes, IsOf, parts_in}

-- the log has this number, and is a closed tree of the obligation with it
pub record IsProof (parts : List Part) (number : ℕ) (log : PlacedLog) : Type 0 where
  pub numbered : log.number ≡ number
  pub part : Part
  pub stands : slice_get parts number ≡ Some part
  pub closed : Closes part log.log

-- each of the first logs proves the obligation with its number
abbrev pub AreProofsBefore : List Part → List PlacedLog → ℕ → Type 0
AreProofsBefore parts logs end = (number : ℕ) (log : PlacedLog) → number < end → slice_get logs number ≡ Some log → IsProof parts number log

-- each log proves the obligation with its number, and each obligation has a log
pub record IsProved (parts : List Part) (section : RuleLogs) : Type 0 where
  pub each : AreProofsBefore parts section.logs (length section.logs)
  pub all : length parts ≤ length section.logs

-- the first log that proves nothing begins at this line, or the section ends there and has too few
pub data Breaks (parts : List Part) (section : RuleLogs) (line : ℕ) : Type 0 where
  at_log : (number : ℕ) (log : PlacedLog) → slice_get section.logs number ≡ Some log → AreProofsBefore parts section.logs number → ¬ (IsProof parts number log)
      → line ≡ log.line → Breaks parts section line
  at_end : AreProofsBefore parts section.logs (length section.logs) → length section.logs < length parts → line ≡ section.end → Breaks parts section line

-- a fault of the logs of a section alone
abbrev pub BreaksWith : List Part → RuleLogs → AuditFault → Type 0
BreaksWith parts section (BadLog line) = Breaks parts section line
BreaksWith parts section (TooManyTerms rule count) = ⊥
BreaksWith parts section NoMemory = Unit {0}

-- the section proves the rule with this number, which is not before the next one
pub record IsPassed (file : Rules) (next : ℕ) (section : RuleLogs) (number : ℕ) : Type 0 where
  pub rule : Rule
  pub is_of : IsOf file section number rule
  pub after : next ≤ number
  pub proved : IsProved (parts_in file rule) section
  pub admitted : IsAdmitted file.schemas rule

-- the section names no rule from the next one on, or its logs do not prove the rule
pub data Stops (file : Rules) (next : ℕ) (section : RuleLogs) (line : ℕ) : Type 0 where
  at_name : ((number : ℕ) (rule : Rule) → next ≤ number → ¬ (IsOf file section number rule)) → line ≡ section.line → Stops file next section line
  at_logs : (number : ℕ) (rule : Rule) → IsOf file section number rule → next ≤ number → Breaks (parts_in file rule) section line → Stops file next section line

abbrev pub StopsWith : Rules → ℕ → RuleLogs → AuditFault → Type 0
StopsWith file next section (BadLog line) = Stops file next section line
StopsWith file next section (TooManyTerms rule count) = ⊥
StopsWith file next section NoMemory = Unit {0}

-- a rule of the file is the first with too many terms
abbrev pub ExceedsWith : Rules → AuditFault → Type 0
ExceedsWith file (BadLog line) = ⊥
ExceedsWith file (TooManyTerms rule count) = IsFirstExcess file.schemas file.rules rule count
ExceedsWith file NoMemory = Unit {0}

-- the fault of a rule, with its number
abbrev pub of_rule : ℕ → ObligFault → AuditFault
of_rule rule (TooMany count) = TooManyTerms rule count
of_rule rule NoRoom = NoMemory

-- a line for each rule, by its mark
abbrev pub marked_lines : List Rule → List Bool → List ℕ
marked_lines [] marks = []
marked_lines (rule ∷ rules) [] = []
marked_lines (rule ∷ rules) (mark ∷ marks) = audit_line rule mark ++ marked_lines rules marks
