-- Sections that are the same but for the lines at which they stand, and what the reader owes a text of logs.
use Rattle.std.specs.Prelude.{◌≡◌, ℕ, List, Result, Ok, Err, map}
use Rattle.std.specs.List.{AllByRecursion}
use Rattle.rh_log.specs.declared.log.Log.{Log}
use Rattle.rh_log_text.specs.declared.logs.LogFault.{LogFault}
use Rattle.rh_log_text.specs.declared.logs.LogFault.TheVariants.{NoMemory, Syntax}
use Rattle.rh_log_text.specs.declared.logs.PlacedLog.{PlacedLog}
use Rattle.rh_log_text.specs.declared.logs.RuleLogs.{RuleLogs}
use Rattle.rh_log_text.specs.Text.{IsLine, IsLogText, PlacedLine}

-- a log without its line
abbrev pub BareLog : Type 0
BareLog = ℕ × Log

abbrev pub bare_log : PlacedLog → BareLog
bare_log log = (log.number, log.log)

-- the logs of a rule without their lines
abbrev pub bare : RuleLogs → List ℕ × List BareLog
bare section = (section.name, map bare_log section.logs)

-- the same rules with the same logs, at whatever lines
abbrev pub AreSame : List RuleLogs → List RuleLogs → Type 0
AreSame a b = map bare a ≡ map bare b

-- the names are names, and the numbers are of 32 bits
abbrev pub AreLines : List PlacedLine → Type 0
AreLines lines = AllByRecursion (λ line. IsLine line.1) lines

-- the text consists of these sections, at lines of its own
pub record IsTextOfSame (text : List ℕ) (sections : List RuleLogs) : Type 0 where
  pub placed : List RuleLogs
  pub same : AreSame placed sections
  pub is : IsLogText text placed

-- these sections, or want of memory
abbrev pub IsAnswer : List RuleLogs → Result (List RuleLogs) LogFault → Type 0
IsAnswer sections (Ok read) = read ≡ sections
IsAnswer sections (Err NoMemory) = Unit {0}
IsAnswer sections (Err (Syntax number)) = ⊥
