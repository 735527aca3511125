-- The files of a call: what they are texts of, and why they are refused.
use Rattle.std.specs.Prelude.{ℕ, ◌≡◌, ◌≢◌, ◌<◌, ◌≤◌, List, Option, IfSome, length}
use Rattle.rh_il.specs.declared.program.Proc.{Proc}
use Rattle.rh_il_text.specs.declared.fault.ReadFault.TheVariants.{NoMemory as NoProgramMemory}
use Rattle.rh_il_text.specs.Program.{IsText as IsProgramText, FaultsAs as ProgramFaultsAs}
use Rattle.rh_report.specs.declared.status.Part.{Part}
use Rattle.rh_report.specs.declared.status.Part.TheVariants.{Rules as RulesPart, Program as ProgramPart}
use Rattle.rh_report.specs.declared.status.Status.{Status}
use Rattle.rh_report.specs.declared.status.Status.TheVariants.{BadProgram, BadRules, NoMemory, ReadFault, TooLong}
use Rattle.rh_rule.specs.RuleFiles.{Rules}
use Rattle.rh_rule_text.specs.declared.fault.RulesFault.TheVariants.{NoMemory as NoRulesMemory}
use Rattle.rh_rule_text.specs.Reading.{IsText as IsRulesText, FaultsAs as RulesFaultsAs}
use Rattle.rh_top.specs.Call.{Source, MayBe, ReadFails}

-- the most bytes of a rule file or a program, and of a log
abbrev pub most_bytes : ℕ
most_bytes = 1048576

abbrev pub most_log_bytes : ℕ
most_log_bytes = 16777216

-- the bytes are a text of the rule file, and not too long
pub record SpellRules (bytes : List ℕ) (file : Rules) : Type 0 where
  pub within : length bytes ≤ most_bytes
  pub text : IsRulesText bytes file

-- they are one of the program
pub record SpellProgram (bytes : List ℕ) (procs : List Proc) : Type 0 where
  pub within : length bytes ≤ most_bytes
  pub text : IsProgramText bytes procs

-- the bytes that are held are a text of this rule file
pub record AcceptsRules (held : Option (List ℕ)) (file : Rules) : Type 0 where
  pub bytes : List ℕ
  pub told : MayBe held bytes
  pub spelled : SpellRules bytes file

-- they are one of this program
pub record AcceptsProgram (held : Option (List ℕ)) (procs : List Proc) : Type 0 where
  pub bytes : List ℕ
  pub told : MayBe held bytes
  pub spelled : SpellProgram bytes procs

-- a text is refused as a rule file: this is its fault
abbrev pub RefusesRulesText : List ℕ → Status → Type 0
RefusesRulesText bytes (BadRules fault) = RulesFaultsAs bytes fault × (fault ≢ NoRulesMemory)
RefusesRulesText bytes NoMemory = Unit {0}
RefusesRulesText bytes _ = ⊥

-- it is refused as a program
abbrev pub RefusesProgramText : List ℕ → Status → Type 0
RefusesProgramText bytes (BadProgram fault) = ProgramFaultsAs bytes fault × (fault ≢ NoProgramMemory)
RefusesProgramText bytes NoMemory = Unit {0}
RefusesProgramText bytes _ = ⊥

-- a file of so many bytes at most is not read: a read of it failed, or it is longer, or memory ran out
abbrev pub RefusesRead : Part → ℕ → Source → Status → Type 0
RefusesRead part most source (ReadFault which) = (which ≡ part) × ReadFails source
RefusesRead part most source (TooLong which) = (which ≡ part) × IfSome source.held (λ bytes. most < length bytes)
RefusesRead part most source NoMemory = Unit {0}
RefusesRead part most source _ = ⊥

-- the source of a part is refused: it is not read, or its text is refused
pub data RefusesSource (part : Part) (most : ℕ) (RefusesText : List ℕ → Status → Type 0) (source : Source) (status : Status) : Type 0 where
  unread : RefusesRead part most source status → RefusesSource part most RefusesText source status
  text_refused : (bytes : List ℕ) → MayBe source.held bytes → length bytes ≤ most → RefusesText bytes status → RefusesSource part most RefusesText source status

abbrev pub RefusesRules : Source → Status → Type 0
RefusesRules = RefusesSource RulesPart most_bytes RefusesRulesText

abbrev pub RefusesProgram : Source → Status → Type 0
RefusesProgram = RefusesSource ProgramPart most_bytes RefusesProgramText
