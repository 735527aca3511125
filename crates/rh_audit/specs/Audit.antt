-- What an audit of logs answers.
use Rattle.std.specs.Prelude.{◌≡◌, ℕ, Bool, List, ◌++◌, None, codes, if◌then◌else◌}
use Rattle.std.specs.List.{flat_map, list_any}
use Rattle.std.specs.Str.{bytes_eq}
use Rattle.rh_list.specs.Each.{Each}
use Rattle.rh_admit.specs.Rules.{IsFirstExcess}
use Rattle.rh_log_text.specs.declared.logs.RuleLogs.{RuleLogs}
use Rattle.rh_log_text.specs.Faults.{IsSyntaxFault}
use Rattle.rh_log_text.specs.Text.{IsLogText}
use Rattle.rh_oblig.specs.Obligation.{excess}
use Rattle.rh_oblig.specs.Ruling.{IsRuling}
use Rattle.rh_rule.specs.declared.rule.Rule.{Rule}
use Rattle.rh_rule.specs.declared.rule.Ruling.TheVariants.{Admitted}
use Rattle.rh_rule.specs.RuleFiles.{Rules}
use Rattle.rh_audit.specs.declared.fault.AuditFault.{AuditFault}
use Rattle.rh_audit.specs.declared.fault.AuditFault.TheVariants.{BadLog, TooManyTerms, NoMemory}
use Rattle.rh_audit.specs.Faults.{IsAtFault, IsFirstFault, IsOf}

-- a section has the name of the rule
abbrev pub has_logs : List RuleLogs → Rule → Bool
has_logs sections rule = list_any (λ (section : RuleLogs). bytes_eq section.name rule.name) sections

-- the end of the line of a rule
abbrev pub proved_text : Bool → List ℕ
proved_text proved = if proved then codes " proved\n" else codes " without log\n"

abbrev pub audit_line : Rule → Bool → List ℕ
audit_line rule proved = codes "# rule " ++ rule.name ++ proved_text proved

-- a line for each rule, in the order of the rules
abbrev pub audit_lines : List Rule → List RuleLogs → List ℕ
audit_lines rules sections = flat_map (λ rule. audit_line rule (has_logs sections rule)) rules

-- no obligation of a rule of the file has too many terms
abbrev pub HaveFewTerms : Rules → Type 0
HaveFewTerms file = Each (λ rule. excess file.schemas rule ≡ None) file.rules

-- each rule that a section names is admitted
abbrev pub AreAdmitted : Rules → List RuleLogs → Type 0
AreAdmitted file sections = Each (λ section. (number : ℕ) (rule : Rule) → IsOf file section number rule → IsRuling file.schemas rule Admitted) sections

-- the text consists of sections of logs, no line of which is at fault, so that the rules that they name are admitted,
-- and this tells of each rule whether it has logs
pub record IsAudited (file : Rules) (text out : List ℕ) : Type 0 where
  pub sections : List RuleLogs
  pub is_text : IsLogText text sections
  pub few : HaveFewTerms file
  pub faultless : (line : ℕ) → ¬ (IsAtFault file sections line)
  pub admitted : AreAdmitted file sections
  pub lines : out ≡ audit_lines file.rules sections

-- the text is one of logs that are not at fault, and no rule has too many terms
pub record IsAccepted (file : Rules) (text : List ℕ) : Type 0 where
  pub sections : List RuleLogs
  pub is_text : IsLogText text sections
  pub few : HaveFewTerms file
  pub faultless : (line : ℕ) → ¬ (IsAtFault file sections line)

-- the line where the text is no text of logs, or the first of its lines that is at fault
pub data IsBadLine (file : Rules) (text : List ℕ) (line : ℕ) : Type 0 where
  by_syntax : IsSyntaxFault text line → IsBadLine file text line
  by_logs : (sections : List RuleLogs) → IsLogText text sections → HaveFewTerms file → IsFirstFault file sections line → IsBadLine file text line

-- the text is one of logs, and this rule of the file is the first with too many terms
pub record IsTooLarge (file : Rules) (text : List ℕ) (rule count : ℕ) : Type 0 where
  pub sections : List RuleLogs
  pub is_text : IsLogText text sections
  pub excess : IsFirstExcess file.schemas file.rules rule count

-- why logs are not accepted: first their text is looked at, then the terms of all rules, and then the logs
abbrev pub RefusesAudit : Rules → List ℕ → AuditFault → Type 0
RefusesAudit file text (BadLog line) = IsBadLine file text line
RefusesAudit file text (TooManyTerms rule count) = IsTooLarge file text rule count
RefusesAudit file text NoMemory = Unit {0}
