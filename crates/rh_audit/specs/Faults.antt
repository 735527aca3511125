-- The lines of a text of logs that are at fault over a rule file.
use Rattle.std.specs.Prelude.{◌≡◌, ◌≢◌, ℕ, suc, ◌<◌, ◌≤◌, List, Some, length, slice_get}
use Rattle.rh_admit.specs.Admission.{Part}
use Rattle.rh_log.specs.declared.log.Log.{Log}
use Rattle.rh_log.specs.Tree.{IsClosedTree}
use Rattle.rh_log_text.specs.declared.logs.PlacedLog.{PlacedLog}
use Rattle.rh_log_text.specs.declared.logs.RuleLogs.{RuleLogs}
use Rattle.rh_oblig.specs.Obligation.{obligations_of}
use Rattle.rh_rule.specs.declared.rule.Rule.{Rule}
use Rattle.rh_rule.specs.RuleFiles.{Rules}

-- the section has logs of this rule, which has this number in the rule file
pub record IsOf (file : Rules) (section : RuleLogs) (number : ℕ) (rule : Rule) : Type 0 where
  pub stands : slice_get file.rules number ≡ Some rule
  pub named : section.name ≡ rule.name

-- the obligations of a rule of the file
abbrev pub parts_in : Rules → Rule → List Part
parts_in file rule = obligations_of file.schemas rule

-- the log is a closed tree of the obligation
abbrev pub Closes : Part → Log → Type 0
Closes part log = IsClosedTree part.0 part.1 log.nodes

-- a line is at fault:
-- where a section begins that names no rule of the file;
-- where a section begins whose rule does not stand after the rule of the section before;
-- where a log begins whose number is not the next one, counted from 0 in its section;
-- where a log begins whose number is past the last obligation of its rule;
-- where a log begins that is no closed tree of the obligation with its number;
-- and where a section ends that has fewer logs than its rule has obligations
pub data IsAtFault (file : Rules) (sections : List RuleLogs) (line : ℕ) : Type 0 where
  no_rule : (place : ℕ) (section : RuleLogs) → slice_get sections place ≡ Some section
      → ((number : ℕ) (rule : Rule) → ¬ (IsOf file section number rule)) → line ≡ section.line → IsAtFault file sections line
  out_of_order : (place : ℕ) (before section : RuleLogs) (earlier number : ℕ) (first rule : Rule) → slice_get sections place ≡ Some before → slice_get sections (suc place) ≡ Some section
      → IsOf file before earlier first → IsOf file section number rule → number ≤ earlier → line ≡ section.line → IsAtFault file sections line
  misnumbered : (place : ℕ) (section : RuleLogs) (next : ℕ) (log : PlacedLog) → slice_get sections place ≡ Some section → slice_get section.logs next ≡ Some log
      → log.number ≢ next → line ≡ log.line → IsAtFault file sections line
  past_last : (place : ℕ) (section : RuleLogs) (number : ℕ) (rule : Rule) (next : ℕ) (log : PlacedLog) → slice_get sections place ≡ Some section → IsOf file section number rule
      → slice_get section.logs next ≡ Some log → length (parts_in file rule) ≤ log.number → line ≡ log.line → IsAtFault file sections line
  not_closed : (place : ℕ) (section : RuleLogs) (number : ℕ) (rule : Rule) (next : ℕ) (log : PlacedLog) (part : Part) → slice_get sections place ≡ Some section → IsOf file section number rule
      → slice_get section.logs next ≡ Some log → slice_get (parts_in file rule) log.number ≡ Some part → ¬ (Closes part log.log) → line ≡ log.line → IsAtFault file sections line
  too_few : (place : ℕ) (section : RuleLogs) (number : ℕ) (rule : Rule) → slice_get sections place ≡ Some section → IsOf file section number rule
      → length section.logs < length (parts_in file rule) → line ≡ section.end → IsAtFault file sections line

-- the first line at fault
pub record IsFirstFault (file : Rules) (sections : List RuleLogs) (line : ℕ) : Type 0 where
  pub at_fault : IsAtFault file sections line
  pub first : (other : ℕ) → IsAtFault file sections other → line ≤ other
