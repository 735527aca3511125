-- The text of the logs of the admitted rules.
use Rattle.std.specs.Prelude.{ℕ, ◌+◌, List, [], ◌∷◌}
use Rattle.rh_log.specs.declared.log.Admission.{Admission}
use Rattle.rh_log.specs.declared.log.Admission.TheVariants.{Admitted, Refused}
use Rattle.rh_log.specs.declared.log.Log.{Log}
use Rattle.rh_log_text.specs.declared.logs.PlacedLog.{PlacedLog}
use Rattle.rh_log_text.specs.declared.logs.RuleLogs.{RuleLogs}
use Rattle.rh_log_text.specs.Text.{logs_text}
use Rattle.rh_rule.specs.declared.rule.Rule.{Rule}

-- logs with their numbers from this one on, at no line yet
abbrev pub numbered_from : ℕ → List Log → List PlacedLog
numbered_from number [] = []
numbered_from number (log ∷ logs) = record { line = 0; number = number; log = log } ∷ numbered_from (number + 1) logs

-- the logs of a rule as a section, at no line yet
abbrev pub section_of : Rule → List Log → RuleLogs
section_of rule logs = record { name = rule.name; line = 0; end = 0; logs = numbered_from 0 logs }

-- a section for each admitted rule, in the order of the rules
abbrev pub sections_of : List Rule → List Admission → List RuleLogs
sections_of [] admissions = []
sections_of (rule ∷ rules) [] = []
sections_of (rule ∷ rules) (Admitted logs ∷ admissions) = section_of rule logs ∷ sections_of rules admissions
sections_of (rule ∷ rules) (Refused obligation classes ∷ admissions) = sections_of rules admissions

-- their text
abbrev pub proofs_text : List Rule → List Admission → List ℕ
proofs_text rules admissions = logs_text (sections_of rules admissions)
