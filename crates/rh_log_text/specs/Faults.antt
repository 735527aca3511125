-- Where a text is no text of logs.
use Rattle.std.specs.Prelude.{◌≡◌, ℕ, suc, ◌<◌, ◌≤◌, List, [], ◌∷◌, length, take, slice_get}
use Rattle.std.specs.Option.{option_map_or}
use Rattle.std.specs.List.{AllZip}
use Rattle.rh_log_text.specs.declared.logs.PlacedLog.{PlacedLog}
use Rattle.rh_log_text.specs.declared.logs.RuleLogs.{RuleLogs}
use Rattle.rh_log_text.specs.Lines.{kept_lines, next_line}
use Rattle.rh_log_text.specs.Text.{AllTrees, AreTrees, Stands, file_lines}
use Rattle.rh_log_text.specs.Tree.{BeginsTree, IsTree}

-- each log is a tree, and the last may be the beginning of one
abbrev pub LogsBegin : List PlacedLog → Type 0
LogsBegin [] = Unit {0}
LogsBegin (log ∷ []) = BeginsTree log.log.nodes
LogsBegin (log ∷ following ∷ others) = IsTree log.log.nodes × LogsBegin (following ∷ others)

-- each log is a tree, and the last of the last section may be the beginning of one
abbrev pub SectionsBegin : List RuleLogs → Type 0
SectionsBegin [] = Unit {0}
SectionsBegin (section ∷ []) = LogsBegin section.logs
SectionsBegin (section ∷ following ∷ others) = AreTrees section.logs × SectionsBegin (following ∷ others)

-- lines with which a text of logs may begin
pub record IsFront (lines : List (ℕ × List ℕ)) : Type 0 where
  pub sections : List RuleLogs
  pub stand : AllZip Stands lines (file_lines sections)
  pub begin : SectionsBegin sections

-- lines that are all of a text of logs
pub record IsWhole (lines : List (ℕ × List ℕ)) : Type 0 where
  pub sections : List RuleLogs
  pub stand : AllZip Stands lines (file_lines sections)
  pub trees : AllTrees sections

-- the number of the line at a place, or of the line behind the text
abbrev pub number_at : List (ℕ × List ℕ) → ℕ → ℕ → ℕ
number_at lines next place = option_map_or (λ line. line.0) (slice_get lines place) next

-- a text of logs may begin with the lines before this place and not with one more, or they are all and no
-- text of logs
pub record IsSyntaxFault (text : List ℕ) (number : ℕ) : Type 0 where
  pub place : ℕ
  pub within : place ≤ length (kept_lines text)
  pub front : IsFront (take place (kept_lines text))
  pub ends : place < length (kept_lines text) → ¬ (IsFront (take (suc place) (kept_lines text)))
  pub wanting : place ≡ length (kept_lines text) → ¬ (IsWhole (kept_lines text))
  pub here : number ≡ number_at (kept_lines text) (next_line text) place
