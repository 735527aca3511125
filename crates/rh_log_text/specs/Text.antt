-- The text of logs.
use Rattle.std.specs.Prelude.{◌≡◌, ℕ, ◌<◌, ◌^◌, List, [], ◌∷◌, ◌++◌, Option, Some, None, map, codes, IfSome, IsTrue}
use Rattle.std.specs.Fmt.{decimal}
use Rattle.std.specs.List.{AllByRecursion, AllZip, flat_map}
use Rattle.rh_il.specs.Name.{is_name}
use Rattle.rh_log.specs.declared.log.LogNode.{LogNode}
use Rattle.rh_log_text.specs.declared.logs.PlacedLog.{PlacedLog}
use Rattle.rh_log_text.specs.declared.logs.RuleLogs.{RuleLogs}
use Rattle.rh_log_text.specs.declared.line.Line.{Line}
use Rattle.rh_log_text.specs.declared.line.Line.TheVariants.{Rule, Log, Node}
use Rattle.rh_log_text.specs.Lines.{kept_lines, next_line}
use Rattle.rh_log_text.specs.Tree.{IsTree}

-- the bytes of a line: `rule NAME`, `log NUMBER`, or `CLAUSE CHILDREN`
abbrev pub line_text : Line → List ℕ
line_text (Rule name) = codes "rule " ++ name
line_text (Log number) = codes "log " ++ decimal number
line_text (Node node) = decimal node.clause ++ codes " " ++ decimal node.children

-- a line with the number at which it stands, where that is kept
abbrev pub PlacedLine : Type 0
PlacedLine = Option ℕ × Line

abbrev pub node_line : LogNode → PlacedLine
node_line node = (None, Node node)

-- a log is a line, and a line for each of its nodes
abbrev pub log_lines : PlacedLog → List PlacedLine
log_lines log = (Some log.line, Log log.number) ∷ map node_line log.log.nodes

-- the logs of a rule are a line with its name, and their lines
abbrev pub section_lines : RuleLogs → List PlacedLine
section_lines section = (Some section.line, Rule section.name) ∷ flat_map log_lines section.logs

abbrev pub file_lines : List RuleLogs → List PlacedLine
file_lines sections = flat_map section_lines sections

-- the name is a name, and the numbers are of 32 bits
abbrev pub IsLine : Line → Type 0
IsLine (Rule name) = IsTrue (is_name name)
IsLine (Log number) = number < 2 ^ 32
IsLine (Node node) = (node.clause < 2 ^ 32) × (node.children < 2 ^ 32)

-- a line of a text, with its number, is this one
pub record Stands (line : ℕ × List ℕ) (placed : PlacedLine) : Type 0 where
  pub text : line.1 ≡ line_text placed.1
  pub good : IsLine placed.1
  pub place : IfSome placed.0 (λ number. number ≡ line.0)

-- a section ends at the next one, and the last at the line behind the text
abbrev pub EndAt : ℕ → List RuleLogs → Type 0
EndAt next [] = Unit {0}
EndAt next (section ∷ []) = section.end ≡ next
EndAt next (section ∷ following ∷ others) = (section.end ≡ following.line) × EndAt next (following ∷ others)

abbrev pub AreTrees : List PlacedLog → Type 0
AreTrees logs = AllByRecursion (λ log. IsTree log.log.nodes) logs

-- each log of each section is a tree
abbrev pub AllTrees : List RuleLogs → Type 0
AllTrees sections = AllByRecursion (λ section. AreTrees section.logs) sections

-- the text consists of these sections, but for the lines that are skipped; each log is a tree
pub record IsLogText (text : List ℕ) (sections : List RuleLogs) : Type 0 where
  pub lines : AllZip Stands (kept_lines text) (file_lines sections)
  pub end : EndAt (next_line text) sections
  pub trees : AllTrees sections

-- each line, ended by LF
abbrev pub lines_text : List PlacedLine → List ℕ
lines_text lines = flat_map (λ line. line_text line.1 ++ codes "\n") lines

-- the text that is printed
abbrev pub logs_text : List RuleLogs → List ℕ
logs_text sections = lines_text (file_lines sections)
