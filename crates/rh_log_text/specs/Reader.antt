-- What the reader has read, and what it awaits.
use Rattle.std.specs.Prelude.{◌≡◌, ℕ, ◌<◌, List, [], ◌∷◌, ◌++◌, Option, Some, None, IfSome, length, map, option_map}
use Rattle.std.specs.List.{AllByRecursion, flat_map}
use Rattle.rh_log_text.specs.declared.line.Line.{Line}
use Rattle.rh_log_text.specs.declared.line.Line.TheVariants.{Rule, Log, Node}
use Rattle.rh_log_text.specs.declared.logs.RuleLogs.{RuleLogs}
use Rattle.rh_log_text.specs.declared.reader.Reader.{Reader}
use Rattle.rh_log_text.specs.declared.reader.Reader.TheVariants.{Start, Between, Within}
use Rattle.rh_log_text.specs.declared.reader.Section.{Section}
use Rattle.rh_log_text.specs.declared.reader.Unfinished.{Unfinished}
use Rattle.rh_log_text.specs.Text.{AreTrees, EndAt, PlacedLine, file_lines, log_lines, node_line}
use Rattle.rh_log_text.specs.Tree.{awaited, awaited_after, root}

-- no rule is named yet, or nodes are awaited at these depths
pub data At : Type 0 where
  Nowhere : At
  Awaiting : List ℕ → At

-- what is awaited after one more line, where it may stand there
abbrev pub advance : At → Line → Option At
advance Nowhere (Rule name) = Some (Awaiting [])
advance (Awaiting []) (Rule name) = Some (Awaiting [])
advance (Awaiting []) (Log number) = Some (Awaiting root)
advance (Awaiting depths) (Node node) = option_map Awaiting (awaited_after depths node.children)
advance at line = None

abbrev pub at_of : Reader → At
at_of Start = Nowhere
at_of (Between done section) = Awaiting []
at_of (Within done section log) = Awaiting log.waiting

abbrev pub open_lines : Section → List PlacedLine
open_lines section = (Some section.line, Rule section.name) ∷ flat_map log_lines section.logs

abbrev pub unfinished_lines : Unfinished → List PlacedLine
unfinished_lines log = (Some log.line, Log log.number) ∷ map node_line log.nodes

-- the lines that were read
abbrev pub lines_in : Reader → List PlacedLine
lines_in Start = []
lines_in (Between done section) = file_lines done ++ open_lines section
lines_in (Within done section log) = (file_lines done ++ open_lines section) ++ unfinished_lines log

-- what was read before the open section, and in it, is whole
pub record IsWholeBefore (done : List RuleLogs) (section : Section) : Type 0 where
  pub trees : AllByRecursion (λ whole. AreTrees whole.logs) done
  pub end : EndAt section.line done
  pub logs : AreTrees section.logs

-- an open log is the beginning of a tree, to which more nodes belong
pub record IsOpenLog (log : Unfinished) : Type 0 where
  pub awaits : awaited root log.nodes ≡ Some log.waiting
  pub more : 0 < length log.waiting

abbrev pub IsFine : Reader → Type 0
IsFine Start = Unit {0}
IsFine (Between done section) = IsWholeBefore done section
IsFine (Within done section log) = IsWholeBefore done section × IsOpenLog log

-- the reader has one line more, which stands at this number
pub record Reads (reader : Reader) (number : ℕ) (line : Line) (next : Reader) : Type 0 where
  pub place : Option ℕ
  pub lines : lines_in next ≡ lines_in reader ++ (place, line) ∷ []
  pub placed : IfSome place (λ told. told ≡ number)
  pub advances : advance (at_of reader) line ≡ Some (at_of next)
  pub fine : IsFine reader → IsFine next

-- a log is open
abbrev pub IsWithin : Reader → Type 0
IsWithin Start = ⊥
IsWithin (Between done section) = ⊥
IsWithin (Within done section log) = Unit {0}

-- the sections are all that was read, the last of which ends at a line
abbrev pub IsAllOf : Reader → ℕ → List RuleLogs → Type 0
IsAllOf Start next sections = sections ≡ []
IsAllOf (Between done section) next sections =
    sections ≡ done ++ record { name = section.name; line = section.line; end = next; logs = section.logs } ∷ []
IsAllOf (Within done section log) next sections = ⊥
