-- A text consists of one list of sections at most.
use Rattle.std.proofs.Common.{ℕ, ◌≡◌, List, [], ◌∷◌, ◌++◌, append_assoc, map, Option, Some, None, refl, ap, sym, subst, ◌∙◌}
use Rattle.std.specs.List.{AllZip, flat_map}
use Rattle.rh_log.specs.declared.log.LogNode.{LogNode}
use Rattle.rh_log_text.specs.declared.line.Line.{Line}
use Rattle.rh_log_text.specs.declared.line.Line.TheVariants.{Rule, Log, Node}
use Rattle.rh_log_text.specs.declared.logs.PlacedLog.{PlacedLog}
use Rattle.rh_log_text.specs.declared.logs.RuleLogs.{RuleLogs}
use Rattle.rh_log_text.specs.Lines.{kept_lines, next_line}
use Rattle.rh_log_text.specs.Reading.{line_of}
use Rattle.rh_log_text.specs.Text.{EndAt, IsLogText, PlacedLine, Stands, file_lines, log_lines, node_line}
use Rattle.rh_log_text.proofs.LineBack.{line_back}

-- what lines hold, from their end on: nodes before the first log, logs before the first rule, and sections
record Parts : Type 0 where
  nodes : List LogNode
  logs : List PlacedLog
  sections : List RuleLogs

abbrev first_line : ℕ → List RuleLogs → ℕ
first_line next [] = next
first_line next (section ∷ sections) = section.line

abbrev onto : ℕ → ℕ → Line → Parts → Parts
onto next number (Rule name) parts = record {
  nodes = [];
  logs = [];
  sections = record { name = name; line = number; end = first_line next parts.sections; logs = parts.logs } ∷ parts.sections;
}
onto next number (Log told) parts = record {
  nodes = [];
  logs = record { line = number; number = told; log = record { nodes = parts.nodes } } ∷ parts.logs;
  sections = parts.sections;
}
onto next number (Node node) parts = record { nodes = node ∷ parts.nodes; logs = parts.logs; sections = parts.sections }

abbrev onto_read : ℕ → ℕ → Option Line → Parts → Parts
onto_read next number None parts = parts
onto_read next number (Some line) parts = onto next number line parts

abbrev parts_of : ℕ → List (ℕ × List ℕ) → Parts
parts_of next [] = record { nodes = []; logs = []; sections = [] }
parts_of next (line ∷ lines) = onto_read next line.0 (line_of line.1) (parts_of next lines)

-- a section that ends at this line, before others
abbrev ended : RuleLogs → List RuleLogs → ℕ → Parts
ended section sections end = record {
  nodes = [];
  logs = [];
  sections = record { name = section.name; line = section.line; end = end; logs = section.logs } ∷ sections;
}

module _ (next : ℕ) where
  one_part : (line : ℕ × List ℕ) (lines : List (ℕ × List ℕ)) (one : PlacedLine) → Stands line one → parts_of next (line ∷ lines) ≡ onto next line.0 one.1 (parts_of next lines)
  one_part line lines one stands =
      ap (λ (read : Option Line). onto_read next line.0 read (parts_of next lines)) (ap line_of stands.text ∙ line_back one.1 stands.good)

  nodes_part : (lines : List (ℕ × List ℕ)) (nodes : List LogNode) (behind : List PlacedLine) (logs : List PlacedLog) (sections : List RuleLogs) → AllZip Stands lines (map node_line nodes ++ behind)
      → ((rest : List (ℕ × List ℕ)) → AllZip Stands rest behind → parts_of next rest ≡ record { nodes = []; logs = logs; sections = sections })
      → parts_of next lines ≡ record { nodes = nodes; logs = logs; sections = sections }
  nodes_part lines [] behind logs sections all others = others lines all
  nodes_part [] (node ∷ nodes) behind logs sections all others = absurd all
  nodes_part (line ∷ lines) (node ∷ nodes) behind logs sections all others =
      one_part line lines (node_line node) all.0 ∙ ap (onto next line.0 (Node node)) (nodes_part lines nodes behind logs sections all.1 others)

  logs_part : (lines : List (ℕ × List ℕ)) (logs : List PlacedLog) (behind : List PlacedLine) (sections : List RuleLogs) → AllZip Stands lines (flat_map log_lines logs ++ behind)
      → ((rest : List (ℕ × List ℕ)) → AllZip Stands rest behind → parts_of next rest ≡ record { nodes = []; logs = []; sections = sections })
      → parts_of next lines ≡ record { nodes = []; logs = logs; sections = sections }
  logs_part lines [] behind sections all others = others lines all
  logs_part [] (log ∷ logs) behind sections all others = absurd all
  logs_part (line ∷ lines) (log ∷ logs) behind sections all others =
      one_part line lines (Some log.line, Log log.number) all.0
      ∙ ap (onto next line.0 (Log log.number))
      (nodes_part lines log.log.nodes (flat_map log_lines logs ++ behind) logs sections
      (subst (AllZip Stands lines) (append_assoc (map node_line log.log.nodes) (flat_map log_lines logs) behind) all.1)
      (λ rest stand. logs_part rest logs behind sections stand others))
      ∙ ap (λ n. onto next n (Log log.number) record { nodes = log.log.nodes; logs = logs; sections = sections }) (sym all.0.place)

  end_is : (section : RuleLogs) (sections : List RuleLogs) → EndAt next (section ∷ sections) → first_line next sections ≡ section.end
  end_is section [] ends = sym ends
  end_is section (following ∷ others) ends = sym ends.0

  end_behind : (section : RuleLogs) (sections : List RuleLogs) → EndAt next (section ∷ sections) → EndAt next sections
  end_behind section [] ends = tt
  end_behind section (following ∷ others) ends = ends.1

  sections_part : (lines : List (ℕ × List ℕ)) (sections : List RuleLogs) → AllZip Stands lines (file_lines sections) → EndAt next sections
      → parts_of next lines ≡ record { nodes = []; logs = []; sections = sections }
  sections_part [] [] all ends = refl
  sections_part (line ∷ lines) [] all ends = absurd all
  sections_part [] (section ∷ sections) all ends = absurd all
  sections_part (line ∷ lines) (section ∷ sections) all ends =
      one_part line lines (Some section.line, Rule section.name) all.0
      ∙ ap (onto next line.0 (Rule section.name))
      (logs_part lines section.logs (file_lines sections) sections all.1 (λ rest stand. sections_part rest sections stand (end_behind section sections ends)))
      ∙ ap (λ n. onto next n (Rule section.name) record { nodes = []; logs = section.logs; sections = sections }) (sym all.0.place)
      ∙ ap (ended section sections) (end_is section sections ends)

pub only : (text : List ℕ) (a b : List RuleLogs) → IsLogText text a → IsLogText text b → a ≡ b
only text a b first second =
    ap (λ (parts : Parts). parts.sections)
    (sym (sections_part (next_line text) (kept_lines text) a first.lines first.end) ∙ sections_part (next_line text) (kept_lines text) b second.lines second.end)
