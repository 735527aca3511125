-- What is printed is a text of the same logs.
use Rattle.std.proofs.Common.{ℕ, suc, ◌≡◌, ◌<◌, ◌+◌, ◌^◌, List, [], ◌∷◌, ◌++◌, append_assoc, append-nil, map, length, take, true, false, ◌&&◌, Option, Some, None, arith, refl, ap, sym, subst, ◌∙◌}
use Rattle.std.specs.Prelude.{IfSome, codes, nat_le, option_map}
use Rattle.std.specs.Char.{is_ascii_alphabetic}
use Rattle.std.specs.Fmt.{decimal}
use Rattle.std.specs.List.{AllZip, flat_map, list_all}
use Rattle.std.specs.Str.Parse.{AllDigits, IsNumeral}
use Rattle.std.proofs.Math.Seq.{take-length}
use Rattle.std.proofs.lemmas.Bool.{and_parts, false≢true, ne_eqb}
use Rattle.std.proofs.lemmas.Fmt.{decimal_is_IsNumeral}
use Rattle.std.proofs.lemmas.List.{length-append}
use Rattle.std.proofs.lemmas.Str.Parse.{digit_from_value}
use Rattle.rh_il.specs.Name.{is_name, is_word_byte}
use Rattle.rh_log.specs.declared.log.LogNode.{LogNode}
use Rattle.rh_log_text.specs.declared.line.Line.{Line}
use Rattle.rh_log_text.specs.declared.line.Line.TheVariants.{Rule, Log, Node}
use Rattle.rh_log_text.specs.declared.logs.PlacedLog.{PlacedLog}
use Rattle.rh_log_text.specs.declared.logs.RuleLogs.{RuleLogs}
use Rattle.rh_log_text.specs.Lines.{is_comment, kept, lines_of, numbered}
use Rattle.rh_log_text.specs.Same.{AreLines, AreSame, BareLog, IsTextOfSame, bare, bare_log}
use Rattle.rh_log_text.specs.Text.{AllTrees, AreTrees, EndAt, IsLine, PlacedLine, Stands, file_lines, line_text, lines_text, log_lines, logs_text, node_line, section_lines}
use Rattle.rh_log_text.proofs.Cutting.{FreeOf, lines_cut}
use Rattle.rh_log_text.proofs.Going.{kept_line}

-- ---- a line has no LF, and is not skipped

word_free : (bytes : List ℕ) → list_all is_word_byte bytes ≡ true → FreeOf 10 bytes
word_free [] e = tt
word_free (byte ∷ bytes) e =
    let parts = and_parts (is_word_byte byte) (list_all is_word_byte bytes) e in
    (ne_eqb byte 10 (λ same. false≢true (subst (λ n. is_word_byte n ≡ true) same parts.0)), word_free bytes parts.1)

name_free : (name : List ℕ) → is_name name ≡ true → FreeOf 10 name
name_free [] e = absurd (false≢true e)
name_free (first ∷ rest) e =
    let parts = and_parts (is_ascii_alphabetic first) (nat_le (length rest) 31 && list_all is_word_byte rest) e in
    let behind = and_parts (nat_le (length rest) 31) (list_all is_word_byte rest) parts.1 in
    (ne_eqb first 10 (λ same. false≢true (subst (λ n. is_ascii_alphabetic n ≡ true) same parts.0)), word_free rest behind.1)

digits_free : (word : List ℕ) → AllDigits 10 word → FreeOf 10 word
digits_free [] digits = tt
digits_free (byte ∷ bytes) digits =
    let range = digit_from_value byte digits.0 in
    (ne_eqb byte 10 (λ e. absurd (omega (arith, e, range.0, range.1))), digits_free bytes digits.1)

number_free : (n : ℕ) → n < 2 ^ 32 → FreeOf 10 (decimal n)
number_free n small = digits_free (decimal n) (decimal_is_IsNumeral n (omega (arith, small))).0.1

free_both : (a b : List ℕ) → FreeOf 10 a → FreeOf 10 b → FreeOf 10 (a ++ b)
free_both [] b first second = second
free_both (byte ∷ a) b first second = (first.0, free_both a b first.1 second)

line_free : (line : Line) → IsLine line → FreeOf 10 (line_text line)
line_free (Rule name) good = free_both (codes "rule ") name (refl, (refl, (refl, (refl, (refl, tt))))) (name_free name good)
line_free (Log number) good = free_both (codes "log ") (decimal number) (refl, (refl, (refl, (refl, tt)))) (number_free number good)
line_free (Node node) good =
    free_both (decimal node.clause ++ codes " ") (decimal node.children) (free_both (decimal node.clause) (codes " ") (number_free node.clause good.0) (refl, tt)) (number_free node.children good.1)

digits_kept : (word rest : List ℕ) → 0 < length word → AllDigits 10 word → is_comment (word ++ rest) ≡ false
digits_kept [] rest some digits = absurd (omega (arith, some))
digits_kept (byte ∷ bytes) rest some digits =
    let range = digit_from_value byte digits.0 in ne_eqb byte 35 (λ e. absurd (omega (arith, e, range.0, range.1)))

line_kept : (line : Line) → IsLine line → is_comment (line_text line) ≡ false
line_kept (Rule name) good = refl
line_kept (Log number) good = refl
line_kept (Node node) good =
    let numeral : IsNumeral 10 (decimal node.clause) = (decimal_is_IsNumeral node.clause (omega (arith, good.0))).0 in
    ap is_comment (append_assoc (decimal node.clause) (codes " ") (decimal node.children))
    ∙ digits_kept (decimal node.clause) (codes " " ++ decimal node.children) numeral.0 numeral.1

-- ---- the lines of the text

abbrev texts : List PlacedLine → List (List ℕ)
texts lines = map (λ line. line_text line.1) lines

text_lines : (lines : List PlacedLine) → AreLines lines → lines_of (lines_text lines) ≡ texts lines
text_lines [] good = refl
text_lines (line ∷ lines) good =
    ap lines_of (append_assoc (line_text line.1) (codes "\n") (lines_text lines))
    ∙ lines_cut (line_text line.1) (lines_text lines) (line_free line.1 good.0)
    ∙ ap (λ (others : List (List ℕ)). line_text line.1 ∷ others) (text_lines lines good.1)

kept_texts : (number : ℕ) (lines : List PlacedLine) → AreLines lines → kept (numbered number (texts lines)) ≡ numbered number (texts lines)
kept_texts number [] good = refl
kept_texts number (line ∷ lines) good =
    kept_line number (line_text line.1) (texts lines) (line_kept line.1 good.0)
    ∙ ap (λ (others : List (ℕ × List ℕ)). (number, line_text line.1) ∷ others) (kept_texts (number + 1) lines good.1)

-- lines with numbers from this one on
abbrev at_lines : ℕ → List PlacedLine → List PlacedLine
at_lines number [] = []
at_lines number (line ∷ lines) = (option_map (λ _. number) line.0, line.1) ∷ at_lines (number + 1) lines

here : (number : ℕ) (place : Option ℕ) → IfSome (option_map (λ _. number) place) (λ told. told ≡ number)
here number None = tt
here number (Some place) = refl

all_stand : (number : ℕ) (lines : List PlacedLine) → AreLines lines → AllZip Stands (numbered number (texts lines)) (at_lines number lines)
all_stand number [] good = tt
all_stand number (line ∷ lines) good = (record { text = refl; good = good.0; place = here number line.0 }, all_stand (number + 1) lines good.1)

at_both : (number : ℕ) (a b : List PlacedLine) → at_lines number (a ++ b) ≡ at_lines number a ++ at_lines (number + length a) b
at_both number [] b = ap (λ n. at_lines n b) (omega arith)
at_both number (line ∷ a) b =
    ap (λ (lines : List PlacedLine). (option_map (λ _. number) line.0, line.1) ∷ lines)
    (at_both (number + 1) a b ∙ ap (λ n. at_lines (number + 1) a ++ at_lines n b) (omega arith))

-- ---- the sections at these lines

abbrev log_at : ℕ → PlacedLog → PlacedLog
log_at number log = record { line = number; number = log.number; log = log.log }

abbrev logs_at : ℕ → List PlacedLog → List PlacedLog
logs_at number [] = []
logs_at number (log ∷ logs) = log_at number log ∷ logs_at (number + length (log_lines log)) logs

abbrev section_at : ℕ → RuleLogs → RuleLogs
section_at number section = record {
  name = section.name;
  line = number;
  end = number + length (section_lines section);
  logs = logs_at (number + 1) section.logs;
}

abbrev sections_at : ℕ → List RuleLogs → List RuleLogs
sections_at number [] = []
sections_at number (section ∷ sections) = section_at number section ∷ sections_at (number + length (section_lines section)) sections

nodes_lines : (number : ℕ) (nodes : List LogNode) → map node_line nodes ≡ at_lines number (map node_line nodes)
nodes_lines number [] = refl
nodes_lines number (node ∷ nodes) = ap (λ (lines : List PlacedLine). node_line node ∷ lines) (nodes_lines (number + 1) nodes)

log_at_lines : (number : ℕ) (log : PlacedLog) → log_lines (log_at number log) ≡ at_lines number (log_lines log)
log_at_lines number log = ap (λ (lines : List PlacedLine). (Some number, Log log.number) ∷ lines) (nodes_lines (number + 1) log.log.nodes)

logs_at_lines : (number : ℕ) (logs : List PlacedLog) → flat_map log_lines (logs_at number logs) ≡ at_lines number (flat_map log_lines logs)
logs_at_lines number [] = refl
logs_at_lines number (log ∷ logs) =
    let behind = number + length (log_lines log) in
    ap (λ (lines : List PlacedLine). lines ++ flat_map log_lines (logs_at behind logs)) (log_at_lines number log)
    ∙ ap (λ (lines : List PlacedLine). at_lines number (log_lines log) ++ lines) (logs_at_lines behind logs)
    ∙ sym (at_both number (log_lines log) (flat_map log_lines logs))

section_at_lines : (number : ℕ) (section : RuleLogs) → section_lines (section_at number section) ≡ at_lines number (section_lines section)
section_at_lines number section = ap (λ (lines : List PlacedLine). (Some number, Rule section.name) ∷ lines) (logs_at_lines (number + 1) section.logs)

sections_at_lines : (number : ℕ) (sections : List RuleLogs) → file_lines (sections_at number sections) ≡ at_lines number (file_lines sections)
sections_at_lines number [] = refl
sections_at_lines number (section ∷ sections) =
    let behind = number + length (section_lines section) in
    ap (λ (lines : List PlacedLine). lines ++ file_lines (sections_at behind sections)) (section_at_lines number section)
    ∙ ap (λ (lines : List PlacedLine). at_lines number (section_lines section) ++ lines) (sections_at_lines behind sections)
    ∙ sym (at_both number (section_lines section) (file_lines sections))

logs_at_trees : (number : ℕ) (logs : List PlacedLog) → AreTrees logs → AreTrees (logs_at number logs)
logs_at_trees number [] trees = tt
logs_at_trees number (log ∷ logs) trees = (trees.0, logs_at_trees (number + length (log_lines log)) logs trees.1)

sections_at_trees : (number : ℕ) (sections : List RuleLogs) → AllTrees sections → AllTrees (sections_at number sections)
sections_at_trees number [] trees = tt
sections_at_trees number (section ∷ sections) trees =
    (logs_at_trees (number + 1) section.logs trees.0, sections_at_trees (number + length (section_lines section)) sections trees.1)

sections_at_end : (number : ℕ) (sections : List RuleLogs) → EndAt (number + length (file_lines sections)) (sections_at number sections)
sections_at_end number [] = tt
sections_at_end number (section ∷ []) = ap (λ (lines : List PlacedLine). number + length lines) (sym (append-nil (section_lines section)))
sections_at_end number (section ∷ following ∷ others) =
    let behind = number + length (section_lines section) in (
      refl,
      subst (λ n. EndAt n (sections_at behind (following ∷ others)))
          (omega (arith, length-append (section_lines section) (file_lines (following ∷ others))))
          (sections_at_end behind (following ∷ others)),
    )

logs_at_same : (number : ℕ) (logs : List PlacedLog) → map bare_log (logs_at number logs) ≡ map bare_log logs
logs_at_same number [] = refl
logs_at_same number (log ∷ logs) = ap (λ (others : List BareLog). bare_log log ∷ others) (logs_at_same (number + length (log_lines log)) logs)

sections_at_same : (number : ℕ) (sections : List RuleLogs) → AreSame (sections_at number sections) sections
sections_at_same number [] = refl
sections_at_same number (section ∷ sections) =
    let behind = number + length (section_lines section) in
    ap (λ (logs : List BareLog). (section.name, logs) ∷ map bare (sections_at behind sections)) (logs_at_same (number + 1) section.logs)
    ∙ ap (λ (others : List (List ℕ × List BareLog)). bare section ∷ others) (sections_at_same behind sections)

length_texts : (lines : List PlacedLine) → length (texts lines) ≡ length lines
length_texts [] = refl
length_texts (line ∷ lines) = ap suc (length_texts lines)

-- ---- the law

pub printed_is_text : (sections : List RuleLogs) → AreLines (file_lines sections) → AllTrees sections → IsTextOfSame (logs_text sections) sections
printed_is_text sections good trees =
    let lines : lines_of (logs_text sections) ≡ texts (file_lines sections) = text_lines (file_lines sections) good in
    record {
      placed = sections_at 1 sections;
      same = sections_at_same 1 sections;
      is = record {
        lines = subst (λ (all : List (ℕ × List ℕ)). AllZip Stands all (file_lines (sections_at 1 sections)))
            (sym (ap (λ (all : List (List ℕ)). kept (numbered 1 all)) lines ∙ kept_texts 1 (file_lines sections) good))
            (subst (AllZip Stands (numbered 1 (texts (file_lines sections)))) (sym (sections_at_lines 1 sections)) (all_stand 1 (file_lines sections) good));
        end = subst (λ n. EndAt n (sections_at 1 sections)) (omega (arith, ap length lines, length_texts (file_lines sections))) (sections_at_end 1 sections);
        trees = sections_at_trees 1 sections trees;
      };
    }

-- all sections are printed
pub all_printed : (text : List ℕ) (sections : List RuleLogs) (count : ℕ) → count ≡ length sections → text ≡ logs_text (take count sections) → AreLines (file_lines (take count sections)) → AllTrees sections
    → IsTextOfSame text sections
all_printed text sections count all printed good trees =
    let whole : take count sections ≡ sections = ap (λ n. take n sections) all ∙ take-length sections in
    subst (λ (bytes : List ℕ). IsTextOfSame bytes sections) (sym (printed ∙ ap logs_text whole))
    (printed_is_text sections (subst (λ (sections : List RuleLogs). AreLines (file_lines sections)) whole good) trees)
