-- What the reader has after one more line.
use Rattle.std.proofs.Common.{ℕ, ◌≡◌, ◌<◌, List, [], ◌∷◌, ◌++◌, append_assoc, append-nil, length, Bool, true, false, true≢false, Option, Some, None, Result, Ok, Err, IfOk, arith, refl, ap, sym, ◌∙◌}
use Rattle.std.specs.Prelude.{◌==◌, MatchBool, option_map}
use Rattle.std.specs.List.{flat_map}
use Rattle.std.proofs.lemmas.Bool.{eqb-true}
use Rattle.std.proofs.lemmas.List.{map-append}
use Rattle.std.proofs.lemmas.List.Concat.{flat_map-append}
use Rattle.std.proofs.lemmas.Option.{none-some, same_Some}
use Rattle.rh_log.specs.declared.log.LogNode.{LogNode}
use Rattle.rh_list.proofs.Appended.{pushed}
use Rattle.rh_log_text.specs.declared.line.Line.TheVariants.{Rule, Log, Node}
use Rattle.rh_log_text.specs.declared.logs.LogFault.{LogFault}
use Rattle.rh_log_text.specs.declared.logs.LogFault.TheVariants.{NoMemory, Syntax}
use Rattle.rh_log_text.specs.declared.logs.PlacedLog.{PlacedLog}
use Rattle.rh_log_text.specs.declared.logs.RuleLogs.{RuleLogs}
use Rattle.rh_log_text.specs.declared.reader.Reader.TheVariants.{Start, Between, Within}
use Rattle.rh_log_text.specs.declared.reader.Section.{Section}
use Rattle.rh_log_text.specs.declared.reader.Unfinished.{Unfinished}
use Rattle.rh_log_text.specs.Reader.{Awaiting, Reads, advance, open_lines, unfinished_lines}
use Rattle.rh_log_text.specs.Text.{AreTrees, PlacedLine, file_lines, log_lines, node_line}
use Rattle.rh_log_text.specs.Tree.{IsTree, awaited, awaited_after, root}
use Rattle.rh_log_text.proofs.Going.{closed_section, end_more, file_more}

pub reads_first : (name : List ℕ) (number : ℕ) → Reads Start number (Rule name) (Between [] record { name = name; line = number; logs = [] })
reads_first name number = record {
  place = Some number;
  lines = refl;
  placed = refl;
  advances = refl;
  fine = λ start. record { trees = tt; end = tt; logs = tt };
}

pub reads_rule : (done : List RuleLogs) (section : Section) (name : List ℕ) (number : ℕ)
    → Reads (Between done section) number (Rule name) (Between (done ++ closed_section section number ∷ []) record { name = name; line = number; logs = [] })
reads_rule done section name number = record {
  place = Some number;
  lines = ap (λ (lines : List PlacedLine). lines ++ (Some number, Rule name) ∷ []) (file_more done (closed_section section number));
  placed = refl;
  advances = refl;
  fine = λ whole. record {
    trees = pushed (λ (whole : RuleLogs). AreTrees whole.logs) done (closed_section section number) whole.trees whole.logs;
    end = end_more done (closed_section section number) whole.end;
    logs = tt;
  };
}

pub reads_log : (done : List RuleLogs) (section : Section) (told number : ℕ)
    → Reads (Between done section) number (Log told) (Within done section record { line = number; number = told; nodes = []; waiting = root })
reads_log done section told number = record {
  place = Some number;
  lines = refl;
  placed = refl;
  advances = refl;
  fine = λ whole. (whole, record { awaits = refl; more = omega arith });
}

-- ---- one more node

after_first : (nodes more : List LogNode) (o : Option (List ℕ)) (after last : List ℕ) → elim o as (λ _. Option (List ℕ)) [ None ↦ None | Some depths ↦ awaited depths nodes ] ≡ Some after
    → ((depths : List ℕ) → awaited depths nodes ≡ Some after → awaited depths more ≡ Some last)
    → elim o as (λ _. Option (List ℕ)) [ None ↦ None | Some depths ↦ awaited depths more ] ≡ Some last
after_first nodes more None after last e others = absurd (none-some after e)
after_first nodes more (Some depths) after last e others = others depths e

awaited_more : (nodes : List LogNode) (node : LogNode) (depths after last : List ℕ) → awaited depths nodes ≡ Some after → awaited_after after node.children ≡ Some last
    → awaited depths (nodes ++ node ∷ []) ≡ Some last
awaited_more [] node depths after last is more =
    ap (λ (o : Option (List ℕ)). elim o as (λ _. Option (List ℕ)) [ None ↦ None | Some after ↦ Some after ]) (ap (λ (depths : List ℕ). awaited_after depths node.children) (same_Some depths after is) ∙ more)
awaited_more (first ∷ nodes) node depths after last is more =
    after_first nodes (nodes ++ node ∷ []) (awaited_after depths first.children) after last is (λ next e. awaited_more nodes node next after last e more)

advances_node : (depths : List ℕ) (node : LogNode) → advance (Awaiting depths) (Node node) ≡ option_map Awaiting (awaited_after depths node.children)
advances_node [] node = refl
advances_node (depth ∷ depths) node = refl

logs_more : (logs : List PlacedLog) (log : PlacedLog) → AreTrees logs → IsTree log.log.nodes → AreTrees (logs ++ log ∷ [])
logs_more [] log trees tree = (tree, tt)
logs_more (first ∷ logs) log trees tree = (trees.0, logs_more logs log trees.1 tree)

module _ (done : List RuleLogs) (section : Section) (log : Unfinished) (node : LogNode) (after : List ℕ) (number : ℕ) (is : awaited_after log.waiting node.children ≡ Some after) where
  abbrev nodes : List LogNode
  nodes = log.nodes ++ node ∷ []

  abbrev now : PlacedLog
  now = record { line = log.line; number = log.number; log = record { nodes = nodes } }

  now_lines : log_lines now ≡ unfinished_lines log ++ (None, Node node) ∷ []
  now_lines = ap (λ (lines : List PlacedLine). (Some log.line, Log log.number) ∷ lines) (map-append node_line log.nodes (node ∷ []))

  advances : advance (Awaiting log.waiting) (Node node) ≡ Some (Awaiting after)
  advances = advances_node log.waiting node ∙ ap (option_map Awaiting) is

  pub reads_node : 0 < length after
      → Reads (Within done section log) number (Node node) (Within done section record { line = log.line; number = log.number; nodes = nodes; waiting = after })
  reads_node more = record {
    place = None;
    lines = ap (λ (lines : List PlacedLine). (file_lines done ++ open_lines section) ++ lines) now_lines
        ∙ sym (append_assoc (file_lines done ++ open_lines section) (unfinished_lines log) ((None, Node node) ∷ []));
    placed = tt;
    advances = advances;
    fine = λ fine. (fine.0, record { awaits = awaited_more log.nodes node root log.waiting after fine.1.awaits is; more = more });
  }

  section_lines_more : open_lines record { name = section.name; line = section.line; logs = section.logs ++ now ∷ [] } ≡ open_lines section ++ (unfinished_lines log ++ (None, Node node) ∷ [])
  section_lines_more =
      ap (λ (lines : List PlacedLine). (Some section.line, Rule section.name) ∷ lines)
      (flat_map-append log_lines section.logs (now ∷ [])
      ∙ ap (λ (lines : List PlacedLine). flat_map log_lines section.logs ++ lines) (append-nil (log_lines now) ∙ now_lines))

  pub reads_last : after ≡ []
      → Reads (Within done section log) number (Node node) (Between done record { name = section.name; line = section.line; logs = section.logs ++ now ∷ [] })
  reads_last none = record {
    place = None;
    lines = ap (λ (lines : List PlacedLine). file_lines done ++ lines) section_lines_more
        ∙ sym (append_assoc (file_lines done) (open_lines section) (unfinished_lines log ++ (None, Node node) ∷ []))
        ∙ sym (append_assoc (file_lines done ++ open_lines section) (unfinished_lines log) ((None, Node node) ∷ []));
    placed = tt;
    advances = advances ∙ ap (λ (depths : List ℕ). Some (Awaiting depths)) none;
    fine = λ fine. record {
      trees = fine.0.trees;
      end = fine.0.end;
      logs = logs_more section.logs now fine.0.logs (awaited_more log.nodes node root log.waiting after fine.1.awaits is ∙ ap Some none);
    };
  }

-- ---- tests

pub holds_so : (P Q : Type 0) (told : Bool) → told ≡ true → MatchBool told P Q → P
holds_so P Q true is matched = matched
holds_so P Q false is matched = absurd (true≢false (sym is))

pub fails_so : (P Q : Type 0) (told : Bool) → told ≡ false → MatchBool told P Q → Q
fails_so P Q false is matched = matched
fails_so P Q true is matched = absurd (true≢false is)

pub none_left : (depths : List ℕ) → (length depths == 0) ≡ true → depths ≡ []
none_left [] is = refl
none_left (depth ∷ depths) is = absurd (omega (arith, eqb-true (length (depth ∷ depths)) 0 is))

pub some_left : (depths : List ℕ) → (length depths == 0) ≡ false → 0 < length depths
some_left [] is = absurd (true≢false is)
some_left (depth ∷ depths) is = omega arith

pub empty_is : (bytes : List ℕ) → (length bytes == 0) ≡ true → bytes ≡ []
empty_is bytes is = none_left bytes is

line_told : ℕ → LogFault → ℕ
line_told other (Syntax number) = number
line_told other NoMemory = other

-- one fault tells one line
pub same_place : {T : Type 0} (number told : ℕ) → ◌≡◌ {A = Result T LogFault} (Err (Syntax number)) (Err (Syntax told)) → number ≡ told
unfolding line_told
same_place {T} number told e = ap (λ (r : Result T LogFault). elim r as (λ _. ℕ) [ Ok value ↦ number | Err fault ↦ line_told number fault ]) e

pub all_read : {T : Type 0} {P Q : T → Type 0} → ((value : T) → P value → Q value) → (r : Result T LogFault) → IfOk r P → IfOk r Q
all_read weaker (Ok value) told = weaker value told
all_read weaker (Err fault) told = told
