-- What is awaited after the lines of sections.
use Rattle.std.proofs.Common.{ℕ, ◌≡◌, List, [], ◌∷◌, ◌++◌, append-nil, map, Option, Some, None, true≢false, refl, ap, sym, ◌∙◌}
use Rattle.std.specs.Prelude.{IsSome, option_and_then, option_map}
use Rattle.std.specs.List.{AllByRecursion, AllZip, flat_map}
use Rattle.rh_log.specs.declared.log.LogNode.{LogNode}
use Rattle.rh_log_text.specs.declared.line.Line.{Line}
use Rattle.rh_log_text.specs.declared.line.Line.TheVariants.{Rule}
use Rattle.rh_log_text.specs.declared.logs.PlacedLog.{PlacedLog}
use Rattle.rh_log_text.specs.declared.logs.RuleLogs.{RuleLogs}
use Rattle.rh_log_text.specs.Faults.{LogsBegin, SectionsBegin}
use Rattle.rh_log_text.specs.Reader.{At, Awaiting, Nowhere, advance}
use Rattle.rh_log_text.specs.Reading.{line_of}
use Rattle.rh_log_text.specs.Text.{AreTrees, PlacedLine, Stands, file_lines, log_lines, node_line, section_lines}
use Rattle.rh_log_text.specs.Tree.{awaited, awaited_after, root}
use Rattle.rh_log_text.proofs.LineBack.{line_back}

abbrev pub then : Option At → (At → Option At) → Option At
then None go = None
then (Some at) go = go at

-- after lines
abbrev pub run : At → List PlacedLine → Option At
run at [] = Some at
run at (line ∷ lines) = then (advance at line.1) (λ next. run next lines)

-- after the bytes of lines
abbrev pub machine : At → List (ℕ × List ℕ) → Option At
machine at [] = Some at
machine at (line ∷ lines) = then (option_and_then (advance at) (line_of line.1)) (λ next. machine next lines)

then_same : (o : Option At) (f g : At → Option At) → ((at : At) → f at ≡ g at) → then o f ≡ then o g
then_same None f g same = refl
then_same (Some at) f g same = same at

then_then : (o : Option At) (f g : At → Option At) → then o (λ at. then (f at) g) ≡ then (then o f) g
then_then None f g = refl
then_then (Some at) f g = refl

pub run_both : (at : At) (a b : List PlacedLine) → run at (a ++ b) ≡ then (run at a) (λ next. run next b)
run_both at [] b = refl
run_both at (line ∷ a) b =
    then_same (advance at line.1) (λ next. run next (a ++ b)) (λ next. then (run next a) (λ last. run last b)) (λ next. run_both next a b)
    ∙ then_then (advance at line.1) (λ next. run next a) (λ last. run last b)

pub machine_both : (at : At) (a b : List (ℕ × List ℕ)) → machine at (a ++ b) ≡ then (machine at a) (λ next. machine next b)
machine_both at [] b = refl
machine_both at (line ∷ a) b =
    then_same (option_and_then (advance at) (line_of line.1)) (λ next. machine next (a ++ b)) (λ next. then (machine next a) (λ last. machine last b)) (λ next. machine_both next a b)
    ∙ then_then (option_and_then (advance at) (line_of line.1)) (λ next. machine next a) (λ last. machine last b)

pub stands_run : (at : At) (lines : List (ℕ × List ℕ)) (placed : List PlacedLine) → AllZip Stands lines placed → machine at lines ≡ run at placed
stands_run at [] [] all = refl
stands_run at [] (one ∷ placed) all = absurd all
stands_run at (line ∷ lines) [] all = absurd all
stands_run at (line ∷ lines) (one ∷ placed) all =
    ap (λ (read : Option Line). then (option_and_then (advance at) read) (λ next. machine next lines)) (ap line_of all.0.text ∙ line_back one.1 all.0.good)
    ∙ then_same (advance at one.1) (λ next. machine next lines) (λ next. run next placed) (λ next. stands_run next lines placed all.1)

after_node : (o : Option (List ℕ)) (nodes : List LogNode) → ((depths : List ℕ) → run (Awaiting depths) (map node_line nodes) ≡ option_map Awaiting (awaited depths nodes))
    → then (option_map Awaiting o) (λ next. run next (map node_line nodes)) ≡ option_map Awaiting (elim o as (λ _. Option (List ℕ)) [ None ↦ None | Some after ↦ awaited after nodes ])
after_node None nodes same = refl
after_node (Some depths) nodes same = same depths

pub nodes_run : (nodes : List LogNode) (depths : List ℕ) → run (Awaiting depths) (map node_line nodes) ≡ option_map Awaiting (awaited depths nodes)
nodes_run [] depths = refl
nodes_run (node ∷ nodes) [] = refl
nodes_run (node ∷ nodes) (depth ∷ depths) = after_node (awaited_after (depth ∷ depths) node.children) nodes (nodes_run nodes)

log_run : (log : PlacedLog) (after : Option (List ℕ)) → awaited root log.log.nodes ≡ after → run (Awaiting []) (log_lines log) ≡ option_map Awaiting after
log_run log after is = nodes_run log.log.nodes root ∙ ap (option_map Awaiting) is

pub logs_run : (logs : List PlacedLog) → AreTrees logs → run (Awaiting []) (flat_map log_lines logs) ≡ Some (Awaiting [])
logs_run [] trees = refl
logs_run (log ∷ logs) trees =
    run_both (Awaiting []) (log_lines log) (flat_map log_lines logs)
    ∙ ap (λ (o : Option At). then o (λ next. run next (flat_map log_lines logs))) (log_run log (Some []) trees.0)
    ∙ logs_run logs trees.1

-- lines lead somewhere
abbrev pub Leads : At → List PlacedLine → Type 0
Leads at lines = (next : At) × (run at lines ≡ Some next)

leads_both : (at next : At) (a b : List PlacedLine) → run at a ≡ Some next → Leads next b → Leads at (a ++ b)
leads_both at next a b first second =
    (second.0, run_both at a b ∙ ap (λ (o : Option At). then o (λ at. run at b)) first ∙ second.1)

no_some : ¬ (IsSome {T = List ℕ} None)
no_some some = true≢false (sym some)

begins_so : (log : PlacedLog) (after : Option (List ℕ)) → awaited root log.log.nodes ≡ after → IsSome after → Leads (Awaiting []) (log_lines log)
begins_so log None is some = absurd (no_some some)
begins_so log (Some depths) is some = (Awaiting depths, log_run log (Some depths) is)

logs_begin : (logs : List PlacedLog) → LogsBegin logs → Leads (Awaiting []) (flat_map log_lines logs)
logs_begin [] begin = (Awaiting [], refl)
logs_begin (log ∷ []) begin =
    let leads = begins_so log (awaited root log.log.nodes) refl begin in
    (leads.0, ap (run (Awaiting [])) (append-nil (log_lines log)) ∙ leads.1)
logs_begin (log ∷ following ∷ others) begin =
    leads_both (Awaiting []) (Awaiting []) (log_lines log) (flat_map log_lines (following ∷ others)) (log_run log (Some []) begin.0) (logs_begin (following ∷ others) begin.1)

-- a rule may be named here
abbrev pub IsFree : At → Type 0
IsFree Nowhere = Unit {0}
IsFree (Awaiting []) = Unit {0}
IsFree (Awaiting (depth ∷ depths)) = ⊥

pub rule_run : (at : At) → IsFree at → (name : List ℕ) (place : Option ℕ) (lines : List PlacedLine) → run at ((place, Rule name) ∷ lines) ≡ run (Awaiting []) lines
rule_run Nowhere free name place lines = refl
rule_run (Awaiting []) free name place lines = refl
rule_run (Awaiting (depth ∷ depths)) free name place lines = absurd free

pub section_run : (at : At) → IsFree at → (section : RuleLogs) → AreTrees section.logs → run at (section_lines section) ≡ Some (Awaiting [])
section_run at free section trees = rule_run at free section.name (Some section.line) (flat_map log_lines section.logs) ∙ logs_run section.logs trees

pub record LeadsFree (at : At) (lines : List PlacedLine) : Type 0 where
  pub next : At
  pub runs : run at lines ≡ Some next
  pub free : IsFree next

pub sections_run : (sections : List RuleLogs) (at : At) → IsFree at → AllByRecursion (λ section. AreTrees section.logs) sections → LeadsFree at (file_lines sections)
sections_run [] at free trees = record { next = at; runs = refl; free = free }
sections_run (section ∷ sections) at free trees =
    let rest = sections_run sections (Awaiting []) tt trees.1 in
    record {
      next = rest.next;
      runs = run_both at (section_lines section) (file_lines sections)
          ∙ ap (λ (o : Option At). then o (λ next. run next (file_lines sections))) (section_run at free section trees.0)
          ∙ rest.runs;
      free = rest.free;
    }

section_begin : (section : RuleLogs) (at : At) → IsFree at → LogsBegin section.logs → Leads at (section_lines section)
section_begin section at free begin =
    let leads = logs_begin section.logs begin in
    (leads.0, rule_run at free section.name (Some section.line) (flat_map log_lines section.logs) ∙ leads.1)

pub sections_begin : (sections : List RuleLogs) (at : At) → IsFree at → SectionsBegin sections → Leads at (file_lines sections)
sections_begin [] at free begin = (at, refl)
sections_begin (section ∷ []) at free begin =
    let leads = section_begin section at free begin in
    (leads.0, ap (run at) (append-nil (section_lines section)) ∙ leads.1)
sections_begin (section ∷ following ∷ others) at free begin =
    leads_both at (Awaiting []) (section_lines section) (file_lines (following ∷ others)) (section_run at free section begin.0)
    (sections_begin (following ∷ others) (Awaiting []) tt begin.1)
