-- How the reader goes over the lines of a text.
use Rattle.std.proofs.Common.{ℕ, suc, ◌≡◌, ◌<◌, ◌+◌, List, [], ◌∷◌, ◌++◌, append_assoc, append-nil, length, take, Bool, true, false, Option, Some, None, Result, Ok, Err, IfOk, arith, refl, ap, sym, subst, ◌∙◌}
use Rattle.std.specs.Prelude.{IsSome, cond, not, slice_get, option_and_then, option_map}
use Rattle.std.specs.Option.{option_map_or}
use Rattle.std.specs.List.{AllByRecursion, AllZip, flat_map}
use Rattle.std.proofs.Math.Seq.{take-append_seam}
use Rattle.std.proofs.lemmas.List.{length-append}
use Rattle.std.proofs.lemmas.List.Concat.{flat_map-append}
use Rattle.std.proofs.lemmas.Option.{none-some, same_Some}
use Rattle.rh_list.proofs.Appended.{pushed}
use Rattle.rh_log_text.specs.declared.line.Line.{Line}
use Rattle.rh_log_text.specs.declared.line.Line.TheVariants.{Rule}
use Rattle.rh_log_text.specs.declared.logs.LogFault.{LogFault}
use Rattle.rh_log_text.specs.declared.logs.LogFault.TheVariants.{NoMemory, Syntax}
use Rattle.rh_log_text.specs.declared.logs.PlacedLog.{PlacedLog}
use Rattle.rh_log_text.specs.declared.logs.RuleLogs.{RuleLogs}
use Rattle.rh_log_text.specs.declared.reader.Reader.{Reader}
use Rattle.rh_log_text.specs.declared.reader.Reader.TheVariants.{Start, Between, Within}
use Rattle.rh_log_text.specs.declared.reader.Section.{Section}
use Rattle.rh_log_text.specs.declared.reader.Unfinished.{Unfinished}
use Rattle.rh_log_text.specs.Faults.{IsFront, IsSyntaxFault, IsWhole, LogsBegin, SectionsBegin, number_at}
use Rattle.rh_log_text.specs.Lines.{is_comment, kept, kept_lines, lines_of, next_line, numbered}
use Rattle.rh_log_text.specs.Reader.{At, Awaiting, Nowhere, IsAllOf, IsFine, IsWholeBefore, IsWithin, Reads, advance, at_of, lines_in, open_lines, unfinished_lines}
use Rattle.rh_log_text.specs.Reading.{line_of}
use Rattle.rh_log_text.specs.Same.{IsAnswer}
use Rattle.rh_log_text.specs.Text.{AreTrees, EndAt, IsLogText, PlacedLine, Stands, file_lines, log_lines, section_lines}
use Rattle.rh_log_text.specs.Tree.{BeginsTree, root}
use Rattle.rh_log_text.proofs.Only.{only}
use Rattle.rh_log_text.proofs.LineBack.{line_is}
use Rattle.rh_log_text.proofs.Machine.{IsFree, machine, machine_both, logs_run, nodes_run, rule_run, run, run_both, sections_begin, sections_run, stands_run, then}

-- the reader has read these lines
pub record IsRead (seen : List (ℕ × List ℕ)) (reader : Reader) : Type 0 where
  pub stand : AllZip Stands seen (lines_in reader)
  pub fine : IsFine reader

-- ---- what is awaited after them

before_run : (done : List RuleLogs) (section : Section) → IsWholeBefore done section → run Nowhere (file_lines done ++ open_lines section) ≡ Some (Awaiting [])
before_run done section whole =
    let leads = sections_run done Nowhere tt whole.trees in
    run_both Nowhere (file_lines done) (open_lines section)
    ∙ ap (λ (o : Option At). then o (λ next. run next (open_lines section))) leads.runs
    ∙ rule_run leads.next leads.free section.name (Some section.line) (flat_map log_lines section.logs)
    ∙ logs_run section.logs whole.logs

pub fine_run : (reader : Reader) → IsFine reader → run Nowhere (lines_in reader) ≡ Some (at_of reader)
fine_run Start fine = refl
fine_run (Between done section) fine = before_run done section fine
fine_run (Within done section log) fine =
    run_both Nowhere (file_lines done ++ open_lines section) (unfinished_lines log)
    ∙ ap (λ (o : Option At). then o (λ next. run next (unfinished_lines log))) (before_run done section fine.0)
    ∙ nodes_run log.nodes root ∙ ap (option_map Awaiting) fine.1.awaits

pub read_runs : (seen : List (ℕ × List ℕ)) (reader : Reader) → IsRead seen reader → machine Nowhere seen ≡ Some (at_of reader)
read_runs seen reader read = stands_run Nowhere seen (lines_in reader) read.stand ∙ fine_run reader read.fine

-- ---- lines with which a text may begin

abbrev pub closed_section : Section → ℕ → RuleLogs
closed_section section end = record { name = section.name; line = section.line; end = end; logs = section.logs }

pub file_more : (done : List RuleLogs) (section : RuleLogs) → file_lines (done ++ section ∷ []) ≡ file_lines done ++ section_lines section
file_more done section = flat_map-append section_lines done (section ∷ []) ∙ ap (λ (lines : List PlacedLine). file_lines done ++ lines) (append-nil (section_lines section))

whole_logs : (logs : List PlacedLog) → AreTrees logs → LogsBegin logs
whole_logs [] trees = tt
whole_logs (log ∷ []) trees = subst (λ (o : Option (List ℕ)). IsSome o) (sym trees.0) refl
whole_logs (log ∷ following ∷ others) trees = (trees.0, whole_logs (following ∷ others) trees.1)

more_log : (logs : List PlacedLog) (log : PlacedLog) → AreTrees logs → BeginsTree log.log.nodes → LogsBegin (logs ++ log ∷ [])
more_log [] log trees begins = begins
more_log (first ∷ []) log trees begins = (trees.0, begins)
more_log (first ∷ second ∷ others) log trees begins = (trees.0, more_log (second ∷ others) log trees.1 begins)

more_section : (done : List RuleLogs) (section : RuleLogs) → AllByRecursion (λ whole. AreTrees whole.logs) done → LogsBegin section.logs → SectionsBegin (done ++ section ∷ [])
more_section [] section trees begin = begin
more_section (first ∷ []) section trees begin = (trees.0, begin)
more_section (first ∷ second ∷ others) section trees begin = (trees.0, more_section (second ∷ others) section trees.1 begin)

abbrev pub open_log : Unfinished → PlacedLog
open_log log = record { line = log.line; number = log.number; log = record { nodes = log.nodes } }

abbrev with_log : Section → Unfinished → RuleLogs
with_log section log = record { name = section.name; line = section.line; end = 0; logs = section.logs ++ open_log log ∷ [] }

within_lines : (done : List RuleLogs) (section : Section) (log : Unfinished) → file_lines (done ++ with_log section log ∷ []) ≡ (file_lines done ++ open_lines section) ++ unfinished_lines log
within_lines done section log =
    file_more done (with_log section log)
    ∙ ap (λ (lines : List PlacedLine). file_lines done ++ (Some section.line, Rule section.name) ∷ lines)
    (flat_map-append log_lines section.logs (open_log log ∷ []) ∙ ap (λ (lines : List PlacedLine). flat_map log_lines section.logs ++ lines) (append-nil (unfinished_lines log)))
    ∙ sym (append_assoc (file_lines done) (open_lines section) (unfinished_lines log))

pub read_front : (seen : List (ℕ × List ℕ)) (reader : Reader) → IsRead seen reader → IsFront seen
read_front seen Start read = record { sections = []; stand = read.stand; begin = tt }
read_front seen (Between done section) read = record {
  sections = done ++ closed_section section 0 ∷ [];
  stand = subst (AllZip Stands seen) (sym (file_more done (closed_section section 0))) read.stand;
  begin = more_section done (closed_section section 0) read.fine.trees (whole_logs section.logs read.fine.logs);
}
read_front seen (Within done section log) read = record {
  sections = done ++ with_log section log ∷ [];
  stand = subst (AllZip Stands seen) (sym (within_lines done section log)) read.stand;
  begin = more_section done (with_log section log) read.fine.0.trees
      (more_log section.logs (open_log log) read.fine.0.logs (subst (λ (o : Option (List ℕ)). IsSome o) (sym read.fine.1.awaits) refl));
}

-- ---- one more line

-- lines lead somewhere
record LeadsOn (lines : List (ℕ × List ℕ)) : Type 0 where
  next : At
  runs : machine Nowhere lines ≡ Some next

front_runs : (lines : List (ℕ × List ℕ)) → IsFront lines → LeadsOn lines
front_runs lines front =
    let leads = sections_begin front.sections Nowhere tt front.begin in
    record { next = leads.0; runs = stands_run Nowhere lines (file_lines front.sections) front.stand ∙ leads.1 }

-- a line that is refused stops the machine, whatever is behind it
no_run : (seen others : List (ℕ × List ℕ)) (reader : Reader) (number : ℕ) (bytes : List ℕ) → IsRead seen reader → option_and_then (advance (at_of reader)) (line_of bytes) ≡ None
    → machine Nowhere (seen ++ (number, bytes) ∷ others) ≡ None
no_run seen others reader number bytes read refused =
    machine_both Nowhere seen ((number, bytes) ∷ others)
    ∙ ap (λ (o : Option At). then o (λ next. machine next ((number, bytes) ∷ others))) (read_runs seen reader read)
    ∙ ap (λ (o : Option At). then o (λ next. machine next others)) refused

pub no_front : (seen : List (ℕ × List ℕ)) (reader : Reader) (number : ℕ) (bytes : List ℕ) → IsRead seen reader → option_and_then (advance (at_of reader)) (line_of bytes) ≡ None
    → ¬ (IsFront (seen ++ (number, bytes) ∷ []))
no_front seen reader number bytes read refused = λ front.
    let runs = front_runs (seen ++ (number, bytes) ∷ []) front in none-some runs.next (sym (no_run seen [] reader number bytes read refused) ∙ runs.runs)

pub no_whole : (seen others : List (ℕ × List ℕ)) (reader : Reader) (number : ℕ) (bytes : List ℕ) → IsRead seen reader → option_and_then (advance (at_of reader)) (line_of bytes) ≡ None
    → ¬ (IsWhole (seen ++ (number, bytes) ∷ others))
no_whole seen others reader number bytes read refused = λ whole.
    let leads = sections_run whole.sections Nowhere tt whole.trees in
    none-some leads.next
    (sym (no_run seen others reader number bytes read refused)
    ∙ stands_run Nowhere (seen ++ (number, bytes) ∷ others) (file_lines whole.sections) whole.stand
    ∙ leads.runs)

zip_more : (lines : List (ℕ × List ℕ)) (placed : List PlacedLine) (line : ℕ × List ℕ) (one : PlacedLine) → AllZip Stands lines placed → Stands line one → AllZip Stands (lines ++ line ∷ []) (placed ++ one ∷ [])
zip_more [] [] line one all this = (this, tt)
zip_more [] (first ∷ placed) line one all this = absurd all
zip_more (first ∷ lines) [] line one all this = absurd all
zip_more (first ∷ lines) (second ∷ placed) line one all this = (all.0, zip_more lines placed line one all.1 this)

pub read_more : (seen : List (ℕ × List ℕ)) (reader next : Reader) (number : ℕ) (bytes : List ℕ) (line : Line) → IsRead seen reader → line_of bytes ≡ Some line → Reads reader number line next
    → IsRead (seen ++ (number, bytes) ∷ []) next
read_more seen reader next number bytes line read is reads =
    let spelled = line_is bytes line is in
    record {
      stand = subst (AllZip Stands (seen ++ (number, bytes) ∷ [])) (sym reads.lines)
          (zip_more seen (lines_in reader) (number, bytes) (reads.place, line) read.stand record { text = spelled.text; good = spelled.good; place = reads.placed });
      fine = reads.fine read.fine;
    }

-- ---- the whole text

-- the reader has read the lines before the rest of the text
pub record Goes (text rest : List ℕ) (number : ℕ) (reader : Reader) : Type 0 where
  pub seen : List (ℕ × List ℕ)
  pub cut : kept_lines text ≡ seen ++ kept (numbered number (lines_of rest))
  pub count : next_line text ≡ number + length (lines_of rest)
  pub read : IsRead seen reader

pub goes_first : (text : List ℕ) → Goes text text 1 Start
goes_first text = record { seen = []; cut = refl; count = omega arith; read = record { stand = tt; fine = tt } }

-- ---- places in a list

take_one : (front : List (ℕ × List ℕ)) (line : ℕ × List ℕ) (others : List (ℕ × List ℕ)) → take (suc (length front)) (front ++ line ∷ others) ≡ front ++ line ∷ []
take_one [] line others = refl
take_one (first ∷ front) line others = ap (λ (lines : List (ℕ × List ℕ)). first ∷ lines) (take_one front line others)

take_whole : (lines : List (ℕ × List ℕ)) → take (length lines) lines ≡ lines
take_whole [] = refl
take_whole (line ∷ lines) = ap (λ (others : List (ℕ × List ℕ)). line ∷ others) (take_whole lines)

get_seam : (front : List (ℕ × List ℕ)) (line : ℕ × List ℕ) (others : List (ℕ × List ℕ)) → slice_get (front ++ line ∷ others) (length front) ≡ Some line
get_seam [] line others = refl
get_seam (first ∷ front) line others = get_seam front line others

get_past : (lines : List (ℕ × List ℕ)) → slice_get lines (length lines) ≡ None
get_past [] = refl
get_past (line ∷ lines) = get_past lines

not_free : (waiting : List ℕ) → 0 < length waiting → ¬ (IsFree (Awaiting waiting))
not_free [] more = absurd (omega (arith, more))
not_free (depth ∷ depths) more = λ free. free

-- where a log is open the lines are no text of logs
not_whole : (seen : List (ℕ × List ℕ)) (reader : Reader) → IsRead seen reader → IsWithin reader → ¬ (IsWhole seen)
not_whole seen Start read within = absurd within
not_whole seen (Between done section) read within = absurd within
not_whole seen (Within done section log) read within = λ whole.
    let leads = sections_run whole.sections Nowhere tt whole.trees in
    let same : Some leads.next ≡ Some (Awaiting log.waiting) =
    sym (stands_run Nowhere seen (file_lines whole.sections) whole.stand ∙ leads.runs) ∙ read_runs seen (Within done section log) read in
    not_free log.waiting read.fine.1.more (subst IsFree (same_Some leads.next (Awaiting log.waiting) same) leads.free)

-- the next line
pub kept_line : (number : ℕ) (line : List ℕ) (lines : List (List ℕ)) → is_comment line ≡ false → kept (numbered number (line ∷ lines)) ≡ (number, line) ∷ kept (numbered (number + 1) lines)
kept_line number line lines e = ap (λ (test : Bool). cond (not test) ((number, line) ∷ kept (numbered (number + 1) lines)) (kept (numbered (number + 1) lines))) e

skipped_line : (number : ℕ) (line : List ℕ) (lines : List (List ℕ)) → is_comment line ≡ true → kept (numbered number (line ∷ lines)) ≡ kept (numbered (number + 1) lines)
skipped_line number line lines e = ap (λ (test : Bool). cond (not test) ((number, line) ∷ kept (numbered (number + 1) lines)) (kept (numbered (number + 1) lines))) e

whole_lines : (text : List ℕ) (sections : List RuleLogs) → IsLogText text sections → IsWhole (kept_lines text)
whole_lines text sections is = record { sections = sections; stand = is.lines; trees = is.trees }

module _ (text rest behind line : List ℕ) (number : ℕ) (reader : Reader) (cut : lines_of rest ≡ line ∷ lines_of behind) (goes : Goes text rest number reader) where
  pub goes_on : is_comment line ≡ true → Goes text behind (number + 1) reader
  goes_on comment = record {
    seen = goes.seen;
    cut = goes.cut ∙ ap (λ (lines : List (List ℕ)). goes.seen ++ kept (numbered number lines)) cut
        ∙ ap (λ (lines : List (ℕ × List ℕ)). goes.seen ++ lines) (skipped_line number line (lines_of behind) comment);
    count = omega (arith, goes.count, ap length cut);
    read = goes.read;
  }

  here : is_comment line ≡ false → kept_lines text ≡ goes.seen ++ (number, line) ∷ kept (numbered (number + 1) (lines_of behind))
  here plain = goes.cut ∙ ap (λ (lines : List (List ℕ)). goes.seen ++ kept (numbered number lines)) cut
      ∙ ap (λ (lines : List (ℕ × List ℕ)). goes.seen ++ lines) (kept_line number line (lines_of behind) plain)

  pub goes_with : (next : Reader) (read : Line) → is_comment line ≡ false → line_of line ≡ Some read → Reads reader number read next → Goes text behind (number + 1) next
  goes_with next read plain is reads = record {
    seen = goes.seen ++ (number, line) ∷ [];
    cut = here plain ∙ sym (append_assoc goes.seen ((number, line) ∷ []) (kept (numbered (number + 1) (lines_of behind))));
    count = omega (arith, goes.count, ap length cut);
    read = read_more goes.seen reader next number line read goes.read is reads;
  }

  pub stops : is_comment line ≡ false → (IsFine reader → option_and_then (advance (at_of reader)) (line_of line) ≡ None) → IsSyntaxFault text number
  stops plain refused =
      let others = kept (numbered (number + 1) (lines_of behind)) in
      let all : kept_lines text ≡ goes.seen ++ (number, line) ∷ others = here plain in
      let long : length (kept_lines text) ≡ length goes.seen + (length others + 1) = ap length all ∙ length-append goes.seen ((number, line) ∷ others) ∙ omega arith in
      record {
        place = length goes.seen;
        within = omega (arith, long);
        front = subst IsFront (sym (ap (take (length goes.seen)) all ∙ take-append_seam goes.seen ((number, line) ∷ others))) (read_front goes.seen reader goes.read);
        ends = λ more front. no_front goes.seen reader number line goes.read (refused goes.read.fine)
            (subst IsFront (ap (take (suc (length goes.seen))) all ∙ take_one goes.seen (number, line) others) front);
        wanting = λ e whole. absurd (omega (arith, e, long));
        here = sym (ap (λ (lines : List (ℕ × List ℕ)). number_at lines (next_line text) (length goes.seen)) all
            ∙ ap (λ (o : Option (ℕ × List ℕ)). option_map_or (λ line. line.0) o (next_line text)) (get_seam goes.seen (number, line) others));
      }

  pub refuses : is_comment line ≡ false → (IsFine reader → option_and_then (advance (at_of reader)) (line_of line) ≡ None) → (sections : List RuleLogs) → ¬ (IsLogText text sections)
  refuses plain refused sections = λ is.
      no_whole goes.seen (kept (numbered (number + 1) (lines_of behind))) reader number line goes.read (refused goes.read.fine)
      (subst IsWhole (here plain) (whole_lines text sections is))

-- the end of the text
all_seen : (text : List ℕ) (number : ℕ) (reader : Reader) (goes : Goes text [] number reader) → kept_lines text ≡ goes.seen
all_seen text number reader goes = goes.cut ∙ append-nil goes.seen

pub wants : (text : List ℕ) (next told : ℕ) (reader : Reader) → Goes text [] next reader → (told ≡ next) × IsWithin reader → IsSyntaxFault text told
wants text next told reader goes within =
    let all = all_seen text next reader goes in
    record {
      place = length goes.seen;
      within = omega (arith, ap length all);
      front = subst IsFront (sym (ap (take (length goes.seen)) all ∙ take_whole goes.seen)) (read_front goes.seen reader goes.read);
      ends = λ more front. absurd (omega (arith, more, ap length all));
      wanting = λ e whole. not_whole goes.seen reader goes.read within.1 (subst IsWhole all whole);
      here = within.0 ∙ omega (arith, goes.count)
          ∙ sym (ap (λ (lines : List (ℕ × List ℕ)). number_at lines (next_line text) (length goes.seen)) all
          ∙ ap (λ (o : Option (ℕ × List ℕ)). option_map_or (λ line. line.0) o (next_line text)) (get_past goes.seen));
    }

pub end_more : (done : List RuleLogs) (section : RuleLogs) → EndAt section.line done → EndAt section.end (done ++ section ∷ [])
end_more [] section ends = refl
end_more (first ∷ []) section ends = (ends, refl)
end_more (first ∷ second ∷ others) section ends = (ends.0, end_more (second ∷ others) section ends.1)

pub is_whole : (text : List ℕ) (next : ℕ) (reader : Reader) (sections : List RuleLogs) → Goes text [] next reader → IsAllOf reader next sections → IsLogText text sections
is_whole text next Start sections goes all =
    subst (IsLogText text) (sym all) record { lines = subst (λ (lines : List (ℕ × List ℕ)). AllZip Stands lines []) (sym (all_seen text next Start goes)) goes.read.stand; end = tt; trees = tt }
is_whole text next (Between done section) sections goes all =
    let last : RuleLogs = closed_section section next in
    let at_end : next ≡ next_line text = omega (arith, goes.count) in
    subst (IsLogText text) (sym all) record {
      lines = subst (λ (lines : List (ℕ × List ℕ)). AllZip Stands lines (file_lines (done ++ last ∷ []))) (sym (all_seen text next (Between done section) goes))
          (subst (AllZip Stands goes.seen) (sym (file_more done last)) goes.read.stand);
      end = subst (λ n. EndAt n (done ++ last ∷ [])) at_end (end_more done last goes.read.fine.end);
      trees = pushed (λ (whole : RuleLogs). AreTrees whole.logs) done last goes.read.fine.trees goes.read.fine.logs;
    }
is_whole text next (Within done section log) sections goes all = absurd all

-- a text of logs is answered with its sections
pub answers : (text : List ℕ) (next : ℕ) (reader : Reader) (sections : List RuleLogs) → Goes text [] next reader → IsLogText text sections → (result : Result (List RuleLogs) LogFault)
    → IfOk result (IsAllOf reader next) → ((number : ℕ) → result ≡ Err (Syntax number) → (number ≡ next) × IsWithin reader) → IsAnswer sections result
answers text next reader sections goes is (Ok read) all fault = only text read sections (is_whole text next reader read goes all) is
answers text next reader sections goes is (Err NoMemory) all fault = tt
answers text next reader sections goes is (Err (Syntax number)) all fault =
    not_whole goes.seen reader goes.read (fault number refl).1 (subst IsWhole (all_seen text next reader goes) (whole_lines text sections is))
