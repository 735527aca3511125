-- The lines of a text of logs rise.
use Rattle.std.proofs.Common.{◌≡◌, ℕ, zero, suc, ◌+◌, ◌≤◌, ◌<◌, List, [], ◌∷◌, ◌++◌, length, map, Some, append_assoc, arith, sym, subst, ◌∙◌}
use Rattle.std.proofs.lemmas.Bool.{cond_both}
use Rattle.std.proofs.lemmas.Option.{none-some, same_Some}
use Rattle.std.specs.Prelude.{not, slice_get}
use Rattle.std.specs.List.{AllZip, flat_map}
use Rattle.rh_log.specs.declared.log.LogNode.{LogNode}
use Rattle.rh_log_text.specs.declared.logs.PlacedLog.{PlacedLog}
use Rattle.rh_log_text.specs.declared.logs.RuleLogs.{RuleLogs}
use Rattle.rh_log_text.specs.Lines.{is_comment, kept, kept_lines, lines_of, next_line, numbered}
use Rattle.rh_log_text.specs.Text.{EndAt, IsLogText, PlacedLine, Stands, file_lines, log_lines, node_line}

-- the numbers of lines rise from one bound to another
abbrev Rise : ℕ → ℕ → List (ℕ × List ℕ) → Type 0
Rise low high [] = low ≤ high
Rise low high (line ∷ lines) = (low ≤ line.0) × Rise line.0 high lines

-- those of logs do
abbrev pub LogsRise : ℕ → ℕ → List PlacedLog → Type 0
LogsRise low high [] = low ≤ high
LogsRise low high (log ∷ logs) = (low ≤ log.line) × LogsRise log.line high logs

-- those of sections do, and of the logs in them
abbrev pub SectionsRise : ℕ → List RuleLogs → Type 0
SectionsRise low [] = Unit {0}
SectionsRise low (section ∷ sections) = (low ≤ section.line) × LogsRise section.line section.end section.logs × SectionsRise section.end sections

lower : (low bound high : ℕ) (lines : List (ℕ × List ℕ)) → low ≤ bound → Rise bound high lines → Rise low high lines
lower low bound high [] below rise = omega (arith, below, rise)
lower low bound high (line ∷ lines) below rise = (omega (arith, below, rise.0), rise.1)

lower_logs : (low bound high : ℕ) (logs : List PlacedLog) → low ≤ bound → LogsRise bound high logs → LogsRise low high logs
lower_logs low bound high [] below rise = omega (arith, below, rise)
lower_logs low bound high (log ∷ logs) below rise = (omega (arith, below, rise.0), rise.1)

numbered_rise : (number high : ℕ) (lines : List (List ℕ)) → length lines + number ≤ high → Rise number high (numbered number lines)
numbered_rise number high [] below = omega (arith, below)
numbered_rise number high (line ∷ lines) below =
    (omega arith, lower number (number + 1) high (numbered (number + 1) lines) (omega arith) (numbered_rise (number + 1) high lines (omega (arith, below))))

kept_rise : (low high : ℕ) (lines : List (ℕ × List ℕ)) → Rise low high lines → Rise low high (kept lines)
kept_rise low high [] rise = rise
kept_rise low high (line ∷ lines) rise =
    let others : Rise line.0 high (kept lines) = kept_rise line.0 high lines rise.1 in
    cond_both (not (is_comment line.1)) (line ∷ kept lines) (kept lines) (Rise low high) (λ e. (rise.0, others)) (λ e. lower low line.0 high (kept lines) rise.0 others)

-- what is left after nodes
nodes_rise : {R : Type 0} (low high : ℕ) (lines : List (ℕ × List ℕ)) (nodes : List LogNode) (behind : List PlacedLine) → Rise low high lines → AllZip Stands lines (map node_line nodes ++ behind)
    → ((from : ℕ) (rest : List (ℕ × List ℕ)) → low ≤ from → Rise from high rest → AllZip Stands rest behind → R) → R
nodes_rise low high lines [] behind rise stand others = others low lines (omega arith) rise stand
nodes_rise low high [] (node ∷ nodes) behind rise stand others = absurd stand
nodes_rise low high (line ∷ lines) (node ∷ nodes) behind rise stand others =
    nodes_rise line.0 high lines nodes behind rise.1 stand.1 (λ from rest above. others from rest (omega (arith, rise.0, above)))

logs_rise : {R : Type 0} (low high end : ℕ) (lines : List (ℕ × List ℕ)) (logs : List PlacedLog) (behind : List PlacedLine) → Rise low high lines
    → AllZip Stands lines (flat_map log_lines logs ++ behind) → ((from : ℕ) (rest : List (ℕ × List ℕ)) → Rise from high rest → AllZip Stands rest behind → (from ≤ end) × R)
    → LogsRise low end logs × R
logs_rise low high end lines [] behind rise stand others = others low lines rise stand
logs_rise low high end [] (log ∷ logs) behind rise stand others = absurd stand
logs_rise {R = R} low high end (line ∷ lines) (log ∷ logs) behind rise stand others =
    let more : LogsRise line.0 end logs × R =
    nodes_rise line.0 high lines log.log.nodes (flat_map log_lines logs ++ behind) rise.1
    (subst (AllZip Stands lines) (append_assoc (map node_line log.log.nodes) (flat_map log_lines logs) behind) stand.1)
    (λ from rest above left stood.
    let all = logs_rise {R = R} from high end rest logs behind left stood others in (lower_logs line.0 from end logs above all.0, all.1)) in
    let here : line.0 ≡ log.line = sym stand.0.place in
    ((subst (λ n. low ≤ n) here rise.0, subst (λ n. LogsRise n end logs) here more.0), more.1)

abbrev first_line : ℕ → List RuleLogs → ℕ
first_line next [] = next
first_line next (section ∷ sections) = section.line

end_is : (next : ℕ) (section : RuleLogs) (sections : List RuleLogs) → EndAt next (section ∷ sections) → first_line next sections ≡ section.end
end_is next section [] ends = sym ends
end_is next section (following ∷ others) ends = sym ends.0

end_behind : (next : ℕ) (section : RuleLogs) (sections : List RuleLogs) → EndAt next (section ∷ sections) → EndAt next sections
end_behind next section [] ends = tt
end_behind next section (following ∷ others) ends = ends.1

raised : (next low bound : ℕ) (sections : List RuleLogs) → bound ≡ first_line next sections → SectionsRise low sections → SectionsRise bound sections
raised next low bound [] is rise = tt
raised next low bound (section ∷ sections) is rise = (omega (arith, is), rise.1, rise.2)

sections_rise : (low high : ℕ) (lines : List (ℕ × List ℕ)) (sections : List RuleLogs) → Rise low high lines → AllZip Stands lines (file_lines sections) → EndAt high sections
    → SectionsRise low sections × (low ≤ first_line high sections)
sections_rise low high [] [] rise stand ends = (tt, rise)
sections_rise low high (line ∷ lines) [] rise stand ends = absurd stand
sections_rise low high [] (section ∷ sections) rise stand ends = absurd stand
sections_rise low high (line ∷ lines) (section ∷ sections) rise stand ends =
    let end : first_line high sections ≡ section.end = end_is high section sections ends in
    let more : LogsRise line.0 section.end section.logs × SectionsRise section.end sections =
    logs_rise line.0 high section.end lines section.logs (file_lines sections) rise.1 stand.1
    (λ from rest left stood.
    let all = sections_rise from high rest sections left stood (end_behind high section sections ends) in
    (subst (λ n. from ≤ n) end all.1, raised high from section.end sections (sym end) all.0)) in
    let here : line.0 ≡ section.line = sym stand.0.place in
    let begins : low ≤ section.line = subst (λ n. low ≤ n) here rise.0 in
    ((begins, subst (λ n. LogsRise n section.end section.logs) here more.0, more.1), begins)

-- the sections of a text
pub sections_of_text : (text : List ℕ) (sections : List RuleLogs) → IsLogText text sections → SectionsRise 1 sections
sections_of_text text sections is =
    (sections_rise 1 (next_line text) (kept_lines text) sections
    (kept_rise 1 (next_line text) (numbered 1 (lines_of text)) (numbered_rise 1 (next_line text) (lines_of text) (omega arith))) is.lines is.end).0

-- ---- what stands at places

logs_within : (low high : ℕ) (logs : List PlacedLog) → LogsRise low high logs → low ≤ high
logs_within low high [] rise = rise
logs_within low high (log ∷ logs) rise = omega (arith, rise.0, logs_within log.line high logs rise.1)

pub log_from : (low high : ℕ) (logs : List PlacedLog) (k : ℕ) (log : PlacedLog) → LogsRise low high logs → slice_get logs k ≡ Some log → low ≤ log.line
log_from low high [] k log rise read = absurd (none-some log read)
log_from low high (first ∷ logs) zero log rise read = subst (λ (l : PlacedLog). low ≤ l.line) (same_Some first log read) rise.0
log_from low high (first ∷ logs) (suc k) log rise read = omega (arith, rise.0, log_from first.line high logs k log rise.1 read)

pub log_to : (low high : ℕ) (logs : List PlacedLog) (k : ℕ) (log : PlacedLog) → LogsRise low high logs → slice_get logs k ≡ Some log → log.line ≤ high
log_to low high [] k log rise read = absurd (none-some log read)
log_to low high (first ∷ logs) zero log rise read = subst (λ (l : PlacedLog). l.line ≤ high) (same_Some first log read) (logs_within first.line high logs rise.1)
log_to low high (first ∷ logs) (suc k) log rise read = log_to first.line high logs k log rise.1 read

pub logs_in_order : (low high : ℕ) (logs : List PlacedLog) (j k : ℕ) (a b : PlacedLog) → LogsRise low high logs → j ≤ k → slice_get logs j ≡ Some a → slice_get logs k ≡ Some b → a.line ≤ b.line
logs_in_order low high [] j k a b rise below one other = absurd (none-some a one)
logs_in_order low high (first ∷ logs) zero zero a b rise below one other = subst (λ (l : PlacedLog). a.line ≤ l.line) (same_Some a b (sym one ∙ other)) (omega arith)
logs_in_order low high (first ∷ logs) zero (suc k) a b rise below one other =
    subst (λ (l : PlacedLog). l.line ≤ b.line) (same_Some first a one) (log_from first.line high logs k b rise.1 other)
logs_in_order low high (first ∷ logs) (suc j) zero a b rise below one other = absurd (omega (arith, below))
logs_in_order low high (first ∷ logs) (suc j) (suc k) a b rise below one other = logs_in_order first.line high logs j k a b rise.1 (omega (arith, below)) one other

section_from : (low : ℕ) (sections : List RuleLogs) (i : ℕ) (section : RuleLogs) → SectionsRise low sections → slice_get sections i ≡ Some section → low ≤ section.line
section_from low [] i section rise read = absurd (none-some section read)
section_from low (first ∷ sections) zero section rise read = subst (λ (s : RuleLogs). low ≤ s.line) (same_Some first section read) rise.0
section_from low (first ∷ sections) (suc i) section rise read =
    omega (arith, rise.0, logs_within first.line first.end first.logs rise.1, section_from first.end sections i section rise.2 read)

pub logs_of_section : (low : ℕ) (sections : List RuleLogs) (i : ℕ) (section : RuleLogs) → SectionsRise low sections → slice_get sections i ≡ Some section
    → LogsRise section.line section.end section.logs
logs_of_section low [] i section rise read = absurd (none-some section read)
logs_of_section low (first ∷ sections) zero section rise read = subst (λ (s : RuleLogs). LogsRise s.line s.end s.logs) (same_Some first section read) rise.1
logs_of_section low (first ∷ sections) (suc i) section rise read = logs_of_section first.end sections i section rise.2 read

pub section_within : (section : RuleLogs) → LogsRise section.line section.end section.logs → section.line ≤ section.end
section_within section rise = logs_within section.line section.end section.logs rise

pub sections_in_order : (low : ℕ) (sections : List RuleLogs) (i j : ℕ) (a b : RuleLogs) → SectionsRise low sections → i < j → slice_get sections i ≡ Some a → slice_get sections j ≡ Some b
    → a.end ≤ b.line
sections_in_order low [] i j a b rise below one other = absurd (none-some a one)
sections_in_order low (first ∷ sections) i zero a b rise below one other = absurd (omega (arith, below))
sections_in_order low (first ∷ sections) zero (suc j) a b rise below one other =
    subst (λ (s : RuleLogs). s.end ≤ b.line) (same_Some first a one) (section_from first.end sections j b rise.2 other)
sections_in_order low (first ∷ sections) (suc i) (suc j) a b rise below one other = sections_in_order first.end sections i j a b rise.2 (omega (arith, below)) one other
