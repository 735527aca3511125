-- The lines of the rules.
use Rattle.std.proofs.Common.{ℕ, ◌≡◌, ◌+◌, ◌<◌, Bool, List, [], ◌∷◌, ◌++◌, drop, length, map, get_or, refl, ap, sym, ◌∙◌, append_assoc}
use Rattle.std.proofs.lemmas.List.{drop_more, get_or_default}
use Rattle.rh_log_text.specs.declared.logs.RuleLogs.{RuleLogs}
use Rattle.rh_rule.specs.declared.rule.Rule.{Rule}
use Rattle.rh_audit.specs.Audit.{audit_line, audit_lines, has_logs}
use Rattle.rh_audit.specs.Walk.{marked_lines}

-- the lines that are left
abbrev pub lines_from : List Rule → List Bool → ℕ → List ℕ
lines_from rules marks k = marked_lines (drop k rules) (drop k marks)

next_line : (rules : List Rule) (marks : List Bool) (k : ℕ) (rule : Rule) (mark : Bool) → k < length rules → k < length marks → rule ≡ get_or rules k rule → mark ≡ get_or marks k mark
    → lines_from rules marks k ≡ audit_line rule mark ++ lines_from rules marks (k + 1)
next_line rules marks k rule mark in_rules in_marks rule_is mark_is =
    let rules_are : drop k rules ≡ rule ∷ drop (k + 1) rules = drop_more rules k rule in_rules ∙ ap (λ r. r ∷ drop (k + 1) rules) (sym rule_is) in
    let marks_are : drop k marks ≡ mark ∷ drop (k + 1) marks = drop_more marks k mark in_marks ∙ ap (λ m. m ∷ drop (k + 1) marks) (sym mark_is) in
    ap (λ rs. marked_lines rs (drop k marks)) rules_are ∙ ap (marked_lines (rule ∷ drop (k + 1) rules)) marks_are

-- the line of one more rule is added
pub line_added : (rules : List Rule) (marks : List Bool) (k : ℕ) (rule : Rule) (mark otherwise : Bool) (before after whole : List ℕ) → k < length rules → k < length marks → rule ≡ get_or rules k rule
    → mark ≡ get_or marks k otherwise → before ++ lines_from rules marks k ≡ whole → after ≡ before ++ audit_line rule mark → after ++ lines_from rules marks (k + 1) ≡ whole
line_added rules marks k rule mark otherwise before after whole in_rules in_marks rule_is mark_is so_far one =
    let here : mark ≡ get_or marks k mark = mark_is ∙ get_or_default marks k otherwise mark in_marks in
    ap (λ text. text ++ lines_from rules marks (k + 1)) one ∙ append_assoc before (audit_line rule mark) (lines_from rules marks (k + 1))
    ∙ ap (λ lines. before ++ lines) (sym (next_line rules marks k rule mark in_rules in_marks rule_is here)) ∙ so_far

-- by the marks of the rules that sections name
pub lines_are : (rules : List Rule) (sections : List RuleLogs) → marked_lines rules (map (has_logs sections) rules) ≡ audit_lines rules sections
lines_are [] sections = refl
lines_are (rule ∷ rules) sections = ap (λ (lines : List ℕ). audit_line rule (has_logs sections rule) ++ lines) (lines_are rules sections)
