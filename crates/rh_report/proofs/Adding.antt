-- One rule's line more.
use Rattle.std.proofs.Common.{ℕ, ◌≡◌, ◌+◌, ◌<◌, List, ◌∷◌, ◌++◌, drop, length, get_or, ap, sym, ◌∙◌, append_assoc}
use Rattle.std.proofs.lemmas.List.{drop_more, get_or_default}
use Rattle.rh_rule.specs.declared.rule.Rule.{Rule}
use Rattle.rh_rule.specs.declared.rule.Ruling.{Ruling}
use Rattle.rh_report.specs.Output.{rule_line, rule_lines}

-- the lines that are left
abbrev pub lines_from : List Rule → List Ruling → ℕ → List ℕ
lines_from rules rulings k = rule_lines (drop k rules) (drop k rulings)

next_line : (rules : List Rule) (rulings : List Ruling) (k : ℕ) (rule : Rule) (ruling : Ruling) → k < length rules → k < length rulings → rule ≡ get_or rules k rule → ruling ≡ get_or rulings k ruling
    → lines_from rules rulings k ≡ rule_line rule ruling ++ lines_from rules rulings (k + 1)
next_line rules rulings k rule ruling in_rules in_rulings rule_is ruling_is =
    let rules_are : drop k rules ≡ rule ∷ drop (k + 1) rules = drop_more rules k rule in_rules ∙ ap (λ r. r ∷ drop (k + 1) rules) (sym rule_is) in
    let rulings_are : drop k rulings ≡ ruling ∷ drop (k + 1) rulings = drop_more rulings k ruling in_rulings ∙ ap (λ r. r ∷ drop (k + 1) rulings) (sym ruling_is) in
    ap (λ rs. rule_lines rs (drop k rulings)) rules_are ∙ ap (rule_lines (rule ∷ drop (k + 1) rules)) rulings_are

-- the line of one more rule is added
pub line_added : (rules : List Rule) (rulings : List Ruling) (k : ℕ) (rule : Rule) (ruling otherwise : Ruling) (before after whole : List ℕ) → k < length rules → k < length rulings → rule ≡ get_or rules k rule
    → ruling ≡ get_or rulings k otherwise → before ++ lines_from rules rulings k ≡ whole → after ≡ before ++ rule_line rule ruling → after ++ lines_from rules rulings (k + 1) ≡ whole
line_added rules rulings k rule ruling otherwise before after whole in_rules in_rulings rule_is ruling_is so_far one =
    let here : ruling ≡ get_or rulings k ruling = ruling_is ∙ get_or_default rulings k otherwise ruling in_rulings in
    ap (λ text. text ++ lines_from rules rulings (k + 1)) one ∙ append_assoc before (rule_line rule ruling) (lines_from rules rulings (k + 1))
    ∙ ap (λ lines. before ++ lines) (sym (next_line rules rulings k rule ruling in_rules in_rulings rule_is here)) ∙ so_far
