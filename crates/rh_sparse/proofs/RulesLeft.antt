-- What the rules conclude on an edge, one rule after another.
use Rattle.std.proofs.Common.{ℕ, ◌≡◌, ◌+◌, ◌<◌, false, List, [], ◌∷◌, length, get_or, drop, refl, ap, sym, ◌∙◌, subst}
use Rattle.std.proofs.lemmas.List.{drop_more}
use Rattle.rh_il.specs.declared.program.Edge.{Edge}
use Rattle.rh_il.specs.declared.program.Proc.{Proc}
use Rattle.rh_rule.specs.declared.rule.Rule.{Rule}
use Rattle.rh_rule.specs.declared.rule.Ruling.{Ruling}
use Rattle.rh_rule.specs.declared.schema.Schema.{Schema}
use Rattle.rh_sparse.specs.Candidates.{Marks, rule_concludes, rules_conclude}
use Rattle.rh_sparse.proofs.Marking.{marks_both, marks_nothing}

module _ (schemas : List Schema) (procs : List Proc) (place : ℕ) (proc : Proc) (edge : Edge) where
  -- rules without rulings conclude nothing
  unruled : (rules : List Rule) (bit : ℕ) → rules_conclude schemas procs place proc edge rules [] bit ≡ false
  unruled [] bit = refl
  unruled (rule ∷ rules) bit = refl

  pub no_ruling : (rules : List Rule) (left : List Ruling) (words : List ℕ) → left ≡ [] → Marks (rules_conclude schemas procs place proc edge rules left) words words
  no_ruling rules left words none =
      marks_nothing (rules_conclude schemas procs place proc edge rules left) words (λ bit below. ap (λ rulings. rules_conclude schemas procs place proc edge rules rulings bit) none ∙ unruled rules bit)

  pub no_rule : (rules : List Rule) (left : List Ruling) (words : List ℕ) → rules ≡ [] → Marks (rules_conclude schemas procs place proc edge rules left) words words
  no_rule rules left words none = marks_nothing (rules_conclude schemas procs place proc edge rules left) words (λ bit below. ap (λ rs. rules_conclude schemas procs place proc edge rs left bit) none)

  -- the first of those that are left
  pub next_rule : (rules : List Rule) (i : ℕ) (rule : Rule) (left others : List Ruling) (ruling : Ruling) (now mid new : List ℕ) → i < length rules → rule ≡ get_or rules i rule → left ≡ ruling ∷ others
      → Marks (rule_concludes schemas procs place proc edge rule ruling rule.conclusion) now mid → Marks (rules_conclude schemas procs place proc edge (drop (i + 1) rules) others) mid new
      → Marks (rules_conclude schemas procs place proc edge (drop i rules) left) now new
  next_rule rules i rule left others ruling now mid new below read left_is first later =
      let rules_are : drop i rules ≡ rule ∷ drop (i + 1) rules = drop_more rules i rule below ∙ ap (λ (r : Rule). r ∷ drop (i + 1) rules) (sym read) in
      subst (λ (rs : List Rule). Marks (rules_conclude schemas procs place proc edge rs left) now new) (sym rules_are)
      (subst (λ (rulings : List Ruling). Marks (rules_conclude schemas procs place proc edge (rule ∷ drop (i + 1) rules) rulings) now new) (sym left_is)
      (marks_both (rule_concludes schemas procs place proc edge rule ruling rule.conclusion) (rules_conclude schemas procs place proc edge (drop (i + 1) rules) others) now mid new first later))
