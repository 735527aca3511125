-- A source of facts and then rules: what its words, its names and its parts are.
use Rattle.std.proofs.Common.{◌≡◌, ℕ, List, [], ◌∷◌, ◌++◌, map, None, refl, sym, ap, ◌∙◌, append_assoc}
use Rattle.std.specs.List.{flat_map, AllByRecursion}
use Rattle.rh_rule.specs.declared.schema.Schema.{Schema}
use Rattle.rh_rule.specs.declared.rule.Rule.{Rule}
use Rattle.rh_rule_source.specs.declared.word.Word.{Word}
use Rattle.rh_rule_source.specs.declared.source.SourceFact.{SourceFact}
use Rattle.rh_rule_source.specs.declared.source.SourceRule.{SourceRule}
use Rattle.rh_rule_source.specs.declared.source.SourceItem.{SourceItem}
use Rattle.rh_rule_source.specs.declared.source.SourceItem.TheVariants.{Fact as FactItem, Rule as RuleItem}
use Rattle.rh_rule_source.specs.Source.{fact_words, rule_words, item_words}
use Rattle.rh_rule_text.specs.Resolve.{schema_of, rule_of, fact_names, schemas_of, rules_of}
use Rattle.rh_rule_text.specs.Unknown.{unknown_fact, unknown_rule, unknown_item, first_of}
use Rattle.rh_rule_source.proofs.SourceInRange.{FactInRange, RuleInRange, ItemInRange}
use Rattle.rh_rule_print.proofs.Tells.{both_known}
use Rattle.rh_il.proofs.Passed.{none_parts}

-- all facts, and then all rules
abbrev pub items_of : List SourceFact → List SourceRule → List SourceItem
items_of facts rules = map FactItem facts ++ map RuleItem rules

pub items_words : (facts : List SourceFact) (rules : List SourceRule) → flat_map item_words (items_of facts rules) ≡ flat_map fact_words facts ++ flat_map rule_words rules
items_words [] [] = refl
items_words [] (r ∷ rs) = ap (λ (words : List Word). rule_words r ++ words) (items_words [] rs)
items_words (f ∷ fs) rules =
    ap (λ (words : List Word). fact_words f ++ words) (items_words fs rules) ∙ sym (append_assoc (fact_words f) (flat_map fact_words fs) (flat_map rule_words rules))

-- the names of the facts are those of their schemas
pub items_names : (facts : List SourceFact) (rules : List SourceRule) → flat_map fact_names (items_of facts rules) ≡ map (λ (s : Schema). s.name) (map schema_of facts)
items_names [] [] = refl
items_names [] (r ∷ rs) = items_names [] rs
items_names (f ∷ fs) rules = ap (λ (names : List (List ℕ)). f.name.name ∷ names) (items_names fs rules)

pub items_schemas : (facts : List SourceFact) (rules : List SourceRule) → flat_map schemas_of (items_of facts rules) ≡ map schema_of facts
items_schemas [] [] = refl
items_schemas [] (r ∷ rs) = items_schemas [] rs
items_schemas (f ∷ fs) rules = ap (λ (schemas : List Schema). schema_of f ∷ schemas) (items_schemas fs rules)

pub items_rules : (names : List (List ℕ)) (facts : List SourceFact) (rules : List SourceRule) → flat_map (rules_of names) (items_of facts rules) ≡ map (rule_of names) rules
items_rules names [] [] = refl
items_rules names [] (r ∷ rs) = ap (λ (rules : List Rule). rule_of names r ∷ rules) (items_rules names [] rs)
items_rules names (f ∷ fs) rules = items_rules names fs rules

pub items_known : (names : List (List ℕ)) (facts : List SourceFact) (rules : List SourceRule) → first_of unknown_fact facts ≡ None → first_of (unknown_rule names) rules ≡ None → first_of (unknown_item names) (items_of facts rules) ≡ None
items_known names [] [] facts_known rules_known = refl
items_known names [] (r ∷ rs) facts_known rules_known =
    let parts = none_parts (unknown_rule names r) (first_of (unknown_rule names) rs) rules_known in
    both_known _ _ parts.0 (items_known names [] rs facts_known parts.1)
items_known names (f ∷ fs) rules facts_known rules_known =
    let parts = none_parts (unknown_fact f) (first_of unknown_fact fs) facts_known in
    both_known _ _ parts.0 (items_known names fs rules parts.1 rules_known)

pub items_in_range : (facts : List SourceFact) (rules : List SourceRule) → AllByRecursion FactInRange facts → AllByRecursion RuleInRange rules → AllByRecursion ItemInRange (items_of facts rules)
items_in_range [] [] facts_fit rules_fit = tt
items_in_range [] (r ∷ rs) facts_fit rules_fit = (rules_fit.0, items_in_range [] rs facts_fit rules_fit.1)
items_in_range (f ∷ fs) rules facts_fit rules_fit = (facts_fit.0, items_in_range fs rules facts_fit.1 rules_fit)
