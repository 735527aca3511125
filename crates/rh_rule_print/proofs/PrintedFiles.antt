-- Rule files as they are printed.
use Rattle.std.proofs.Common.{◌≡◌, ℕ, true, List, ◌∷◌, ◌++◌, sym, ap, ◌∙◌}
use Rattle.std.specs.List.{flat_map, AllByRecursion}
use Rattle.rh_text.proofs.Printing.{told}
use Rattle.rh_rule.specs.declared.schema.Schema.{Schema}
use Rattle.rh_rule.specs.declared.rule.Rule.{Rule}
use Rattle.rh_rule.specs.RuleFiles.{Rules}
use Rattle.rh_rule_source.specs.declared.word.Word.{Word}
use Rattle.rh_rule_source.specs.declared.word.Word.TheVariants.{Fixed, Number}
use Rattle.rh_rule_source.specs.declared.source.SourceFact.{SourceFact}
use Rattle.rh_rule_source.specs.declared.source.SourceRule.{SourceRule}
use Rattle.rh_rule_source.specs.declared.source.SourceFile.{SourceFile}
use Rattle.rh_rule_source.specs.Grammar.{RHODIUM, SEMICOLON}
use Rattle.rh_rule_source.specs.Source.{fact_words, rule_words, file_words}
use Rattle.rh_rule_text.specs.Resolve.{schema_of, rule_of, rules_of, fact_names, file_schemas, file_rules}
use Rattle.rh_rule_text.specs.Unknown.{unknown_fact, unknown_rule, unknown_item, unknown_name, first_of}
use Rattle.rh_rule_print.specs.Text.{schema_text, rule_text, file_text}
use Rattle.rh_rule_text.specs.Reading.{resolved}
use Rattle.rh_rule_source.proofs.SourceInRange.{InRange, FactInRange, RuleInRange}
use Rattle.rh_rule_print.proofs.Prints.{Prints, Always, tells, behind, fixed_before}
use Rattle.rh_rule_print.proofs.FixedTexts.{header_text}
use Rattle.rh_rule_print.proofs.Tells.{Tells, Repeated, repeated_printed}
use Rattle.rh_rule_print.proofs.PrintedFacts.{SchemaFits, schema_printed}
use Rattle.rh_rule_print.proofs.PrintedConditions.{AreFacts, facts_of}
use Rattle.rh_rule_print.proofs.PrintedRules.{RuleFits, rule_printed}
use Rattle.rh_rule_print.proofs.PrintedItems.{items_of, items_words, items_names, items_schemas, items_rules, items_known, items_in_range}

-- what is asked of a rule file
pub record FileFits (file : Rules) : Type 0 where
  pub facts : AreFacts file.schemas
  pub schemas : AllByRecursion SchemaFits file.schemas
  pub rules : AllByRecursion (RuleFits file.schemas) file.rules

-- the words are those of a source of the rules, in which all names are known and all numbers in range
abbrev pub TellsFile : Rules → List Word → Type 0
TellsFile = Tells file_words resolved (λ f. unknown_name f.items) InRange

abbrev TellsSchemas : List Schema → List Word → Type 0
TellsSchemas = Repeated fact_words schema_of unknown_fact FactInRange

abbrev TellsRules : List (List ℕ) → List Rule → List Word → Type 0
TellsRules names = Repeated rule_words (rule_of names) (unknown_rule names) RuleInRange

abbrev source_of : List SourceFact → List SourceRule → SourceFile
source_of facts rules = record { headed = true; items = items_of facts rules }

whole_file : (rules : Rules) (v w : List Word) → TellsSchemas rules.schemas v → TellsRules (facts_of rules.schemas) rules.rules w → TellsFile rules ((Fixed RHODIUM ∷ Number 1 ∷ Fixed SEMICOLON ∷ v) ++ w)
whole_file rules v w facts told =
    let names : flat_map fact_names (items_of facts.source told.source) ≡ facts_of rules.schemas =
    items_names facts.source told.source ∙ ap facts_of facts.means in
    let schemas : file_schemas (items_of facts.source told.source) ≡ rules.schemas = items_schemas facts.source told.source ∙ facts.means in
    let each_rule : file_rules (items_of facts.source told.source) ≡ rules.rules =
    ap (λ names. flat_map (rules_of names) (items_of facts.source told.source)) names
    ∙ items_rules (facts_of rules.schemas) facts.source told.source ∙ told.means in
    record {
      source = source_of facts.source told.source;
      same =
          (λ i. Fixed RHODIUM ∷ Number 1 ∷ Fixed SEMICOLON ∷ (facts.same i ++ told.same i))
          ∙ ap (λ (words : List Word). Fixed RHODIUM ∷ Number 1 ∷ Fixed SEMICOLON ∷ words) (sym (items_words facts.source told.source));
      means = λ i. record { schemas = schemas i; rules = each_rule i };
      known =
          ap (λ names. first_of (unknown_item names) (items_of facts.source told.source)) names
          ∙ items_known (facts_of rules.schemas) facts.source told.source facts.known told.known;
      in_range = items_in_range facts.source told.source facts.in_range told.in_range;
    }

pub file_printed : (rules : Rules) → FileFits rules → Prints Always (file_text rules) (TellsFile rules)
file_printed rules fits =
    behind
    (repeated_printed rule_words (rule_of (facts_of rules.schemas)) (unknown_rule (facts_of rules.schemas)) RuleInRange (rule_text rules.schemas) (RuleFits rules.schemas) (rule_printed rules.schemas fits.facts) rules.rules fits.rules)
    (λ rest h. tt)
    (fixed_before header_text
    (tells (repeated_printed fact_words schema_of unknown_fact FactInRange schema_text SchemaFits schema_printed rules.schemas fits.schemas)
    (λ v facts w told. whole_file rules v w facts told)))
