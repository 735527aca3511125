use Rattle.std.proofs.Common.{◌≡◌, ℕ, List, ap, sym, ◌∙◌}
use Rattle.std.specs.List.{flat_map}
use Rattle.rh_rule.specs.Checks.{file_fault}
use Rattle.rh_rule.specs.RuleFiles.{Rules}
use Rattle.rh_rule_text.specs.Resolve.{file_schemas, file_rules, fact_names, rules_of}
use Rattle.rh_rule_text.specs.Unknown.{first_of, unknown_item}
use Rattle.rh_rule_text.proofs.ProperNames.{names_proper}
use Rattle.rh_rule_text.proofs.reader.resolved.Goals as goal

pub new-requires : goal.new-requires
new-requires c =
    let items = c.as_slice-items.ensures.value in
    let schemas = c.in_ok-schemas.ensures ∙ ap file_schemas items in
    let rules = c.in_ok-rules.ensures ∙ ap (flat_map (rules_of c.in_ok-facts.facts)) items in
    rw (schemas, rules) (names_proper c.args.source.now c.in_ok-facts.facts c.requires)

pub returns-clause-fault : goal.returns-clause-fault
returns-clause-fault c =
    let source = c.args.source.now.items in
    let facts = c.in_ok-facts.facts in
    let items = c.as_slice-items.ensures.value in
    let named : facts ≡ flat_map fact_names source = c.in_ok-facts.ensures ∙ ap (flat_map fact_names) items in
    let same = ap (first_of (unknown_item facts)) items ∙ ap (λ (fs : List (List ℕ)). first_of (unknown_item fs) source) named in
    let schemas = c.in_ok-schemas.ensures ∙ ap file_schemas items in
    let rules = c.in_ok-rules.ensures ∙ (ap (flat_map (rules_of facts)) items ∙ ap (λ (fs : List (List ℕ)). flat_map (rules_of fs) source) named) in
    (sym same ∙ (sym c.in_ok-at.ensures ∙ c.in_default.is), rw (schemas, rules) at c.in-Err.ensures.fault)

pub returns-in-Ok-clause-rules : goal.returns-in-Ok-clause-rules
returns-in-Ok-clause-rules c =
    let source = c.args.source.now.items in
    let facts = c.in_ok-facts.facts in
    let items = c.as_slice-items.ensures.value in
    let named : facts ≡ flat_map fact_names source = c.in_ok-facts.ensures ∙ ap (flat_map fact_names) items in
    let same = ap (first_of (unknown_item facts)) items ∙ ap (λ (fs : List (List ℕ)). first_of (unknown_item fs) source) named in
    let schemas : c.in_ok-schemas.schemas.items ≡ file_schemas source = c.in_ok-schemas.ensures ∙ ap file_schemas items in
    let rules : c.in_ok-rules.rules.items ≡ file_rules source = c.in_ok-rules.ensures ∙ (ap (flat_map (rules_of facts)) items ∙ ap (λ (fs : List (List ℕ)). flat_map (rules_of fs) source) named) in
    let file : c.in-Ok.file ≡ record { schemas = c.in_ok-schemas.schemas.items; rules = c.in_ok-rules.rules.items } = c.in-Ok.ensures.file in
    record {
      known = sym same ∙ (sym c.in_ok-at.ensures ∙ c.in_default.is);
      told = file ∙ (λ i. record { schemas = schemas i; rules = rules i });
      passes = ap (λ (f : Rules). file_fault f.schemas f.rules) file ∙ c.in-Ok.ensures.passes;
    }
