-- What schemas and rules that pass every check are known to have.
use Rattle.std.proofs.Common.{◌≡◌, ℕ, ◌≤◌, Bool, true, false, List, length, Option, Some, None, refl, sym, ap, subst, ◌∙◌}
use Rattle.std.proofs.lemmas.Bool.{leb-true, and_parts}
use Rattle.std.proofs.lemmas.Option.{slice_get_within}
use Rattle.std.specs.Prelude.{IfSome, slice_get}
use Rattle.std.specs.Option.{option_and_then}
use Rattle.rh_il.specs.Checks.{first_some}
use Rattle.rh_il.proofs.Passed.{none_at, none_parts}
use Rattle.rh_rule.specs.declared.schema.Schema.{Schema}
use Rattle.rh_rule.specs.declared.rule.Rule.{Rule}
use Rattle.rh_rule.specs.declared.fault.RuleWrong.{RuleWrong}
use Rattle.rh_rule.specs.declared.fault.Item.{Item}
use Rattle.rh_rule.specs.Checks.{unless, schema_fault, rule_fault, file_fault}
use Rattle.rh_rule.specs.RuleFiles.{Rules, IsRuleFile, IsRuleOf, OfRule, SchemaPassed, RulePassed}

pub passes : (t : Bool) (kind : RuleWrong) (item : Item) → unless t kind item ≡ None → t ≡ true
passes true kind item h = refl
passes false kind item h = absurd cc

-- what is read of a list passes, where nothing in the list fails
read_passes : {X Y : Type 0} (fault : ℕ → X → Option Y) (xs : List X) (i : ℕ) (x : X) → first_some (length xs) (λ k. option_and_then (fault k) (slice_get xs k)) ≡ None → slice_get xs i ≡ Some x → fault i x ≡ None
read_passes fault xs i x none read =
    ap (option_and_then (fault i)) (sym read) ∙ none_at (length xs) (λ k. option_and_then (fault k) (slice_get xs k)) i none (slice_get_within xs i x read)

-- the parts of the checks of a rule file
pub record Passed (schemas : List Schema) (rules : List Rule) : Type 0 where
  pub few_schemas : length schemas ≤ 64
  pub few_rules : length rules ≤ 256
  pub each_schema : first_some (length schemas) (λ i. option_and_then (schema_fault i) (slice_get schemas i)) ≡ None
  pub each_rule : first_some (length rules) (λ i. option_and_then (rule_fault schemas i) (slice_get rules i)) ≡ None

pub passed : (schemas : List Schema) (rules : List Rule) → file_fault schemas rules ≡ None → Passed schemas rules
unfolding file_fault
passed schemas rules h =
    let a = none_parts _ _ h in
    let b = none_parts _ _ a.1 in
    let c = none_parts _ _ b.1 in
    let d = none_parts _ _ c.1 in
    let e = none_parts _ _ d.1 in
    record {
      few_schemas = leb-true _ _ (passes _ _ _ a.0);
      few_rules = leb-true _ _ (passes _ _ _ b.0);
      each_schema = e.0;
      each_rule = e.1;
    }

schema_parts : (number : ℕ) (schema : Schema) → schema_fault number schema ≡ None → SchemaPassed schema
unfolding schema_fault
schema_parts number schema h =
    let a = none_parts _ _ h in
    let b = none_parts _ _ a.1 in
    let c = none_parts _ _ b.1 in
    let d = none_parts _ _ c.1 in
    let params = and_parts _ _ (passes _ _ _ a.0) in
    let atoms = and_parts _ _ (passes _ _ _ c.0) in
    record {
      some_params = leb-true _ _ params.0;
      few_params = leb-true _ _ params.1;
      some_atoms = leb-true _ _ atoms.0;
      few_atoms = leb-true _ _ atoms.1;
      numbers = passes _ _ _ d.0;
      kinds = passes _ _ _ d.1;
    }

rule_parts : (schemas : List Schema) (number : ℕ) (rule : Rule) → rule_fault schemas number rule ≡ None → RulePassed schemas rule
unfolding rule_fault
rule_parts schemas number rule h =
    let a = none_parts _ _ h in
    let sizes = none_parts _ _ a.0 in
    let names = none_parts _ _ sizes.1 in
    let more = none_parts _ _ names.1 in
    let b = none_parts _ _ a.1 in
    let c = none_parts _ _ b.1 in
    let d = none_parts _ _ c.1 in
    let e = none_parts _ _ d.1 in
    let f = none_parts _ _ e.1 in
    record {
      params = leb-true _ _ (passes _ _ _ sizes.0);
      premises = leb-true _ _ (passes _ _ _ more.0);
      sides = leb-true _ _ (passes _ _ _ more.1);
      numbers = passes _ _ _ b.0;
      arity = passes _ _ _ c.0;
      kinds = passes _ _ _ d.0;
      shape = passes _ _ _ e.0;
      slots = passes _ _ _ f.0;
    }

-- a schema of a rule file
pub schema_passed : (file : Rules) (number : ℕ) (schema : Schema) → IsRuleFile file → slice_get file.schemas number ≡ Some schema → SchemaPassed schema
schema_passed file number schema is read =
    schema_parts number schema (read_passes schema_fault file.schemas number schema (passed file.schemas file.rules is.passes).each_schema read)

-- a rule of one
pub rule_passed : (file : Rules) (number : ℕ) (rule : Rule) → IsRuleFile file → slice_get file.rules number ≡ Some rule → RulePassed file.schemas rule
rule_passed file number rule is read =
    rule_parts file.schemas number rule (read_passes (rule_fault file.schemas) file.rules number rule (passed file.schemas file.rules is.passes).each_rule read)

-- a rule that is read of a rule file is one of it
pub rule_of : (file : Rules) (number : ℕ) (schemas : List Schema) (rule : Rule) → IsRuleFile file → schemas ≡ file.schemas → slice_get file.rules number ≡ Some rule → IsRuleOf schemas rule
rule_of file number schemas rule is same stands =
    subst (λ (known : List Schema). IsRuleOf known rule) (sym same) (record { rules = file.rules; number = number; file = is; stands = stands })

-- and what it has over the schemas, the rule with its number has
pub of_rule : (file : Rules) (number : ℕ) (schemas : List Schema) (rule : Rule) (property : List Schema → Rule → Type 0) → schemas ≡ file.schemas → slice_get file.rules number ≡ Some rule
    → property schemas rule → OfRule file number property
of_rule file number schemas rule property same stands has =
    subst (λ (found : Option Rule). IfSome found (property file.schemas)) (sym stands) (subst (λ (known : List Schema). property known rule) same has)
