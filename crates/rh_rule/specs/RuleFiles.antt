-- Rule files: schemas and rules that pass every check.
use Rattle.std.specs.Prelude.{ℕ, ◌≡◌, ◌≤◌, true, List, None, Some, IfSome, length, slice_get}
use Rattle.std.specs.List.{AllByRecursion, list_all}
use Rattle.rh_rule.specs.declared.schema.Schema.{Schema}
use Rattle.rh_rule.specs.declared.rule.Rule.{Rule}
use Rattle.rh_rule.specs.Words.{are_proper}
use Rattle.rh_rule.specs.Numbers.{atom_is_below, has_numbers, has_arity}
use Rattle.rh_rule.specs.Kinds.{atom_has_kinds, has_kinds}
use Rattle.rh_rule.specs.Shapes.{has_shape, has_slots}
use Rattle.rh_rule.specs.Checks.{file_fault}
use Rattle.rh_rule.specs.Ranges.{SchemaNumbersFit, RuleNumbersFit}

pub record Rules : Type 0 where
  pub schemas : List Schema
  pub rules : List Rule

-- the numbers in them are of 64 bits
pub record FileNumbersFit (file : Rules) : Type 0 where
  pub schemas : AllByRecursion SchemaNumbersFit file.schemas
  pub rules : AllByRecursion RuleNumbersFit file.rules

-- they pass every check, their numbers are of 64 bits, and their names are proper
pub record IsRuleFile (file : Rules) : Type 0 where
  pub numbers : FileNumbersFit file
  pub names : are_proper file.schemas file.rules ≡ true
  pub passes : file_fault file.schemas file.rules ≡ None

-- the rule is one of a rule file with these schemas
pub record IsRuleOf (schemas : List Schema) (rule : Rule) : Type 0 where
  pub rules : List Rule
  pub number : ℕ
  pub file : IsRuleFile (record { schemas = schemas; rules = rules })
  pub stands : slice_get rules number ≡ Some rule

-- the rule with this number in a rule file has the property, over the schemas of the file
abbrev pub OfRule : Rules → ℕ → (List Schema → Rule → Type 0) → Type 0
OfRule file number property = IfSome (slice_get file.rules number) (property file.schemas)

-- what each schema of a rule file has
pub record SchemaPassed (schema : Schema) : Type 0 where
  pub some_params : 1 ≤ length schema.params
  pub few_params : length schema.params ≤ 6
  pub some_atoms : 1 ≤ length schema.meaning
  pub few_atoms : length schema.meaning ≤ 4
  pub numbers : list_all (atom_is_below (length schema.params)) schema.meaning ≡ true
  pub kinds : list_all (atom_has_kinds schema.params) schema.meaning ≡ true

-- what each rule of one has, over its schemas
pub record RulePassed (schemas : List Schema) (rule : Rule) : Type 0 where
  pub params : length rule.params ≤ 6
  pub premises : length rule.premises ≤ 8
  pub sides : length rule.sides ≤ 8
  pub numbers : has_numbers (length schemas) rule ≡ true
  pub arity : has_arity schemas rule ≡ true
  pub kinds : has_kinds schemas rule ≡ true
  pub shape : has_shape rule ≡ true
  pub slots : has_slots rule ≡ true
