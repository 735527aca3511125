-- The checks of a rule file, in their order.
use Rattle.std.specs.Prelude.{ℕ, Bool, true, false, not, ◌&&◌, nat_le, List, length, take, Option, Some, None, slice_get}
use Rattle.std.specs.List.{list_any, list_all}
use Rattle.std.specs.Option.{option_or, option_and_then, option_map_or}
use Rattle.std.specs.Str.{bytes_eq}
use Rattle.rh_il.specs.Checks.{first_some}
use Rattle.rh_rule.specs.declared.schema.Param.{Param}
use Rattle.rh_rule.specs.declared.schema.Schema.{Schema}
use Rattle.rh_rule.specs.declared.rule.Rule.{Rule}
use Rattle.rh_rule.specs.declared.fault.Many.TheVariants.{Facts, Rules, Params, Atoms, Premises, Sides}
use Rattle.rh_rule.specs.declared.fault.RuleWrong.{RuleWrong}
use Rattle.rh_rule.specs.declared.fault.RuleWrong.TheVariants.{DuplicateName, BadNumber, Arity, KindMismatch, BadShape, BadSlot, UnusedMeta, Limit}
use Rattle.rh_rule.specs.declared.fault.Item.{Item}
use Rattle.rh_rule.specs.declared.fault.Item.TheVariants.{File, Fact as FactItem, Rule as RuleItem}
use Rattle.rh_rule.specs.declared.fault.RuleFault.{RuleFault}
use Rattle.rh_rule.specs.declared.fault.RuleFault.TheVariants.{Wrong}
use Rattle.rh_rule.specs.Numbers.{atom_is_below, has_numbers, has_arity}
use Rattle.rh_rule.specs.Kinds.{atom_has_kinds, has_kinds}
use Rattle.rh_rule.specs.Shapes.{has_shape, has_slots}
use Rattle.rh_rule.specs.Uses.{rule_names}

-- the fault, if the test fails
abbrev pub unless : Bool → RuleWrong → Item → Option RuleFault
unless true kind item = None
unless false kind item = Some (Wrong kind item)

-- no earlier parameter has the name of the one at the place
abbrev pub is_new_param_at : List Param → ℕ → Bool
is_new_param_at params i =
    option_map_or (λ p. not (list_any (λ other. bytes_eq p.name other.name) (take i params))) (slice_get params i) true

abbrev pub is_new_schema_at : List Schema → ℕ → Bool
is_new_schema_at schemas i =
    option_map_or (λ s. not (list_any (λ other. bytes_eq s.name other.name) (take i schemas))) (slice_get schemas i) true

abbrev pub is_new_rule_at : List Rule → ℕ → Bool
is_new_rule_at rules i =
    option_map_or (λ r. not (list_any (λ other. bytes_eq r.name other.name) (take i rules))) (slice_get rules i) true

-- two parameters have one name
abbrev pub params_fault : List Param → Item → Option RuleFault
params_fault params item = first_some (length params) (λ i. unless (is_new_param_at params i) DuplicateName item)

-- the first fault of a schema with this number
unfoldable pub schema_fault : ℕ → Schema → Option RuleFault
schema_fault number s =
    option_or (unless (nat_le 1 (length s.params) && nat_le (length s.params) 6) (Limit Params) (FactItem number))
    (option_or (params_fault s.params (FactItem number))
    (option_or (unless (nat_le 1 (length s.meaning) && nat_le (length s.meaning) 4) (Limit Atoms) (FactItem number))
    (option_or (unless (list_all (atom_is_below (length s.params)) s.meaning) BadNumber (FactItem number))
    (unless (list_all (atom_has_kinds s.params) s.meaning) KindMismatch (FactItem number)))))

-- there are too many of what a rule has
abbrev pub sizes_fault : ℕ → Rule → Option RuleFault
sizes_fault number r =
    option_or (unless (nat_le (length r.params) 6) (Limit Params) (RuleItem number))
    (option_or (params_fault r.params (RuleItem number))
    (option_or (unless (nat_le (length r.premises) 8) (Limit Premises) (RuleItem number))
    (unless (nat_le (length r.sides) 8) (Limit Sides) (RuleItem number))))

-- a metavariable is not used
abbrev pub uses_fault : ℕ → Rule → Option RuleFault
uses_fault number r = first_some (length r.params) (λ meta. unless (rule_names meta r) UnusedMeta (RuleItem number))

-- the first fault of a rule with this number, over the schemas
unfoldable pub rule_fault : List Schema → ℕ → Rule → Option RuleFault
rule_fault schemas number r =
    option_or (sizes_fault number r)
    (option_or (unless (has_numbers (length schemas) r) BadNumber (RuleItem number))
    (option_or (unless (has_arity schemas r) Arity (RuleItem number))
    (option_or (unless (has_kinds schemas r) KindMismatch (RuleItem number))
    (option_or (unless (has_shape r) BadShape (RuleItem number))
    (option_or (unless (has_slots r) BadSlot (RuleItem number)) (uses_fault number r))))))

-- that of a rule file
unfoldable pub file_fault : List Schema → List Rule → Option RuleFault
file_fault schemas rules =
    option_or (unless (nat_le (length schemas) 64) (Limit Facts) File)
    (option_or (unless (nat_le (length rules) 256) (Limit Rules) File)
    (option_or (first_some (length schemas) (λ i. unless (is_new_schema_at schemas i) DuplicateName (FactItem i)))
    (option_or (first_some (length rules) (λ i. unless (is_new_rule_at rules i) DuplicateName (RuleItem i)))
    (option_or (first_some (length schemas) (λ i. option_and_then (schema_fault i) (slice_get schemas i)))
    (first_some (length rules) (λ i. option_and_then (rule_fault schemas i) (slice_get rules i)))))))
