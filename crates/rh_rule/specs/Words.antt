-- The names that a rule file may have.
use Rattle.std.specs.Prelude.{ℕ, Bool, ◌&&◌, List}
use Rattle.std.specs.List.{list_all}
use Rattle.std.specs.Option.{is_none}
use Rattle.rh_il.specs.Name.{is_lower_name, is_upper_name}
use Rattle.rh_rule.specs.Keywords.{keyword_of}
use Rattle.rh_rule.specs.declared.schema.Param.{Param}
use Rattle.rh_rule.specs.declared.schema.Schema.{Schema}
use Rattle.rh_rule.specs.declared.rule.Rule.{Rule}

-- a name that begins with a small letter and is no reserved word
abbrev pub is_proper : List ℕ → Bool
is_proper name = is_lower_name name && is_none (keyword_of name)

-- parameters and metavariables begin with a capital letter
abbrev pub are_proper_params : List Param → Bool
are_proper_params params = list_all (λ param. is_upper_name param.name) params

abbrev pub schema_is_proper : Schema → Bool
schema_is_proper schema = is_proper schema.name && are_proper_params schema.params

abbrev pub rule_is_proper : Rule → Bool
rule_is_proper rule = is_proper rule.name && are_proper_params rule.params

-- all names of a rule file are proper
abbrev pub are_proper : List Schema → List Rule → Bool
are_proper schemas rules = list_all schema_is_proper schemas && list_all rule_is_proper rules
