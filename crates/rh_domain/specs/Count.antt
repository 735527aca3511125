-- How many facts there are.
use Rattle.std.specs.Prelude.{ℕ, ◌+◌, ◌*◌, ◌≤◌, List, [], ◌∷◌, length}
use Rattle.std.specs.List.{AllByRecursion}
use Rattle.rh_rule.specs.declared.schema.Param.{Param}
use Rattle.rh_rule.specs.declared.schema.Schema.{Schema}
use Rattle.rh_domain.specs.declared.domain.Domain.{Domain}
use Rattle.rh_domain.specs.Binding.{args_in}

-- how many bindings there are of parameters
abbrev pub binding_count : Domain → List Param → ℕ
binding_count domain [] = 1
binding_count domain (param ∷ params) = length (args_in domain param.kind) * binding_count domain params

-- how many facts there are of the schemas
abbrev pub fact_count : Domain → List Schema → ℕ
fact_count domain [] = 0
fact_count domain (schema ∷ schemas) = binding_count domain schema.params + fact_count domain schemas

-- as many variables and constants as a procedure may have
pub record IsSmall (domain : Domain) : Type 0 where
  pub vars : domain.vars ≤ 64
  pub constants : length domain.constants ≤ 2050

-- as many schemas, and parameters, as a rule file may have
pub record AreFew (schemas : List Schema) : Type 0 where
  pub schemas_few : length schemas ≤ 64
  pub params_few : AllByRecursion (λ (schema : Schema). length schema.params ≤ 6) schemas
