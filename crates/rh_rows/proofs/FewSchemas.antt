-- A rule file has few schemas, with few parameters each.
use Rattle.std.proofs.Common.{ℕ, suc, ◌≡◌, ◌≤◌, List, [], ◌∷◌, length, Some, refl}
use Rattle.std.specs.List.{AllByRecursion}
use Rattle.std.specs.Prelude.{slice_get}
use Rattle.rh_rule.specs.declared.schema.Schema.{Schema}
use Rattle.rh_rule.specs.RuleFiles.{IsRuleFile, Rules}
use Rattle.rh_rule.proofs.Passed.{passed, schema_passed}
use Rattle.rh_domain.specs.Count.{AreFew}

by_place : {X : Type 0} (P : X → Type 0) (xs : List X) → ((i : ℕ) (x : X) → slice_get xs i ≡ Some x → P x) → AllByRecursion P xs
by_place P [] each = tt
by_place P (x ∷ xs) each = (each 0 x refl, by_place P xs (λ i. each (suc i)))

pub few_schemas : (file : Rules) → IsRuleFile file → AreFew file.schemas
few_schemas file is = record {
  schemas_few = (passed file.schemas file.rules is.passes).few_schemas;
  params_few = by_place (λ (schema : Schema). length schema.params ≤ 6) file.schemas (λ i schema read. (schema_passed file i schema is read).few_params);
}
