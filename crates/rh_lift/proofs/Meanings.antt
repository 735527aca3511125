-- The literals of a fact are true in the model of a step exactly where the fact holds.
use Rattle.std.proofs.Common.{ℕ, ◌≡◌, true, false, not, ◌==◌, List, [], ◌∷◌, map, length, Option, Some, None, refl}
use Rattle.std.specs.List.{list_all, AllByRecursion}
use Rattle.std.specs.Option.{option_map_or}
use Rattle.std.specs.Prelude.{slice_get}
use Rattle.std.proofs.lemmas.Bool.{eqb-true}
use Rattle.rh_list.specs.Each.{Each}
use Rattle.rh_il.specs.declared.value.Value.{Value}
use Rattle.rh_rule.specs.declared.rule.FactUse.{FactUse}
use Rattle.rh_rule.specs.declared.rule.RuleBase.{RuleBase}
use Rattle.rh_rule.specs.declared.rule.RuleBase.TheVariants.{Meta, Num, Wild}
use Rattle.rh_rule.specs.declared.schema.Param.{Param}
use Rattle.rh_rule.specs.declared.schema.Schema.{Schema}
use Rattle.rh_rule.specs.Kinds.{args_fit, fact_has_kinds}
use Rattle.rh_rule.specs.Numbers.{fact_has_arity}
use Rattle.rh_rule.specs.RuleFiles.{SchemaPassed}
use Rattle.rh_rule.specs.Shapes.{fact_has_shape, has_wild}
use Rattle.rh_domain.specs.Binding.{Binding, FitsBinding, arg_under}
use Rattle.rh_ground.specs.Instance.{fact_under}
use Rattle.rh_ground.specs.Template.{IsTame}
use Rattle.rh_term.specs.Model.{AStore}
use Rattle.rh_meaning.specs.Denotation.{denotation, is_true_in}
use Rattle.rh_meaning.specs.Holds.{holds_over}
use Rattle.rh_meaning.specs.Laws.{StandForAll}
use Rattle.rh_meaning.specs.Literal.{TreeLit}
use Rattle.rh_meaning.specs.Meaning.{fact_literals, schema_literals}
use Rattle.rh_meaning.specs.Tree.{Tree}
use Rattle.rh_meaning.proofs.Says.{schema_says}
use Rattle.rh_lift.specs.Standing.{fact_holds}
use Rattle.rh_lift.proofs.Models.{Around, model_of, operand_stands}

all_tame : (bases : List RuleBase) → not (has_wild bases) ≡ true → AllByRecursion IsTame bases
all_tame [] tame = tt
all_tame (Meta meta ∷ bases) tame = (tt, all_tame bases tame)
all_tame (Num number ∷ bases) tame = (tt, all_tame bases tame)
all_tame (Wild ∷ bases) tame = absurd cc

module _ (width : ℕ) (params : List Param) (binding : Binding) (base : ℕ) (around : Around) (fits : FitsBinding width params binding)
    (store : Tree) (cells : List Value) (is_store : denotation (model_of binding base around) store ≡ AStore cells) where
  all_stand : (bases : List RuleBase) → AllByRecursion IsTame bases → StandForAll (model_of binding base around) base params bases (map (arg_under binding) bases)
  all_stand [] tame = tt
  all_stand (b ∷ bases) tame = (operand_stands width params binding base around fits b tame.0, all_stand bases tame.1)

  -- a fact over a store
  pub fact_meant : (schemas : List Schema) (fact : FactUse) → Each SchemaPassed schemas → fact_has_kinds schemas params fact ≡ true → fact_has_arity schemas fact ≡ true → fact_has_shape fact ≡ true
      → list_all (is_true_in (model_of binding base around)) (fact_literals schemas params store fact) ≡ fact_holds schemas base cells (fact_under binding fact)
  fact_meant schemas fact passed kinds arity shape = by_schema (slice_get schemas fact.schema) refl kinds arity
    where
      by_schema : (found : Option Schema) → slice_get schemas fact.schema ≡ found → option_map_or (λ (schema : Schema). args_fit params schema.params fact.args) found false ≡ true
          → option_map_or (λ (schema : Schema). length fact.args == length schema.params) found false ≡ true
          → list_all (is_true_in (model_of binding base around)) (elim found as (λ _. List TreeLit) [ None ↦ [] | Some schema ↦ schema_literals params fact.args store schema ])
          ≡ option_map_or (λ schema. holds_over base cells schema (map (arg_under binding) fact.args)) found false
      by_schema None read fit as_many = absurd cc
      by_schema (Some schema) read fit as_many =
          schema_says (model_of binding base around) base params store cells is_store schema fact.args (map (arg_under binding) fact.args) (passed fact.schema schema read) (eqb-true _ _ as_many) fit
          (all_stand fact.args (all_tame fact.args shape))
