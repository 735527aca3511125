-- Where a sound rule applies, what it concludes is true in the model of the step.
use Rattle.std.proofs.Common.{ℕ, ◌≡◌, true, ◌++◌, List, [], ◌∷◌, map, refl, ap, sym, ◌∙◌}
use Rattle.std.specs.List.{flat_map, list_all}
use Rattle.std.proofs.lemmas.Bool.{and_parts, and_from}
use Rattle.std.proofs.lemmas.List.Folds.{list_all-append}
use Rattle.rh_list.specs.Each.{Each}
use Rattle.rh_il.specs.declared.program.Slot.{Slot}
use Rattle.rh_il.specs.declared.value.Value.{Value}
use Rattle.rh_rule.specs.declared.rule.Conclusion.TheVariants.{Fact}
use Rattle.rh_rule.specs.declared.rule.FactUse.{FactUse}
use Rattle.rh_rule.specs.declared.rule.Form.{Form}
use Rattle.rh_rule.specs.declared.rule.Rule.{Rule}
use Rattle.rh_rule.specs.declared.schema.Param.{Param}
use Rattle.rh_rule.specs.declared.schema.Schema.{Schema}
use Rattle.rh_rule.specs.Kinds.{conclusion_has_kinds, fact_has_kinds, form_has_kinds, side_has_kinds}
use Rattle.rh_rule.specs.Numbers.{conclusion_has_arity, fact_has_arity}
use Rattle.rh_rule.specs.RuleFiles.{RulePassed, SchemaPassed}
use Rattle.rh_rule.specs.Shapes.{conclusion_has_shape, fact_has_shape, is_pattern}
use Rattle.rh_domain.specs.Binding.{Binding, FitsBinding}
use Rattle.rh_ground.specs.Instance.{fact_under, side_holds}
use Rattle.rh_term.specs.Model.{Model, AStore}
use Rattle.rh_term.proofs.Stores.{SameReads}
use Rattle.rh_goals.specs.Goals.{conclusion_goals, goals}
use Rattle.rh_goals.specs.Hypotheses.{conclusion_clauses, hypotheses, own_clauses, side_literal, slot_literals, units}
use Rattle.rh_meaning.specs.Literal.{TreeClause}
use Rattle.rh_meaning.specs.Meaning.{fact_literals}
use Rattle.rh_goals.specs.Statement.{before, step_literals, store_after}
use Rattle.rh_goals.specs.Valid.{IsSound}
use Rattle.rh_meaning.specs.Denotation.{denotation, are_true_in, is_true_in}
use Rattle.rh_lift.specs.Standing.{fact_holds}
use Rattle.rh_lift.proofs.Meanings.{fact_meant}
use Rattle.rh_lift.proofs.Models.{AreValues, Around, is_model, model_of}
use Rattle.rh_lift.proofs.SameFacts.{fact_same}
use Rattle.rh_lift.proofs.Sides.{sides_true}
use Rattle.rh_lift.proofs.Truth.{both_true, goals_true, units_true}

-- a sound rule of a rule file under a binding, where its conditions and premises hold
pub record Applies (schemas : List Schema) (rule : Rule) (width : ℕ) (binding : Binding) (base : ℕ) (around : Around) : Type 0 where
  pub schemas_passed : Each SchemaPassed schemas
  pub passed : RulePassed schemas rule
  pub sound : IsSound schemas rule
  pub fits : FitsBinding width rule.params binding
  pub values : AreValues around
  pub sides : list_all (side_holds binding) rule.sides ≡ true
  pub premises : list_all (λ premise. fact_holds schemas base around.before (fact_under binding premise)) rule.premises ≡ true

-- a step in a model: the statement can step, and goes the way of the slot; what its form says of its own is true; and
-- the store that the form leaves reads like the new one
pub record Steps (params : List Param) (binding : Binding) (base : ℕ) (around : Around) (pattern : Form) (slot : Slot) (new : List Value) : Type 0 where
  pub steps : list_all (is_true_in (model_of binding base around)) (step_literals params pattern) ≡ true
  pub ways : list_all (is_true_in (model_of binding base around)) (slot_literals params pattern slot) ≡ true
  pub own : are_true_in (model_of binding base around) (own_clauses params pattern) ≡ true
  pub store : List Value
  pub is_store : denotation (model_of binding base around) (store_after params pattern) ≡ AStore store
  pub reads : SameReads store new

-- the checks of a rule, one by one
pub record Checked (schemas : List Schema) (rule : Rule) : Type 0 where
  pub pattern_kinds : form_has_kinds rule.params rule.pattern ≡ true
  pub premise_kinds : list_all (fact_has_kinds schemas rule.params) rule.premises ≡ true
  pub side_kinds : list_all (side_has_kinds rule.params) rule.sides ≡ true
  pub conclusion_kinds : conclusion_has_kinds schemas rule.params rule.conclusion ≡ true
  pub premise_arity : list_all (fact_has_arity schemas) rule.premises ≡ true
  pub conclusion_arity : conclusion_has_arity schemas rule.conclusion ≡ true
  pub pattern_shape : is_pattern rule.pattern ≡ true
  pub premise_shape : list_all fact_has_shape rule.premises ≡ true
  pub conclusion_shape : conclusion_has_shape rule.pattern rule.conclusion ≡ true

pub checked : (schemas : List Schema) (rule : Rule) → RulePassed schemas rule → Checked schemas rule
checked schemas rule passed =
    let kinds = and_parts _ _ passed.kinds in
    let more = and_parts _ _ kinds.1 in
    let most = and_parts _ _ more.1 in
    let arity = and_parts _ _ passed.arity in
    let shape = and_parts _ _ passed.shape in
    let shapes = and_parts _ _ shape.1 in
    record {
      pattern_kinds = kinds.0;
      premise_kinds = more.0;
      side_kinds = most.0;
      conclusion_kinds = most.1;
      premise_arity = arity.0;
      conclusion_arity = arity.1;
      pattern_shape = shape.0;
      premise_shape = shapes.0;
      conclusion_shape = shapes.1;
    }

module _ (schemas : List Schema) (rule : Rule) (width : ℕ) (binding : Binding) (base : ℕ) (around : Around) (applies : Applies schemas rule width binding base around) where
  abbrev model : Model
  model = model_of binding base around

  abbrev checks : Checked schemas rule
  checks = checked schemas rule applies.passed

  premises_true : (premises : List FactUse) → list_all (fact_has_kinds schemas rule.params) premises ≡ true → list_all (fact_has_arity schemas) premises ≡ true → list_all fact_has_shape premises ≡ true
      → list_all (λ premise. fact_holds schemas base around.before (fact_under binding premise)) premises ≡ true
      → list_all (is_true_in model) (flat_map (fact_literals schemas rule.params before) premises) ≡ true
  premises_true [] kinds arity shape hold = refl
  premises_true (premise ∷ premises) kinds arity shape hold =
      let kind_parts = and_parts _ _ kinds in
      let arity_parts = and_parts _ _ arity in
      let shape_parts = and_parts _ _ shape in
      let hold_parts = and_parts _ _ hold in
      list_all-append (is_true_in model) (fact_literals schemas rule.params before premise) (flat_map (fact_literals schemas rule.params before) premises)
      ∙ and_from _ _
      (fact_meant width rule.params binding base around applies.fits before around.before refl schemas premise applies.schemas_passed kind_parts.0 arity_parts.0 shape_parts.0 ∙ hold_parts.0)
      (premises_true premises kind_parts.1 arity_parts.1 shape_parts.1 hold_parts.1)

  -- the goals are true where the statement steps and what the conclusion adds is true
  pub goals_hold : list_all (is_true_in model) (step_literals rule.params rule.pattern) ≡ true → are_true_in model (conclusion_clauses rule.params rule.pattern rule.conclusion) ≡ true
      → list_all (is_true_in model) (goals schemas rule) ≡ true
  goals_hold steps own =
      let premises : List TreeClause = units (flat_map (fact_literals schemas rule.params before) rule.premises) in
      let sides : List TreeClause = units (map (side_literal rule.params) rule.sides) in
      let step : List TreeClause = units (step_literals rule.params rule.pattern) in
      let added : List TreeClause = conclusion_clauses rule.params rule.pattern rule.conclusion in
      let premises_are : are_true_in model premises ≡ true =
      units_true model (flat_map (fact_literals schemas rule.params before) rule.premises)
      ∙ premises_true rule.premises checks.premise_kinds checks.premise_arity checks.premise_shape applies.premises in
      let sides_are : are_true_in model sides ≡ true =
      units_true model (map (side_literal rule.params) rule.sides) ∙ sides_true width rule.params binding base around applies.fits rule.sides checks.side_kinds applies.sides in
      let step_is : are_true_in model step ≡ true = units_true model (step_literals rule.params rule.pattern) ∙ steps in
      goals_true model (hypotheses schemas rule) (goals schemas rule) (is_model width rule.params binding base around applies.fits applies.values)
      (both_true model ((premises ++ sides) ++ step) added (both_true model (premises ++ sides) step (both_true model premises sides premises_are sides_are) step_is) own)
      applies.sound

  -- the concluded fact holds after the step
  pub concluded : (fact : FactUse) (slot : Slot) (new : List Value) → rule.conclusion ≡ Fact fact slot → Steps rule.params binding base around rule.pattern slot new
      → fact_holds schemas base new (fact_under binding fact) ≡ true
  concluded fact slot new is step =
      let clauses_true : are_true_in model (conclusion_clauses rule.params rule.pattern (Fact fact slot)) ≡ true =
      both_true model (units (slot_literals rule.params rule.pattern slot)) (own_clauses rule.params rule.pattern)
      (units_true model (slot_literals rule.params rule.pattern slot) ∙ step.ways) step.own in
      let all = goals_hold step.steps (ap (λ c. are_true_in model (conclusion_clauses rule.params rule.pattern c)) is ∙ clauses_true) in
      let literals : list_all (is_true_in model) (fact_literals schemas rule.params (store_after rule.params rule.pattern) fact) ≡ true =
      sym (ap (λ c. list_all (is_true_in model) (conclusion_goals schemas rule.params rule.pattern c)) is) ∙ all in
      sym (fact_same base step.store new step.reads schemas (fact_under binding fact))
      ∙ sym (fact_meant width rule.params binding base around applies.fits (store_after rule.params rule.pattern) step.store step.is_store schemas fact applies.schemas_passed
      (sym (ap (conclusion_has_kinds schemas rule.params) is) ∙ checks.conclusion_kinds)
      (sym (ap (conclusion_has_arity schemas) is) ∙ checks.conclusion_arity)
      (sym (ap (conclusion_has_shape rule.pattern) is) ∙ checks.conclusion_shape))
      ∙ literals
