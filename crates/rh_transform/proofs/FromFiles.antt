-- Templates of the rules of a rule file are of the class of their pattern.
use Rattle.std.proofs.Common.{ℕ, ◌≡◌, true, false, not, List, [], ◌∷◌, Option, Some, None, refl, ap, sym, ◌∙◌}
use Rattle.std.proofs.lemmas.Bool.{and_parts}
use Rattle.std.specs.List.{AllByRecursion}
use Rattle.std.specs.Option.{option_map_or}
use Rattle.std.specs.Prelude.{slice_get}
use Rattle.rh_rule.specs.declared.rule.Conclusion.TheVariants.{Transform}
use Rattle.rh_rule.specs.declared.rule.Form.{Form}
use Rattle.rh_rule.specs.declared.rule.Form.TheVariants.{Entry, Goto, Skip, AnyAssign, Assign, Address, Load, Compute, Write, New, Call, If, Return}
use Rattle.rh_rule.specs.declared.rule.Rule.{Rule}
use Rattle.rh_rule.specs.declared.rule.RuleBase.{RuleBase}
use Rattle.rh_rule.specs.declared.rule.RuleBase.TheVariants.{Meta, Num, Wild}
use Rattle.rh_rule.specs.declared.schema.Kind.{Kind}
use Rattle.rh_rule.specs.declared.schema.Kind.TheVariants.{Var, Const}
use Rattle.rh_rule.specs.declared.schema.Param.{Param}
use Rattle.rh_rule.specs.declared.schema.Schema.{Schema}
use Rattle.rh_rule.specs.Kinds.{conclusion_has_kinds, form_has_kinds, is_var, is_var_kind}
use Rattle.rh_rule.specs.Params.{kind_of}
use Rattle.rh_rule.specs.RuleFiles.{RulePassed}
use Rattle.rh_rule.specs.Shapes.{class_eq, class_of, conclusion_has_shape, has_wild, is_statement, may_replace}
use Rattle.rh_ground.specs.Template.{IsPlain, IsTame, IsTemplateOf}

kind_is : (kind : Kind) → is_var_kind kind ≡ true → kind ≡ Var
kind_is Var is = refl
kind_is Const is = absurd cc

param_is : (param : Option Param) → option_map_or (λ p. is_var_kind p.kind) param false ≡ true → option_map_or (λ p. p.kind) param Const ≡ Var
param_is None is = absurd cc
param_is (Some param) is = kind_is param.kind is

is_variable : (params : List Param) (meta : ℕ) → is_var params meta ≡ true → kind_of params meta ≡ Var
is_variable params meta is = param_is (slice_get params meta) is

all_tame : (bases : List RuleBase) → not (has_wild bases) ≡ true → AllByRecursion IsTame bases
all_tame [] tame = tt
all_tame (Meta meta ∷ bases) tame = (tt, all_tame bases tame)
all_tame (Num number ∷ bases) tame = (tt, all_tame bases tame)
all_tame (Wild ∷ bases) tame = absurd cc

-- what a form that is made or replaced has
plain_from : (params : List Param) (form : Form) → class_eq (class_of form) (class_of Skip) ≡ true → is_statement form ≡ true → form_has_kinds params form ≡ true → IsPlain params form
plain_from params (Entry param) class statement kinds = absurd cc
plain_from params Goto class statement kinds = absurd cc
plain_from params Skip class statement kinds = tt
plain_from params (AnyAssign to) class statement kinds = absurd cc
plain_from params (Assign to from) class statement kinds = (is_variable params to kinds, (all_tame (Meta to ∷ from ∷ []) statement).1.0)
plain_from params (Address to of) class statement kinds = let parts = and_parts _ _ kinds in (is_variable params to parts.0, is_variable params of parts.1)
plain_from params (Load to from) class statement kinds = let parts = and_parts _ _ kinds in (is_variable params to parts.0, is_variable params from parts.1)
plain_from params (Compute to op left right) class statement kinds =
    let tame = all_tame (Meta to ∷ left ∷ right ∷ []) statement in
    (is_variable params to kinds, tame.1.0, tame.1.1.0)
plain_from params (Write to from) class statement kinds = (is_variable params to kinds, (all_tame (Meta to ∷ from ∷ []) statement).1.0)
plain_from params (New to) class statement kinds = absurd cc
plain_from params (Call to arg) class statement kinds = absurd cc
plain_from params (If cond) class statement kinds = absurd cc
plain_from params (Return value) class statement kinds = absurd cc

calls_from : (params : List Param) (to : ℕ) (arg : RuleBase) (template : Form) → class_eq (class_of template) (class_of (Call to arg)) ≡ true → is_statement (Call to arg) ≡ true → is_statement template ≡ true
    → form_has_kinds params (Call to arg) ≡ true → form_has_kinds params template ≡ true → IsTemplateOf params (Call to arg) template
calls_from params to arg (Call to' arg') class statement made kinds made_kinds =
    (is_variable params to kinds, is_variable params to' made_kinds, (all_tame (Meta to ∷ arg ∷ []) statement).1.0, (all_tame (Meta to' ∷ arg' ∷ []) made).1.0)
calls_from params to arg (Entry param) class statement made kinds made_kinds = absurd cc
calls_from params to arg Goto class statement made kinds made_kinds = absurd cc
calls_from params to arg Skip class statement made kinds made_kinds = absurd cc
calls_from params to arg (AnyAssign x) class statement made kinds made_kinds = absurd cc
calls_from params to arg (Assign x from) class statement made kinds made_kinds = absurd cc
calls_from params to arg (Address x of) class statement made kinds made_kinds = absurd cc
calls_from params to arg (Load x from) class statement made kinds made_kinds = absurd cc
calls_from params to arg (Compute x op left right) class statement made kinds made_kinds = absurd cc
calls_from params to arg (Write x from) class statement made kinds made_kinds = absurd cc
calls_from params to arg (New x) class statement made kinds made_kinds = absurd cc
calls_from params to arg (If cond) class statement made kinds made_kinds = absurd cc
calls_from params to arg (Return value) class statement made kinds made_kinds = absurd cc

branches_from : (params : List Param) (cond : RuleBase) (template : Form) → class_eq (class_of template) (class_of (If cond)) ≡ true → is_statement (If cond) ≡ true → is_statement template ≡ true → IsTemplateOf params (If cond) template
branches_from params cond (If cond') class statement made = ((all_tame (cond ∷ []) statement).0, (all_tame (cond' ∷ []) made).0)
branches_from params cond (Call x arg) class statement made = absurd cc
branches_from params cond (Entry param) class statement made = absurd cc
branches_from params cond Goto class statement made = absurd cc
branches_from params cond Skip class statement made = absurd cc
branches_from params cond (AnyAssign x) class statement made = absurd cc
branches_from params cond (Assign x from) class statement made = absurd cc
branches_from params cond (Address x of) class statement made = absurd cc
branches_from params cond (Load x from) class statement made = absurd cc
branches_from params cond (Compute x op left right) class statement made = absurd cc
branches_from params cond (Write x from) class statement made = absurd cc
branches_from params cond (New x) class statement made = absurd cc
branches_from params cond (Return value) class statement made = absurd cc

returns_from : (params : List Param) (value : RuleBase) (template : Form) → class_eq (class_of template) (class_of (Return value)) ≡ true → is_statement (Return value) ≡ true → is_statement template ≡ true → IsTemplateOf params (Return value) template
returns_from params value (Return value') class statement made = ((all_tame (value ∷ []) statement).0, (all_tame (value' ∷ []) made).0)
returns_from params value (If cond) class statement made = absurd cc
returns_from params value (Call x arg) class statement made = absurd cc
returns_from params value (Entry param) class statement made = absurd cc
returns_from params value Goto class statement made = absurd cc
returns_from params value Skip class statement made = absurd cc
returns_from params value (AnyAssign x) class statement made = absurd cc
returns_from params value (Assign x from) class statement made = absurd cc
returns_from params value (Address x of) class statement made = absurd cc
returns_from params value (Load x from) class statement made = absurd cc
returns_from params value (Compute x op left right) class statement made = absurd cc
returns_from params value (Write x from) class statement made = absurd cc
returns_from params value (New x) class statement made = absurd cc

template_from : (params : List Param) (pattern template : Form) → class_eq (class_of template) (class_of pattern) ≡ true → is_statement pattern ≡ true → is_statement template ≡ true
    → form_has_kinds params pattern ≡ true → form_has_kinds params template ≡ true → IsTemplateOf params pattern template
template_from params (Call to arg) template class statement made kinds made_kinds = calls_from params to arg template class statement made kinds made_kinds
template_from params (If cond) template class statement made kinds made_kinds = branches_from params cond template class statement made
template_from params (Return value) template class statement made kinds made_kinds = returns_from params value template class statement made
template_from params (Entry param) template class statement made kinds made_kinds = absurd cc
template_from params Goto template class statement made kinds made_kinds = absurd cc
template_from params Skip template class statement made kinds made_kinds = (plain_from params Skip refl statement kinds, plain_from params template class made made_kinds)
template_from params (AnyAssign to) template class statement made kinds made_kinds = absurd cc
template_from params (Assign to from) template class statement made kinds made_kinds = (plain_from params (Assign to from) refl statement kinds, plain_from params template class made made_kinds)
template_from params (Address to of) template class statement made kinds made_kinds = (plain_from params (Address to of) refl statement kinds, plain_from params template class made made_kinds)
template_from params (Load to from) template class statement made kinds made_kinds = (plain_from params (Load to from) refl statement kinds, plain_from params template class made made_kinds)
template_from params (Compute to op left right) template class statement made kinds made_kinds = (plain_from params (Compute to op left right) refl statement kinds, plain_from params template class made made_kinds)
template_from params (Write to from) template class statement made kinds made_kinds = (plain_from params (Write to from) refl statement kinds, plain_from params template class made made_kinds)
template_from params (New to) template class statement made kinds made_kinds = absurd cc

-- a template of a rule that passes its checks is of the class of its pattern
pub template_of_rule : (schemas : List Schema) (rule : Rule) (template : Form) → RulePassed schemas rule → rule.conclusion ≡ Transform template → IsTemplateOf rule.params rule.pattern template
template_of_rule schemas rule template passed is =
    let kinds = and_parts _ _ passed.kinds in
    let made_kinds : conclusion_has_kinds schemas rule.params rule.conclusion ≡ true = (and_parts _ _ (and_parts _ _ kinds.1).1).1 in
    let shape : conclusion_has_shape rule.pattern rule.conclusion ≡ true = (and_parts _ _ (and_parts _ _ passed.shape).1).1 in
    let replaces : may_replace template rule.pattern ≡ true = sym (ap (conclusion_has_shape rule.pattern) is) ∙ shape in
    let statements = and_parts _ _ replaces in
    let made = and_parts _ _ statements.1 in
    template_from rule.params rule.pattern template made.1 statements.0 made.0 kinds.0 (sym (ap (conclusion_has_kinds schemas rule.params) is) ∙ made_kinds)
