-- Variables stand where a variable has to, and numbers where a number has to.
use Rattle.std.specs.Prelude.{ℕ, Bool, true, false, not, ◌&&◌, ◌||◌, List, [], ◌∷◌, slice_get}
use Rattle.std.specs.List.{list_all}
use Rattle.std.specs.Option.{option_map_or}
use Rattle.rh_rule.specs.declared.schema.Kind.{Kind}
use Rattle.rh_rule.specs.declared.schema.Kind.TheVariants.{Var, Const}
use Rattle.rh_rule.specs.declared.schema.Param.{Param}
use Rattle.rh_rule.specs.declared.schema.MeaningTerm.{MeaningTerm}
use Rattle.rh_rule.specs.declared.schema.MeaningTerm.TheVariants.{Plain, Address as AnAddress, Deref, Compute as AComputation}
use Rattle.rh_rule.specs.declared.schema.MeaningAtom.{MeaningAtom}
use Rattle.rh_rule.specs.declared.schema.MeaningAtom.TheVariants.{Same as AreSame, Differ as DoDiffer, IsNumber, IsPointer, Unaliased}
use Rattle.rh_rule.specs.declared.schema.Schema.{Schema}
use Rattle.rh_rule.specs.declared.rule.RuleBase.{RuleBase}
use Rattle.rh_rule.specs.declared.rule.RuleBase.TheVariants.{Meta, Num, Wild}
use Rattle.rh_rule.specs.declared.rule.Form.{Form}
use Rattle.rh_rule.specs.declared.rule.Form.TheVariants.{Entry, Goto, Skip, AnyAssign, Assign, Address, Load, Compute, Write, New, Call, If, Return}
use Rattle.rh_rule.specs.declared.rule.FactUse.{FactUse}
use Rattle.rh_rule.specs.declared.rule.SideTerm.TheVariants.{Plain as APlain, Compute as Computed}
use Rattle.rh_rule.specs.declared.rule.Side.{Side}
use Rattle.rh_rule.specs.declared.rule.Side.TheVariants.{Same, Differ}
use Rattle.rh_rule.specs.declared.rule.Conclusion.{Conclusion}
use Rattle.rh_rule.specs.declared.rule.Conclusion.TheVariants.{Fact, Transform}
use Rattle.rh_rule.specs.declared.rule.Rule.{Rule}
use Rattle.rh_rule.specs.Operands.{term_operands, side_terms}

abbrev pub is_var_kind : Kind → Bool
is_var_kind Var = true
is_var_kind Const = false

-- the parameter or metavariable stands for a variable
abbrev pub is_var : List Param → ℕ → Bool
is_var params number = option_map_or (λ param. is_var_kind param.kind) (slice_get params number) false

-- what follows `&` or `*` in a meaning is a variable
abbrev pub term_has_kinds : List Param → MeaningTerm → Bool
term_has_kinds params (Plain base) = true
term_has_kinds params (AnAddress param) = is_var params param
term_has_kinds params (Deref param) = is_var params param
term_has_kinds params (AComputation op left right) = true

-- and what `unaliased` speaks of
abbrev pub atom_has_kinds : List Param → MeaningAtom → Bool
atom_has_kinds params (AreSame s t) = term_has_kinds params s && term_has_kinds params t
atom_has_kinds params (DoDiffer s t) = term_has_kinds params s && term_has_kinds params t
atom_has_kinds params (IsNumber t) = term_has_kinds params t
atom_has_kinds params (IsPointer t) = term_has_kinds params t
atom_has_kinds params (Unaliased param) = is_var params param

-- what stands to the left of `:=`, after `&` or `*` or in `entry` is a variable
abbrev pub form_has_kinds : List Param → Form → Bool
form_has_kinds params (Entry param) = is_var params param
form_has_kinds params Goto = true
form_has_kinds params Skip = true
form_has_kinds params (AnyAssign to) = is_var params to
form_has_kinds params (Assign to from) = is_var params to
form_has_kinds params (Address to of) = is_var params to && is_var params of
form_has_kinds params (Load to from) = is_var params to && is_var params from
form_has_kinds params (Compute to op left right) = is_var params to
form_has_kinds params (Write to from) = is_var params to
form_has_kinds params (New to) = is_var params to
form_has_kinds params (Call to arg) = is_var params to
form_has_kinds params (If cond) = true
form_has_kinds params (Return value) = true

-- the operand is a metavariable for a variable
abbrev pub is_var_base : List Param → RuleBase → Bool
is_var_base params (Meta meta) = is_var params meta
is_var_base params (Num number) = false
is_var_base params Wild = false

-- the operand is a number, or a metavariable for one
abbrev pub is_const_base : List Param → RuleBase → Bool
is_const_base params (Meta meta) = not (is_var params meta)
is_const_base params (Num number) = true
is_const_base params Wild = false

-- a metavariable for a variable stands in a place for a variable, and in no other
abbrev pub fits_place : List Param → Kind → RuleBase → Bool
fits_place params Var arg = is_var_base params arg
fits_place params Const arg = not (is_var_base params arg)

-- each argument, in the place of the parameter of its number
abbrev pub args_fit : List Param → List Param → List RuleBase → Bool
args_fit params [] args = true
args_fit params (place ∷ places) [] = true
args_fit params (place ∷ places) (arg ∷ args) = fits_place params place.kind arg && args_fit params places args

abbrev pub fact_has_kinds : List Schema → List Param → FactUse → Bool
fact_has_kinds schemas params fact = option_map_or (λ schema. args_fit params schema.params fact.args) (slice_get schemas fact.schema) false

-- a condition that two variables differ
abbrev pub is_of_variables : List Param → Side → Bool
is_of_variables params (Differ (APlain a) (APlain b)) = is_var_base params a && is_var_base params b
is_of_variables params (Differ (APlain a) (Computed op left right)) = false
is_of_variables params (Differ (Computed op left right) t) = false
is_of_variables params (Same s t) = false

-- a condition on numbers alone
abbrev pub is_of_numbers : List Param → Side → Bool
is_of_numbers params side =
    list_all (is_const_base params) (term_operands (side_terms side).0) && list_all (is_const_base params) (term_operands (side_terms side).1)

abbrev pub side_has_kinds : List Param → Side → Bool
side_has_kinds params side = is_of_variables params side || is_of_numbers params side

abbrev pub conclusion_has_kinds : List Schema → List Param → Conclusion → Bool
conclusion_has_kinds schemas params (Fact fact slot) = fact_has_kinds schemas params fact
conclusion_has_kinds schemas params (Transform form) = form_has_kinds params form

-- all places of a rule are held by what they are for
abbrev pub has_kinds : List Schema → Rule → Bool
has_kinds schemas rule =
    form_has_kinds rule.params rule.pattern
    && (list_all (fact_has_kinds schemas rule.params) rule.premises
    && (list_all (side_has_kinds rule.params) rule.sides
    && conclusion_has_kinds schemas rule.params rule.conclusion))
