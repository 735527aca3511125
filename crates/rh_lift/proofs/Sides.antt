-- A side condition is true in the model of a step where it holds under the binding.
use Rattle.std.proofs.Common.{ℕ, ◌≡◌, ◌+◌, true, not, ◌==◌, List, [], ◌∷◌, map, ℤ, refl, ap, sym, ◌∙◌, subst, arith, ⊎_elim}
use Rattle.std.specs.List.{list_all}
use Rattle.std.proofs.lemmas.Bool.{and_parts, and_from, eqb-true, eq-eqb, or_cases}
use Rattle.std.proofs.lemmas.Bool.Decides.{same_from_decides}
use Rattle.rh_il.specs.declared.value.Op.{Op}
use Rattle.rh_il.specs.declared.value.Op.TheVariants.{Add, Sub, Mul, Less, Equal}
use Rattle.rh_il.specs.declared.value.Value.TheVariants.{Num as ANumber, Ptr as APointer}
use Rattle.rh_il.specs.Op.{number_of, total}
use Rattle.rh_rule.specs.declared.rule.Arg.{Arg}
use Rattle.rh_rule.specs.declared.rule.Arg.TheVariants.{Var, Const}
use Rattle.rh_rule.specs.declared.rule.RuleBase.{RuleBase}
use Rattle.rh_rule.specs.declared.rule.RuleBase.TheVariants.{Meta, Num, Wild}
use Rattle.rh_rule.specs.declared.rule.Side.{Side}
use Rattle.rh_rule.specs.declared.rule.Side.TheVariants.{Same, Differ}
use Rattle.rh_rule.specs.declared.rule.SideTerm.{SideTerm}
use Rattle.rh_rule.specs.declared.rule.SideTerm.TheVariants.{Plain, Compute}
use Rattle.rh_rule.specs.declared.schema.Kind.TheVariants.{Var as AVar, Const as AConst}
use Rattle.rh_rule.specs.declared.schema.Param.{Param}
use Rattle.rh_rule.specs.Kinds.{is_const_base, is_of_numbers, is_of_variables, is_var_base, side_has_kinds}
use Rattle.rh_rule.specs.Operands.{term_operands}
use Rattle.rh_rule.specs.Params.{kind_of}
use Rattle.rh_domain.specs.Binding.{Binding, FitsKind, FitsBinding, arg_eq, arg_under, as_number, as_variable, bound}
use Rattle.rh_ground.specs.Instance.{side_arg, side_holds}
use Rattle.rh_term.specs.Model.{Model, AValue, alike, value_of}
use Rattle.rh_goals.specs.Hypotheses.{side_literal, side_operand, side_tree}
use Rattle.rh_meaning.specs.Literal.{binding_tree}
use Rattle.rh_meaning.specs.Denotation.{denotation, is_true_in}
use Rattle.rh_meaning.proofs.ParamKinds.{constant_kind, variable_kind}
use Rattle.rh_lift.proofs.Models.{Around, model_of}

total_number : (op : Op) (a b : ℤ) → total op (ANumber a) (ANumber b) ≡ ANumber (number_of op a b)
total_number Add a b = refl
total_number Sub a b = refl
total_number Mul a b = refl
total_number Less a b = refl
total_number Equal a b = refl

constant_arg : (width : ℕ) (arg : Arg) → FitsKind width AConst arg → arg ≡ Const (as_number arg)
constant_arg width (Const number) fits = refl
constant_arg width (Var number) fits = absurd fits

variable_arg : (width : ℕ) (arg : Arg) → FitsKind width AVar arg → arg ≡ Var (as_variable arg)
variable_arg width (Var number) fits = refl
variable_arg width (Const number) fits = absurd fits

-- pointers to variables at a base are one where the variables are
same_pointer : (base a b : ℕ) → ((base + a) == (base + b)) ≡ (a == b)
same_pointer base a b =
    same_from_decides {P = a ≡ b} ((base + a) == (base + b)) (a == b)
    ((λ e. let same : base + a ≡ base + b = eqb-true (base + a) (base + b) e in omega (arith, same)), (λ same. eq-eqb (base + a) (base + b) (ap (λ n. base + n) same)))
    (eqb-true a b, eq-eqb a b)

module _ (width : ℕ) (params : List Param) (binding : Binding) (base : ℕ) (around : Around) (fits : FitsBinding width params binding) where
  abbrev model : Model
  model = model_of binding base around

  -- an operand that is a number
  number_operand : (b : RuleBase) → is_const_base params b ≡ true
      → (denotation model (side_operand params b) ≡ AValue (ANumber (as_number (arg_under binding b)))) × (arg_under binding b ≡ Const (as_number (arg_under binding b)))
  number_operand (Meta meta) is =
      let kind : kind_of params meta ≡ AConst = constant_kind params meta is in
      (ap (λ k. denotation model (binding_tree meta k)) kind, constant_arg width (bound binding meta) (subst (λ k. FitsKind width k (bound binding meta)) kind (fits meta)))
  number_operand (Num number) is = (refl, refl)
  number_operand Wild is = absurd cc

  number_term : (term : SideTerm) → list_all (is_const_base params) (term_operands term) ≡ true
      → (denotation model (side_tree params term) ≡ AValue (ANumber (as_number (side_arg binding term)))) × (side_arg binding term ≡ Const (as_number (side_arg binding term)))
  number_term (Plain b) is = number_operand b (and_parts _ _ is).0
  number_term (Compute op left right) is =
      let parts = and_parts _ _ is in
      let at_left = number_operand left parts.0 in
      let at_right = number_operand right (and_parts _ _ parts.1).0 in
      let a = as_number (arg_under binding left) in
      let b = as_number (arg_under binding right) in (
        ap (λ d. AValue (total op (value_of d) (value_of (denotation model (side_operand params right))))) at_left.0
            ∙ ap (λ d. AValue (total op (ANumber a) (value_of d))) at_right.0 ∙ ap AValue (total_number op a b),
        refl,
      )

  same_numbers : (left right : SideTerm) → list_all (is_const_base params) (term_operands left) ≡ true → list_all (is_const_base params) (term_operands right) ≡ true
      → alike (denotation model (side_tree params left)) (denotation model (side_tree params right)) ≡ arg_eq (side_arg binding left) (side_arg binding right)
  same_numbers left right is_left is_right =
      let at_left = number_term left is_left in
      let at_right = number_term right is_right in
      ap (λ d. alike d (denotation model (side_tree params right))) at_left.0
      ∙ ap (alike (AValue (ANumber (as_number (side_arg binding left))))) at_right.0
      ∙ sym (ap (λ a. arg_eq a (side_arg binding right)) at_left.1 ∙ ap (arg_eq (Const (as_number (side_arg binding left)))) at_right.1)

  variable_operand : (b : RuleBase) → is_var_base params b ≡ true
      → (denotation model (side_operand params b) ≡ AValue (APointer (base + as_variable (arg_under binding b)))) × (arg_under binding b ≡ Var (as_variable (arg_under binding b)))
  variable_operand (Meta meta) is =
      let kind : kind_of params meta ≡ AVar = variable_kind params meta is in
      (ap (λ k. denotation model (binding_tree meta k)) kind, variable_arg width (bound binding meta) (subst (λ k. FitsKind width k (bound binding meta)) kind (fits meta)))
  variable_operand (Num number) is = absurd cc
  variable_operand Wild is = absurd cc

  same_variables : (left right : RuleBase) → is_var_base params left ≡ true → is_var_base params right ≡ true
      → alike (denotation model (side_operand params left)) (denotation model (side_operand params right)) ≡ arg_eq (arg_under binding left) (arg_under binding right)
  same_variables left right is_left is_right =
      let at_left = variable_operand left is_left in
      let at_right = variable_operand right is_right in
      let a = as_variable (arg_under binding left) in
      let b = as_variable (arg_under binding right) in
      ap (λ d. alike d (denotation model (side_operand params right))) at_left.0
      ∙ ap (alike (AValue (APointer (base + a)))) at_right.0
      ∙ same_pointer base a b
      ∙ sym (ap (λ x. arg_eq x (arg_under binding right)) at_left.1 ∙ ap (arg_eq (Var a)) at_right.1)

  by_numbers : (side : Side) → is_of_numbers params side ≡ true → is_true_in model (side_literal params side) ≡ side_holds binding side
  by_numbers (Same left right) is = let parts = and_parts _ _ is in same_numbers left right parts.0 parts.1
  by_numbers (Differ left right) is = let parts = and_parts _ _ is in ap not (same_numbers left right parts.0 parts.1)

  by_variables : (side : Side) → is_of_variables params side ≡ true → is_true_in model (side_literal params side) ≡ side_holds binding side
  by_variables (Differ (Plain left) (Plain right)) is = let parts = and_parts _ _ is in ap not (same_variables left right parts.0 parts.1)
  by_variables (Differ (Plain left) (Compute op a b)) is = absurd cc
  by_variables (Differ (Compute op a b) right) is = absurd cc
  by_variables (Same left right) is = absurd cc

  side_is : (side : Side) → side_has_kinds params side ≡ true → is_true_in model (side_literal params side) ≡ side_holds binding side
  side_is side kinds = ⊎_elim (by_variables side) (by_numbers side) (or_cases (is_of_variables params side) (is_of_numbers params side) kinds)

  pub sides_true : (sides : List Side) → list_all (side_has_kinds params) sides ≡ true → list_all (side_holds binding) sides ≡ true
      → list_all (is_true_in model) (map (side_literal params) sides) ≡ true
  sides_true [] kinds hold = refl
  sides_true (side ∷ sides) kinds hold =
      let kind_parts = and_parts _ _ kinds in
      let hold_parts = and_parts _ _ hold in
      and_from _ _ (side_is side kind_parts.0 ∙ hold_parts.0) (sides_true sides kind_parts.1 hold_parts.1)
