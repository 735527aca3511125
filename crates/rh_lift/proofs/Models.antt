-- The model of a step: the variables at a base under a binding, and what else the step has.
use Rattle.std.proofs.Common.{ℕ, ◌≡◌, ◌+◌, List, length, pos, refl, ap, ◌∙◌, subst, rules}
use Rattle.std.specs.List.{All, AllByRecursion}
use Rattle.std.proofs.lemmas.List.{get_or_default}
use Rattle.rh_il.specs.declared.program.Base.{Base}
use Rattle.rh_il.specs.declared.program.Base.TheVariants.{Var as AVariable, Num as ALiteral}
use Rattle.rh_il.specs.declared.value.Value.{Value}
use Rattle.rh_il.specs.declared.value.Value.TheVariants.{Num as ANumber, Ptr as APointer}
use Rattle.rh_il.specs.Numbers.{base_numbers}
use Rattle.rh_il.specs.Value.{IsNumber, IsValue}
use Rattle.rh_il_step.specs.State.{IsHeld, cell}
use Rattle.rh_il_step.specs.Step.{base_value}
use Rattle.rh_rule.specs.declared.rule.Arg.{Arg}
use Rattle.rh_rule.specs.declared.rule.Arg.TheVariants.{Var, Const}
use Rattle.rh_rule.specs.declared.rule.RuleBase.{RuleBase}
use Rattle.rh_rule.specs.declared.rule.RuleBase.TheVariants.{Meta, Num, Wild}
use Rattle.rh_rule.specs.declared.schema.Kind.{Kind}
use Rattle.rh_rule.specs.declared.schema.Kind.TheVariants.{Var as AVar, Const as AConst}
use Rattle.rh_rule.specs.declared.schema.Param.{Param}
use Rattle.rh_rule.specs.Params.{kind_of}
use Rattle.rh_domain.specs.Binding.{Binding, FitsKind, FitsBinding, arg_under, as_base, as_number, as_variable, base_under, bound}
use Rattle.rh_ground.specs.Template.{IsTame}
use Rattle.rh_term.specs.Model.{Model, IsModel, AValue, AStore}
use Rattle.rh_term.specs.Store.{nothing}
use Rattle.rh_meaning.specs.Literal.{operand}
use Rattle.rh_goals.specs.Statement.{before, value}
use Rattle.rh_meaning.specs.Tree.{Tree}
use Rattle.rh_meaning.specs.Denotation.{denotation}
use Rattle.rh_meaning.specs.Holds.{arg_value}
use Rattle.rh_meaning.specs.Laws.{StandsFor}
use Rattle.rh_meaning.proofs.Says.{value_for}

-- what a step has besides the variables: the operand that `_` is, the new cell, the answer of a call, and the stores
-- before and after it
pub record Around : Type 0 where
  pub any : Value
  pub fresh : Value
  pub answer : Value
  pub before : List Value
  pub after : List Value

abbrev pub model_of : Binding → ℕ → Around → Model
model_of binding base around = record {
  number = λ meta. as_number (bound binding meta);
  location = λ meta. base + as_variable (bound binding meta);
  any = around.any;
  fresh = around.fresh;
  answer = around.answer;
  before = around.before;
  after = around.after;
  start = around.after;
}

-- the numbers in them are of 64 bits
pub record AreValues (around : Around) : Type 0 where
  pub any : IsValue around.any
  pub fresh : IsValue around.fresh
  pub answer : IsValue around.answer
  pub before : All IsValue around.before
  pub after : All IsValue around.after

zero_fits : IsNumber (pos 0)
zero_fits = search rules

pub nothing_fits : IsValue nothing
nothing_fits = zero_fits

number_bound : (width : ℕ) (kind : Kind) (arg : Arg) → FitsKind width kind arg → IsNumber (as_number arg)
number_bound width AConst (Const number) fits = fits
number_bound width AVar (Var number) fits = zero_fits
number_bound width AConst (Var number) fits = absurd fits
number_bound width AVar (Const number) fits = absurd fits

pub held_value : (size : ℕ) (v : Value) → IsHeld size v → IsValue v
held_value size (ANumber number) held = held
held_value size (APointer location) held = tt

pub held_values : (size : ℕ) (cells : List Value) → ((location : ℕ) → IsHeld size (cell cells location)) → All IsValue cells
held_values size cells held k d inside = subst IsValue (get_or_default cells k (ANumber (pos 0)) d inside) (held_value size _ (held k))

-- the operand of a statement
pub operand_fits : (base : ℕ) (cells : List Value) (operand : Base) → ((location : ℕ) → IsHeld (length cells) (cell cells location)) → AllByRecursion IsNumber (base_numbers operand)
    → IsValue (base_value cells base operand)
operand_fits base cells (AVariable variable) held numbers = held_value (length cells) _ (held (base + variable))
operand_fits base cells (ALiteral number) held numbers = numbers.0

-- where nothing else plays a part
abbrev pub at_rest : List Value → Around
at_rest cells = record { any = nothing; fresh = nothing; answer = nothing; before = cells; after = cells }

pub rest_fits : (cells : List Value) → ((location : ℕ) → IsHeld (length cells) (cell cells location)) → AreValues (at_rest cells)
rest_fits cells held =
    let all = held_values (length cells) cells held in
    record { any = nothing_fits; fresh = nothing_fits; answer = nothing_fits; before = all; after = all }

pub is_model : (width : ℕ) (params : List Param) (binding : Binding) (base : ℕ) (around : Around) → FitsBinding width params binding → AreValues around → IsModel (model_of binding base around)
is_model width params binding base around fits values =
    record {
      numbers = λ meta. number_bound width (kind_of params meta) (bound binding meta) (fits meta);
      any = values.any;
      fresh = values.fresh;
      answer = values.answer;
      before = values.before;
      after = values.after;
      start = values.after;
    }

-- ---- operands

-- an argument is the operand of a statement
as_operand : (base : ℕ) (cells : List Value) (arg : Arg) → arg_value base cells arg ≡ base_value cells base (as_base arg)
as_operand base cells (Var number) = refl
as_operand base cells (Const number) = refl

meta_stands : (width : ℕ) (params : List Param) (binding : Binding) (base : ℕ) (around : Around) (meta : ℕ) (kind : Kind) (arg : Arg) → kind_of params meta ≡ kind → bound binding meta ≡ arg
    → FitsKind width kind arg → StandsFor (model_of binding base around) base params (Meta meta) arg
meta_stands width params binding base around meta AVar (Var number) kind is fits = (kind, ap (λ a. base + as_variable a) is)
meta_stands width params binding base around meta AConst (Const number) kind is fits = (kind, ap as_number is)
meta_stands width params binding base around meta AVar (Const number) kind is fits = absurd fits
meta_stands width params binding base around meta AConst (Var number) kind is fits = absurd fits

module _ (width : ℕ) (params : List Param) (binding : Binding) (base : ℕ) (around : Around) (fits : FitsBinding width params binding) where
  -- an operand stands for its argument
  pub operand_stands : (b : RuleBase) → IsTame b → StandsFor (model_of binding base around) base params b (arg_under binding b)
  operand_stands (Meta meta) tame = meta_stands width params binding base around meta (kind_of params meta) (bound binding meta) refl refl (fits meta)
  operand_stands (Num number) tame = refl
  operand_stands Wild tame = absurd tame

  -- so over a store it has the value that its argument has there
  pub operand_meant : (store : Tree) (cells : List Value) (b : RuleBase) → denotation (model_of binding base around) store ≡ AStore cells → IsTame b
      → denotation (model_of binding base around) (operand params store b) ≡ AValue (arg_value base cells (arg_under binding b))
  operand_meant store cells b is tame = value_for (model_of binding base around) base params store cells is b (arg_under binding b) (operand_stands b tame)

  -- and before the step the value that it has in the state
  pub operand_value : (b : RuleBase) → IsTame b → denotation (model_of binding base around) (value params b) ≡ AValue (base_value around.before base (base_under binding b))
  operand_value b tame = operand_meant before around.before b refl tame ∙ ap AValue (as_operand base around.before (arg_under binding b))
