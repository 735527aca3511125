-- The kinds of metavariables, by the tests of rule files.
use Rattle.std.proofs.Common.{ℕ, ◌≡◌, true, false, not, List, Option, Some, None, refl}
use Rattle.std.specs.Option.{option_map_or}
use Rattle.std.specs.Prelude.{slice_get}
use Rattle.rh_rule.specs.declared.schema.Kind.{Kind}
use Rattle.rh_rule.specs.declared.schema.Kind.TheVariants.{Var, Const}
use Rattle.rh_rule.specs.declared.schema.Param.{Param}
use Rattle.rh_rule.specs.Kinds.{is_var, is_var_kind}
use Rattle.rh_rule.specs.Params.{kind_of}

kind_is : (kind : Kind) → is_var_kind kind ≡ true → kind ≡ Var
kind_is Var is = refl
kind_is Const is = absurd cc

param_is : (param : Option Param) → option_map_or (λ p. is_var_kind p.kind) param false ≡ true → option_map_or (λ p. p.kind) param Const ≡ Var
param_is None is = absurd cc
param_is (Some param) is = kind_is param.kind is

-- a metavariable for a variable
pub variable_kind : (params : List Param) (meta : ℕ) → is_var params meta ≡ true → kind_of params meta ≡ Var
variable_kind params meta is = param_is (slice_get params meta) is

constant_is : (kind : Kind) → not (is_var_kind kind) ≡ true → kind ≡ Const
constant_is Const is = refl
constant_is Var is = absurd cc

constant_param : (param : Option Param) → not (option_map_or (λ p. is_var_kind p.kind) param false) ≡ true → option_map_or (λ p. p.kind) param Const ≡ Const
constant_param None is = refl
constant_param (Some param) is = constant_is param.kind is

-- and one for a number
pub constant_kind : (params : List Param) (meta : ℕ) → not (is_var params meta) ≡ true → kind_of params meta ≡ Const
constant_kind params meta is = constant_param (slice_get params meta) is
