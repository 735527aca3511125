-- What metavariables are bound to.
use Rattle.std.specs.Prelude.{ℕ, ℤ, pos, Bool, false, ◌==◌, ◌<◌, List, [], ◌∷◌, length, map, slice_index_or}
use Rattle.std.specs.List.{flat_map, range_with_len}
use Rattle.std.specs.Ordering.{int_eq}
use Rattle.rh_il.specs.declared.program.Base.{Base}
use Rattle.rh_il.specs.declared.program.Base.TheVariants.{Var as AVariable, Num as ALiteral}
use Rattle.rh_il.specs.declared.program.Proc.{Proc}
use Rattle.rh_rule.specs.declared.rule.Arg.{Arg}
use Rattle.rh_rule.specs.declared.rule.Arg.TheVariants.{Var, Const}
use Rattle.rh_rule.specs.declared.rule.RuleBase.{RuleBase}
use Rattle.rh_rule.specs.declared.rule.RuleBase.TheVariants.{Meta, Num, Wild}
use Rattle.rh_rule.specs.declared.schema.Kind.{Kind}
use Rattle.rh_rule.specs.declared.schema.Kind.TheVariants.{Var as AVar, Const as AConst}
use Rattle.rh_rule.specs.declared.schema.Param.{Param}
use Rattle.rh_rule.specs.Params.{kind_of}
use Rattle.rh_il.specs.Value.{IsNumber}
use Rattle.rh_domain.specs.declared.domain.Domain.{Domain}
use Rattle.rh_domain.specs.Constants.{constants_of}

-- for each metavariable, by its number, what it is bound to
abbrev pub Binding : Type 0
Binding = List Arg

abbrev pub arg_eq : Arg → Arg → Bool
arg_eq (Var a) (Var b) = a == b
arg_eq (Const a) (Const b) = int_eq a b
arg_eq (Var a) (Const b) = false
arg_eq (Const a) (Var b) = false

-- the variables and the constants of a procedure
abbrev pub domain_of : Proc → Domain
domain_of proc = record { vars = length proc.vars; constants = constants_of proc }

-- what a metavariable of this kind may be bound to: variables by number, constants rising
abbrev pub args_in : Domain → Kind → List Arg
args_in domain AVar = map Var (range_with_len 0 domain.vars)
args_in domain AConst = map Const domain.constants

abbrev pub args_of : Proc → Kind → List Arg
args_of proc kind = args_in (domain_of proc) kind

-- all bindings, ordered by the first metavariable, then by the second, and so on
abbrev pub bindings_in : Domain → List Param → List Binding
bindings_in domain [] = [] ∷ []
bindings_in domain (param ∷ params) = flat_map (λ arg. map (λ rest. arg ∷ rest) (bindings_in domain params)) (args_in domain param.kind)

abbrev pub bindings : Proc → List Param → List Binding
bindings proc params = bindings_in (domain_of proc) params

abbrev pub bound : Binding → ℕ → Arg
bound binding meta = slice_index_or binding meta (Const (pos 0))

-- what an operand of a rule stands for
abbrev pub arg_under : Binding → RuleBase → Arg
arg_under binding (Meta meta) = bound binding meta
arg_under binding (Num number) = Const number
arg_under binding Wild = Const (pos 0)

-- the operand of a statement that an argument is
abbrev pub as_base : Arg → Base
as_base (Var number) = AVariable number
as_base (Const number) = ALiteral number

-- the variable that an argument is
abbrev pub as_variable : Arg → ℕ
as_variable (Var number) = number
as_variable (Const number) = 0

-- the number that an argument is
abbrev pub as_number : Arg → ℤ
as_number (Const number) = number
as_number (Var number) = pos 0

abbrev pub base_under : Binding → RuleBase → Base
base_under binding base = as_base (arg_under binding base)

abbrev pub variable_under : Binding → ℕ → ℕ
variable_under binding meta = as_variable (bound binding meta)

-- a variable of the procedure for a metavariable of the kind `var`, and a number for one of the kind `const`
abbrev pub FitsKind : ℕ → Kind → Arg → Type 0
FitsKind width AVar (Var number) = number < width
FitsKind width AConst (Const number) = IsNumber number
FitsKind width kind arg = ⊥

-- each metavariable is bound by its kind, to one of so many variables or to a number
abbrev pub FitsBinding : ℕ → List Param → Binding → Type 0
FitsBinding width params binding = (meta : ℕ) → FitsKind width (kind_of params meta) (bound binding meta)
