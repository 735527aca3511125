-- What is known of the bindings that pass a test.
use Rattle.std.specs.Prelude.{ℕ, ◌≡◌, Bool, true, ◌&&◌, Option, IfSome}
use Rattle.rh_il.specs.declared.program.Base.{Base}
use Rattle.rh_il.specs.declared.program.Base.TheVariants.{Var as AVariable, Num as ALiteral}
use Rattle.rh_rule.specs.declared.rule.Arg.{Arg}
use Rattle.rh_rule.specs.declared.rule.Arg.TheVariants.{Var, Const}
use Rattle.rh_domain.specs.Binding.{Binding, bound}

-- in every binding that passes, the metavariable is bound to the argument
abbrev pub Fixes : (Binding → Bool) → ℕ → Arg → Type 0
Fixes test meta arg = (binding : Binding) → test binding ≡ true → bound binding meta ≡ arg

-- where two answers are each right of a test, the third one is right of both tests together
abbrev pub Agrees : Option Arg → Option Arg → Option Arg → Type 0
Agrees first second result =
    (one other : Binding → Bool) (meta : ℕ) → IfSome first (Fixes one meta) → IfSome second (Fixes other meta) → IfSome result (Fixes (λ binding. one binding && other binding) meta)

-- the argument that an operand of a statement is
abbrev pub as_arg : Base → Arg
as_arg (AVariable number) = Var number
as_arg (ALiteral number) = Const number
