-- The search for the first binding that is wanted.
use Rattle.std.specs.Prelude.{ℕ, ◌≡◌, ◌+◌, ◌-◌, ◌≤◌, Bool, true, false, List, [], ◌∷◌, ◌++◌, drop, length, slice_get, take, IfSome, Option, Some, None, if◌then◌else◌}
use Rattle.std.specs.List.{find, list_any}
use Rattle.rh_rule.specs.declared.rule.Arg.{Arg}
use Rattle.rh_rule.specs.declared.schema.Kind.{Kind}
use Rattle.rh_rule.specs.declared.schema.Param.{Param}
use Rattle.rh_domain.specs.declared.domain.Domain.{Domain}
use Rattle.rh_domain.specs.Binding.{Binding, arg_eq, args_in, bindings_in}
use Rattle.rh_ground.specs.Fixed.{Fixes}

-- the first arguments of the parameters with which, after those that are there, the binding is wanted; or there are
-- none, and it stays
abbrev pub FindsArgs : Domain → List Param → (Binding → Bool) → Binding → Bool → Binding → Type 0
FindsArgs domain params accepts old true new =
    (more : Binding) × (new ≡ old ++ more) × (find (λ rest. accepts (old ++ rest)) (bindings_in domain params) ≡ Some more)
FindsArgs domain params accepts old false new =
    (new ≡ old) × (find (λ rest. accepts (old ++ rest)) (bindings_in domain params) ≡ None)

-- the items from a number up to another one
abbrev pub between : {X : Type 0} → ℕ → ℕ → List X → List X
between first end xs = take (end - first) (drop first xs)

-- all arguments, or the fixed one alone where it is among them
abbrev pub args_to_try : Option Arg → List Arg → List Arg
args_to_try None args = args
args_to_try (Some arg) args = if list_any (arg_eq arg) args then arg ∷ [] else []

-- the numbers from the first up to the second are those of the arguments to be tried for a metavariable of a kind
pub record IsToTry (domain : Domain) (accepts : Binding → Bool) (meta : ℕ) (kind : Kind) (range : ℕ × ℕ) : Type 0 where
  pub fixed : Option Arg
  pub known : IfSome fixed (Fixes accepts meta)
  pub tried : between range.0 range.1 (args_in domain kind) ≡ args_to_try fixed (args_in domain kind)
  pub within : range.1 ≤ length (args_in domain kind)

-- there is such a range for each of the parameters, of which the first has this number
pub record AreToTry (domain : Domain) (accepts : Binding → Bool) (first : ℕ) (params : List Param) (ranges : List (ℕ × ℕ)) : Type 0 where
  pub many : length ranges ≡ first + length params
  pub each : (k : ℕ) (param : Param) (range : ℕ × ℕ) → slice_get params k ≡ Some param → slice_get ranges (first + k) ≡ Some range → IsToTry domain accepts (first + k) param.kind range
