-- Facts that are the same.
use Rattle.std.specs.Prelude.{ℕ, ◌==◌, Bool, true, false, ◌&&◌, List, [], ◌∷◌}
use Rattle.rh_rule.specs.declared.rule.Arg.{Arg}
use Rattle.rh_rule.specs.declared.rule.FactUse.{FactUse}
use Rattle.rh_domain.specs.declared.fact.GroundFact.{GroundFact}
use Rattle.rh_domain.specs.Binding.{Binding, arg_eq}
use Rattle.rh_ground.specs.Instance.{fact_under}

abbrev pub args_eq : List Arg → List Arg → Bool
args_eq [] [] = true
args_eq [] (y ∷ ys) = false
args_eq (x ∷ xs) [] = false
args_eq (x ∷ xs) (y ∷ ys) = arg_eq x y && args_eq xs ys

-- the two are one fact
abbrev pub fact_eq : GroundFact → GroundFact → Bool
fact_eq a b = a.schema == b.schema && args_eq a.args b.args

-- under the binding the use of a schema is the fact of this schema with these arguments
abbrev pub is_fact_under : Binding → FactUse → ℕ → List Arg → Bool
is_fact_under binding fact schema args = fact_eq (fact_under binding fact) (record { schema = schema; args = args })
