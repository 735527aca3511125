-- Facts that the test of facts calls the same.
use Rattle.std.proofs.Common.{ℕ, ◌≡◌, true, ◌&&◌, ◌==◌, List, [], ◌∷◌, map, Option, Some, None, refl, ap, sym, ◌∙◌, eq-eqb}
use Rattle.std.specs.Option.{option_map}
use Rattle.std.specs.Prelude.{slice_get, IfSome}
use Rattle.std.proofs.lemmas.Bool.{and_parts, eqb-true}
use Rattle.std.proofs.lemmas.Option.{same_Some, slice_get-map}
use Rattle.rh_rule.specs.declared.rule.Arg.{Arg}
use Rattle.rh_rule.specs.declared.rule.RuleBase.{RuleBase}
use Rattle.rh_rule.specs.declared.rule.RuleBase.TheVariants.{Meta}
use Rattle.rh_domain.specs.declared.fact.GroundFact.{GroundFact}
use Rattle.rh_domain.specs.Binding.{arg_eq, arg_under}
use Rattle.rh_ground.specs.Fixed.{Fixes}
use Rattle.rh_ground.specs.SameFact.{args_eq, fact_eq}
use Rattle.rh_ground.proofs.SameArgs.{arg_eq-same, arg_eq-true}

args_eq-true : (xs ys : List Arg) → args_eq xs ys ≡ true → xs ≡ ys
args_eq-true [] [] e = refl
args_eq-true [] (y ∷ ys) e = cc
args_eq-true (x ∷ xs) [] e = cc
args_eq-true (x ∷ xs) (y ∷ ys) e = let parts = and_parts (arg_eq x y) (args_eq xs ys) e in λ i. arg_eq-true x y parts.0 i ∷ args_eq-true xs ys parts.1 i

args_eq-same : (xs : List Arg) → args_eq xs xs ≡ true
args_eq-same [] = refl
args_eq-same (x ∷ xs) = ap (λ b. b && args_eq xs xs) (arg_eq-same x) ∙ args_eq-same xs

-- facts that pass the test are one
pub fact_eq-true : (a b : GroundFact) → fact_eq a b ≡ true → a ≡ b
fact_eq-true a b e =
    let parts = and_parts (a.schema == b.schema) (args_eq a.args b.args) e in
    λ i. record { schema = eqb-true a.schema b.schema parts.0 i; args = args_eq-true a.args b.args parts.1 i }

-- and a fact passes it with itself
pub fact_eq-same : (a b : GroundFact) → a ≡ b → fact_eq a b ≡ true
fact_eq-same a b same = ap (fact_eq a) (sym same) ∙ ap (λ t. t && args_eq a.args a.args) (eq-eqb a.schema a.schema refl) ∙ args_eq-same a.args

-- where an operand of a rule is a metavariable, the argument in its place is what it is bound to
pub fixed_at_place : (bases : List RuleBase) (args : List Arg) (meta place : ℕ) → slice_get bases place ≡ Some (Meta meta)
    → IfSome (slice_get args place) (Fixes (λ binding. args_eq (map (arg_under binding) bases) args) meta)
fixed_at_place bases args meta place at = by (slice_get args place) refl
  where
    by : (o : Option Arg) → slice_get args place ≡ o → IfSome o (Fixes (λ binding. args_eq (map (arg_under binding) bases) args) meta)
    by None is = tt
    by (Some arg) is = λ binding same.
        same_Some _ arg
        (sym (slice_get-map (arg_under binding) bases place ∙ ap (option_map (arg_under binding)) at) ∙ ap (λ (xs : List Arg). slice_get xs place) (args_eq-true (map (arg_under binding) bases) args same) ∙ is)
