-- Arguments that the test of arguments calls the same.
use Rattle.std.proofs.Common.{ℕ, zero, suc, ◌≡◌, ◌≢◌, true, false, List, [], ◌∷◌, Some, refl, ap, sym, ◌∙◌, ◌||◌, eq-eqb}
use Rattle.std.specs.List.{list_any}
use Rattle.std.specs.Prelude.{slice_get}
use Rattle.std.proofs.lemmas.Bool.{eqb-true}
use Rattle.std.proofs.lemmas.Bool.Decides.{Decides-int_eq}
use Rattle.std.proofs.lemmas.Option.{same_Some}
use Rattle.rh_rule.specs.declared.rule.Arg.{Arg}
use Rattle.rh_rule.specs.declared.rule.Arg.TheVariants.{Var, Const}
use Rattle.rh_domain.specs.Binding.{arg_eq}

pub arg_eq-true : (a b : Arg) → arg_eq a b ≡ true → a ≡ b
arg_eq-true (Var a) (Var b) e = ap Var (eqb-true a b e)
arg_eq-true (Const a) (Const b) e = ap Const ((Decides-int_eq a b).0 e)
arg_eq-true (Var a) (Const b) e = cc
arg_eq-true (Const a) (Var b) e = cc

pub arg_eq-same : (a : Arg) → arg_eq a a ≡ true
arg_eq-same (Var a) = eq-eqb a a refl
arg_eq-same (Const a) = (Decides-int_eq a a).1 refl

-- an argument that stands in a list
pub among : (args : List Arg) (k : ℕ) (arg : Arg) → slice_get args k ≡ Some arg → list_any (arg_eq arg) args ≡ true
among [] k arg read = cc
among (x ∷ args) zero arg read = ap (λ b. b || list_any (arg_eq arg) args) (ap (arg_eq arg) (same_Some x arg read) ∙ arg_eq-same arg)
among (x ∷ args) (suc k) arg read =
    elim (arg_eq arg x) as (λ b. (b || list_any (arg_eq arg) args) ≡ true) [ true ↦ refl | false ↦ among args k arg read ]

-- and one that stands at no place
pub not_among : (args : List Arg) (arg : Arg) → ((k : ℕ) → slice_get args k ≢ Some arg) → list_any (arg_eq arg) args ≡ false
not_among [] arg none = refl
not_among (x ∷ args) arg none =
    elim (arg_eq arg x) as (λ b. arg_eq arg x ≡ b → (b || list_any (arg_eq arg) args) ≡ false)
    [ true ↦ λ is. absurd (none 0 (ap Some (sym (arg_eq-true arg x is)))) | false ↦ λ is. not_among args arg (λ k. none (suc k)) ] refl
