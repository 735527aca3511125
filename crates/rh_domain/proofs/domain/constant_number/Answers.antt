use Rattle.std.proofs.Common.{ℕ, ℤ, ◌≢◌, Some, map, subst, sym, w64, rules}
use Rattle.std.proofs.lemmas.Int.{to_z-of_z}
use Rattle.std.specs.Prelude.{slice_get, IfNone}
use Rattle.rh_rule.specs.declared.rule.Arg.{Arg}
use Rattle.rh_rule.specs.declared.rule.Arg.TheVariants.{Const}
use Rattle.rh_domain.proofs.Numbered.{no_var_among, no_place}
use Rattle.rh_domain.proofs.domain.constant_number.Goals as goal

pub returns-in-Const-clause-none : goal.returns-in-Const-clause-none
returns-in-Const-clause-none c =
    let none = subst (λ (n : ℤ). IfNone c.place_of.result ((place : ℕ) → slice_get c.args.constants.now place ≢ Some n)) (to_z-of_z w64 c.in-Const.number (search rules)) c.place_of.ensures.none in
    subst (λ (arg : Arg). IfNone c.place_of.result ((number : ℕ) → slice_get (map Const c.args.constants.now) number ≢ Some arg)) (sym c.in-Const.is)
    (no_place c.args.constants.now c.in-Const.number c.place_of.result none)

pub returns-in-Var-clause-none : goal.returns-in-Var-clause-none
returns-in-Var-clause-none c = λ number.
    subst (λ (arg : Arg). slice_get (map Const c.args.constants.now) number ≢ Some arg) (sym c.in-Var.is) (no_var_among c.args.constants.now number c.in-Var.field-0)
