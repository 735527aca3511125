use Rattle.std.proofs.Common.{◌≡◌, ◌≢◌, Some, map, subst, sym, arith}
use Rattle.std.specs.List.{range_with_len}
use Rattle.std.specs.Prelude.{slice_get}
use Rattle.rh_rule.specs.declared.rule.Arg.{Arg}
use Rattle.rh_domain.proofs.Numbered.{var_at, no_var_at, no_const_at}
use Rattle.rh_rule.specs.declared.rule.Arg.TheVariants.{Var}
use Rattle.rh_domain.proofs.domain.variable_number.Goals as goal

pub returns-then-number-vars-clause-found : goal.returns-then-number-vars-clause-found
returns-then-number-vars-clause-found c =
    subst (λ (arg : Arg). slice_get (map Var (range_with_len 0 c.args.vars)) c.in-Var.number ≡ Some arg) (sym c.in-Var.is) (var_at c.args.vars c.in-Var.number c.if-number-vars.true)

pub returns-else-number-vars-clause-none : goal.returns-else-number-vars-clause-none
returns-else-number-vars-clause-none c = λ number.
    subst (λ (arg : Arg). slice_get (map Var (range_with_len 0 c.args.vars)) number ≢ Some arg) (sym c.in-Var.is)
    (no_var_at c.args.vars c.in-Var.number number (omega (arith, c.if-number-vars.false)))

pub returns-in-Const-clause-none : goal.returns-in-Const-clause-none
returns-in-Const-clause-none c = λ number.
    subst (λ (arg : Arg). slice_get (map Var (range_with_len 0 c.args.vars)) number ≢ Some arg) (sym c.in-Const.is) (no_const_at c.args.vars number c.in-Const.field-0)
