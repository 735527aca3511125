use Rattle.std.proofs.Common.{sym, ap, ◌∙◌, arith}
use Rattle.std.specs.Prelude.{slice_get}
use Rattle.rh_domain.specs.Binding.{args_in}
use Rattle.rh_domain.proofs.Numbered.{var_at, no_var_past}
use Rattle.rh_domain.proofs.domain.Domain.arg.Goals as goal

pub returns-in-Var : goal.returns-in-Var
returns-in-Var c = sym (ap (λ kind. slice_get (args_in c.args.self.now kind) c.args.number) c.in-Var.is ∙ var_at c.args.self.now.vars c.args.number c.if-number-self.true)

pub returns-in-Var-2 : goal.returns-in-Var-2
returns-in-Var-2 c = sym (ap (λ kind. slice_get (args_in c.args.self.now kind) c.args.number) c.in-Var-2.is ∙ no_var_past c.args.self.now.vars c.args.number (omega (arith, c.if-number-self.false)))
