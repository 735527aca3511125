use Rattle.std.proofs.Common.{sym, ap, ◌∙◌, length}
use Rattle.rh_domain.specs.Binding.{args_in}
use Rattle.rh_domain.proofs.Numbered.{var_count}
use Rattle.rh_domain.proofs.domain.Domain.count.Goals as goal

pub returns-in-Var : goal.returns-in-Var
returns-in-Var c = sym (ap (λ kind. length (args_in c.args.self.now kind)) c.in-Var.is ∙ var_count c.args.self.now.vars)
