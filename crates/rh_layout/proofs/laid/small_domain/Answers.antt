use Rattle.std.proofs.Common.{◌≡◌, sym, subst}
use Rattle.std.proofs.lemmas.Result.{IfOk-weaker}
use Rattle.rh_domain.specs.declared.domain.Domain.{Domain}
use Rattle.rh_domain.specs.Binding.{domain_of}
use Rattle.rh_domain.specs.Count.{IsSmall}
use Rattle.rh_layout.proofs.Small.{small_domain}
use Rattle.rh_layout.proofs.laid.small_domain.Goals as goal

pub returns-clause-small : goal.returns-clause-small
returns-clause-small c =
    IfOk-weaker c.of.result (λ domain. domain ≡ domain_of c.args.proc.now) IsSmall (λ domain is. subst (λ (d : Domain). IsSmall d) (sym is) (small_domain c.args.proc.now c.requires)) c.of.ensures
