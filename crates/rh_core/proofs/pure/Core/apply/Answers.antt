use Rattle.std.proofs.Common.{subst, sym}
use Rattle.rh_core.specs.declared.event.Event.{Event}
use Rattle.rh_core.specs.declared.event.Event.TheVariants.{And}
use Rattle.rh_core.specs.State.{CoreState}
use Rattle.rh_core.specs.Events.{IsLawful}
use Rattle.rh_core.proofs.Cores.{and_core}
use Rattle.rh_core.proofs.pure.Core.apply.Goals as goal

pub invariant_of-self-in-And : goal.invariant_of-self-in-And
invariant_of-self-in-And g c =
    let s : CoreState = record { words = c.self.inside.words.items; workers = c.self.inside.workers.items } in
    let rows = g.S.System.rows c.self.inside.system.now in
    let of_event : IsLawful rows s c.args.event = subst (λ p. IsLawful (g.S.System.rows p.0) p.1 c.args.event) (sym c.self.view_is) c.requires in
    let lawful : IsLawful rows s (And c.in-And.worker c.in-And.word c.in-And.mask) = subst (λ (e : Event). IsLawful rows s e) c.in-And.is of_event in
    and_core _ rows _ _ _ _ _ _ _ _ c.self.invariant lawful c.index-found-in-And.ensures c.index_mut-worker-in-And.ensures.value c.take.ensures
