use Rattle.std.proofs.Common.{◌≡◌, ◌<◌, ◌-◌, true, length, arith}
use Rattle.std.proofs.lemmas.Option.{slice_get-get_or}
use Rattle.rh_classes.proofs.Chaining.{leads_down, walked}
use Rattle.rh_classes.proofs.chains.alike.Goals as goal

pub loop-link-smaller : goal.loop-link-smaller
loop-link-smaller c = leads_down _ _ _ _ _ _ c.loop-link.invariant (omega arith) c.requires.linked

pub loop-link-preserved : goal.loop-link-preserved
loop-link-preserved c =
    let within : c.loop-link.link - 1 < length c.args.terms.now = omega (arith, c.loop-link.invariant.within) in
    walked _ _ _ _ _ _ _ _ c.loop-link.invariant (omega arith) c.requires.linked
    (slice_get-get_or _ _ _ c.requires.place) (slice_get-get_or _ _ _ within)
    (λ h. let yes' : c.are_congruent.result ≡ true = c.are_congruent.ensures.1 h in absurd cc)
