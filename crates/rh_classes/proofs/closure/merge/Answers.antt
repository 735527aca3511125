use Rattle.rh_classes.proofs.Closing.{begun, gone_on, falls}
use Rattle.rh_classes.proofs.closure.merge.Goals as goal

pub loop-place-init : goal.loop-place-init
loop-place-init c = rw c.join.ensures (begun _ _ _ _ c.requires.partition c.requires.left c.requires.right)

pub loop-place-smaller : goal.loop-place-smaller
loop-place-smaller c =
    rw c.join-in-Some.ensures
    (falls _ _ _ _ c.requires.left c.requires.right _ _ _ c.in-Some.ensures.found c.loop-place.invariant)

pub loop-place-preserved : goal.loop-place-preserved
loop-place-preserved c =
    rw c.join-in-Some.ensures
    (gone_on _ _ _ _ c.requires.left c.requires.right _ _ _ c.in-Some.ensures.found c.loop-place.invariant c.requires.terms)
