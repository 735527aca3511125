use Rattle.std.proofs.Common.{◌∙◌, sym, ap, ◌++◌, [], ◌∷◌}
use Rattle.rh_classes.proofs.Alone.{alone_more}
use Rattle.rh_classes.proofs.classes.labels_alone.Goals as goal

pub loop-place-preserved : goal.loop-place-preserved
loop-place-preserved c =
    c.in_ok-push.ensures.items ∙ ap (λ labels. labels ++ c.loop-place.place ∷ []) c.loop-place.invariant ∙ sym (alone_more c.loop-place.place)
