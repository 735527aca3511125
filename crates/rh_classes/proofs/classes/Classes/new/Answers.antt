use Rattle.std.proofs.Common.{◌∙◌, sym}
use Rattle.rh_classes.proofs.Alone.{alone_long, is_partition}
use Rattle.rh_classes.proofs.classes.Classes.new.Goals as goal

pub invariant_of-result : goal.invariant_of-result
invariant_of-result c = (
  is_partition _ _ c.in_ok-labels_alone.ensures,
  (c.in_ok-room.ensures, c.in_ok-room-2.ensures ∙ sym (alone_long _ _ c.in_ok-labels_alone.ensures)),
)
