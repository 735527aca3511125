use Rattle.std.proofs.Common.{length}
use Rattle.rh_classes.proofs.Closing.{IsWithin}
use Rattle.rh_classes.proofs.Counting.{classes}
use Rattle.rh_classes.proofs.closure.merge.Given as goal

abbrev pub invariant-loop-place : goal.invariant-loop-place
invariant-loop-place l = IsWithin l.terms l.fn.labels l.left l.right l.labels

abbrev pub decreases-loop-place : goal.decreases-loop-place
decreases-loop-place l = classes l.labels (length l.terms)
