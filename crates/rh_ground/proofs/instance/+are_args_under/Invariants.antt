use Rattle.std.proofs.Common.{length}
use Rattle.rh_ground.proofs.instance.+are_args_under.Given as goal

abbrev pub decreases-are_args_under : goal.decreases-are_args_under
decreases-are_args_under l = length l.bases.now
