use Rattle.std.proofs.Common.{length}
use Rattle.rh_carry.proofs.rulings.+bases_eq.Given as goal

abbrev pub decreases-bases_eq : goal.decreases-bases_eq
decreases-bases_eq l = length l.ones.now
