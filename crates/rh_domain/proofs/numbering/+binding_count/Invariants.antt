use Rattle.std.proofs.Common.{length}
use Rattle.rh_domain.proofs.numbering.+binding_count.Given as goal

abbrev pub decreases-binding_count : goal.decreases-binding_count
decreases-binding_count l = length l.params.now
