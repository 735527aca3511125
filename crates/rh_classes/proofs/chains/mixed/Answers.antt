use Rattle.std.proofs.Common.{refl}
use Rattle.rh_classes.specs.Chain.{mixed}
use Rattle.rh_classes.proofs.chains.mixed.Goals as goal

pub returns : goal.returns
unfolding mixed
returns c = refl
