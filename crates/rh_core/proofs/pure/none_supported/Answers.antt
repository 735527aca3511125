use Rattle.rh_core.proofs.Cores.{mask_decides}
use Rattle.rh_core.proofs.pure.none_supported.Goals as goal

pub returns : goal.returns
returns g c = mask_decides _ _ _ _ _ c.supported_part.ensures c.ranges.mask.fits c.supported_part.type_inv
