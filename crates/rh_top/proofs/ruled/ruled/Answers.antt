use Rattle.std.proofs.Common.{ap, ◌∙◌}
use Rattle.std.specs.Prelude.{map}
use Rattle.rh_log.specs.Admission.{ruling_of}
use Rattle.rh_top.proofs.Results.{ruled_as}
use Rattle.rh_top.proofs.ruled.ruled.Goals as goal

pub returns-clause-ruled : goal.returns-clause-ruled
returns-clause-ruled g c =
    ruled_as c.args.file.now.schemas c.args.file.now.rules c.in_ok-admissions.admissions.items c.in_ok-rulings_of.field-0.items c.in_ok-admissions.ensures.told
    (c.in_ok-rulings_of.ensures ∙ ap (map ruling_of) c.as_slice.ensures.value)
