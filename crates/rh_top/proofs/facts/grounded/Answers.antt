use Rattle.std.proofs.Common.{ap, length, sym, ◌∙◌}
use Rattle.rh_top.proofs.Results.{as_many}
use Rattle.rh_top.proofs.facts.grounded.Goals as goal

pub new-requires : goal.new-requires
new-requires g c = as_many c.args.file.now.schemas c.args.file.now.rules c.in-Ok.rulings.items c.in-Ok.ensures.ruled ∙ ap length (sym c.as_slice.ensures.value)
