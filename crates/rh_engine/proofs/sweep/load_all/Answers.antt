use Rattle.std.proofs.Common.{◌∙◌, sym}
use Rattle.rh_engine.proofs.Fewer.{all_loaded}
use Rattle.rh_engine.proofs.sweep.load_all.Goals as goal

pub returns-clause-loads : goal.returns-clause-loads
returns-clause-loads g c = all_loaded _ _ _ _ _ c.load_range.ensures.loaded c.load_range-2.ensures.loaded (c.is_seated.ensures.loads_as_long ∙ sym c.count-count.ensures)
