use Rattle.std.proofs.Common.{◌∙◌, rules}
use Rattle.rh_engine.proofs.Hinting.{descends_on, load_descends}
use Rattle.rh_engine.proofs.hinted.load_entering.Goals as goal

pub loop-word-preserved : goal.loop-word-preserved
loop-word-preserved g c = record {
  table = c.load.ensures.table ∙ c.loop-word.invariant.table;
  descends = descends_on _ _ _ c.loop-word.invariant.descends (load_descends _ _ _ _ _ c.load.ensures.view c.load.ensures.within c.is_seated.ensures.loads_as_long (search rules));
}
