use Rattle.std.proofs.Common.{◌∙◌, refl, arith}
use Rattle.rh_engine.proofs.Fewer.{none_loaded, one_loaded}
use Rattle.rh_engine.proofs.sweep.load_range.Goals as goal

pub loop-word-init : goal.loop-word-init
loop-word-init g c = record { table = refl; loaded = none_loaded _ _ }

pub loop-word-preserved : goal.loop-word-preserved
loop-word-preserved g c = record {
  table = c.load.ensures.table ∙ c.loop-word.invariant.table;
  loaded = one_loaded _ _ _ _ _ _ c.loop-word.invariant.loaded c.loop-word.auto.word (omega (arith, c.is_seated.ensures.loads_as_long, c.requires.in_range)) c.load.ensures.view c.load.ensures.within;
}
