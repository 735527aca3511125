use Rattle.rh_engine.proofs.Fewer.{supports_within}
use Rattle.rh_engine.proofs.sweep.turn.Goals as goal

pub returns-clause-swept : goal.returns-clause-swept
returns-clause-swept g c bit stands = supports_within _ _ _ c.load_all.ensures.within bit (c.clear_all.ensures.swept bit stands)
