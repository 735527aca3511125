use Rattle.rh_term.proofs.Bridge.{models_are_open, goals_hold}
use Rattle.rh_term.proofs.laws.open_partitions.Goals as goal

pub returns-clause-models : goal.returns-clause-models
returns-clause-models c = models_are_open

pub returns-clause-goals : goal.returns-clause-goals
returns-clause-goals c = goals_hold
