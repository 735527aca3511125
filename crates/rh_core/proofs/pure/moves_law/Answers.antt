use Rattle.rh_core.proofs.Keeps.{move_keeps}
use Rattle.rh_core.proofs.Cores.{event_moves}
use Rattle.rh_core.proofs.pure.moves_law.Goals as goal

pub returns-clause-keeps : goal.returns-clause-keeps
returns-clause-keeps g c s t move kept = move_keeps s t move kept

pub returns-clause-events : goal.returns-clause-events
returns-clause-events g c s event lawful = event_moves _ s event lawful
