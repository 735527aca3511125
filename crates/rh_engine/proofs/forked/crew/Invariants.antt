use Rattle.std.proofs.Common.{length}
use Rattle.rh_engine.proofs.Crews.{Gathers}
use Rattle.rh_engine.proofs.forked.crew.Given as goal

abbrev pub invariant-loop-id : goal.invariant-loop-id
invariant-loop-id g l = Gathers l.words.0 (length g.N.SystemName.meaning.full) l.id l.crew.items l.first
