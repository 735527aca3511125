use Rattle.rh_system.proofs.OneRound.{RoundBelow}
use Rattle.rh_system.proofs.rounds.round.Given as goal

abbrev pub invariant-loop-word : goal.invariant-loop-word
invariant-loop-word g l = RoundBelow (g.S.System.rows l.system) l.fn.words l.words l.word l.cleared
