use Rattle.std.proofs.Common.{arith}
use Rattle.rh_system.proofs.OneRound.{clearing_step, keeping_step, round_closed}
use Rattle.rh_system.proofs.rounds.round.Goals as goal
use Rattle.rh_system.proofs.rounds.round.Goals.{then-part-words, else-part-words}

pub loop-word-preserved : goal.loop-word-preserved
loop-word-preserved g c =
    elim c.if-part-words.branch [
      | then-part-words w ↦ rw (w.words-is, w.cleared-is) (clearing_step _ _ _ _ _ _ c.loop-word.invariant c.supported_part-part.ensures (omega arith) w.if-part-words.true)
      | else-part-words w ↦ rw (w.words-is, w.cleared-is) (keeping_step _ _ _ _ _ _ c.loop-word.invariant c.supported_part-part.ensures w.if-part-words.false)
    ]

pub returns-clause-closed : goal.returns-clause-closed
returns-clause-closed g c = round_closed _ _ _ _ _ c.loop-word.invariant (omega arith)
