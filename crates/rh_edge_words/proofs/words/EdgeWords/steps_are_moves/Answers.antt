use Rattle.rh_edge_words.proofs.StepMoves.{steps_move}
use Rattle.rh_edge_words.proofs.words.EdgeWords.steps_are_moves.Goals as goal

pub returns : goal.returns
returns g c words views id some_stake = steps_move _ _ words views id some_stake
