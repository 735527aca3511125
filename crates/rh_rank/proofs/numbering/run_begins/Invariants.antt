use Rattle.rh_rank.proofs.Runs.{AreBeginsBelow}
use Rattle.rh_rank.proofs.numbering.run_begins.Given as goal

abbrev pub invariant-loop-word : goal.invariant-loop-word
invariant-loop-word l = AreBeginsBelow l.words l.begins.items l.next l.word
