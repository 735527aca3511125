use Rattle.rh_rank.proofs.Counted.{AreCountsBelow}
use Rattle.rh_rank.proofs.numbering.counts_before.Given as goal

abbrev pub invariant-loop-word : goal.invariant-loop-word
invariant-loop-word l = AreCountsBelow l.words l.before.items l.count l.word-index
