use Rattle.rh_rank.proofs.Expanded.{IsExpandedBelow}
use Rattle.rh_rank.proofs.numbering.Numbering.expand.Given as goal

abbrev pub invariant-loop-word : goal.invariant-loop-word
invariant-loop-word l = IsExpandedBelow l.numbers l.words l.before l.expanded.items l.word
