use Rattle.std.proofs.Common.{◌-◌}
use Rattle.rh_rank.proofs.Spreading.{IsSpreadBelow}
use Rattle.rh_rank.proofs.word.spread.Given as goal

abbrev pub invariant-loop-place : goal.invariant-loop-place
invariant-loop-place l = IsSpreadBelow l.numbers l.word l.first l.part l.number l.from

abbrev pub decreases-loop-place : goal.decreases-loop-place
decreases-loop-place l = 64 - l.from
