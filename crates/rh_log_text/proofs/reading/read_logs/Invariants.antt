use Rattle.std.proofs.Common.{length}
use Rattle.rh_log_text.proofs.Going.{Goes}
use Rattle.rh_log_text.proofs.reading.read_logs.Given as goal

abbrev pub invariant-loop-rest : goal.invariant-loop-rest
invariant-loop-rest l = Goes l.text l.rest l.number l.reader

abbrev pub decreases-loop-rest : goal.decreases-loop-rest
decreases-loop-rest l = length l.rest
