use Rattle.rh_admit.proofs.Deciding.{AreClosed}
use Rattle.rh_admit.proofs.one.decide_all.Given as goal

abbrev pub invariant-loop-number : goal.invariant-loop-number
invariant-loop-number l = AreClosed l.obligations l.number l.logs
