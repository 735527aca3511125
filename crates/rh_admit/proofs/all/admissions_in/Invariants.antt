use Rattle.std.proofs.Common.{◌≡◌, Ok, map}
use Rattle.rh_admit.proofs.all.admissions_in.Given as goal

abbrev pub invariant-loop-answer : goal.invariant-loop-answer
invariant-loop-answer l = l.yielded ≡ map Ok l.made.items
