use Rattle.std.proofs.Common.{◌≡◌, map, take}
use Rattle.rh_log.specs.Admission.{ruling_of}
use Rattle.rh_bench.proofs.facts.rulings_of.Given as goal

abbrev pub invariant-loop-admission : goal.invariant-loop-admission
invariant-loop-admission l = l.rulings.items ≡ map ruling_of (take l.admission-index l.admissions)
