use Rattle.std.proofs.Common.{◌≡◌, ◌++◌}
use Rattle.rh_audit.specs.Proofs.{sections_of}
use Rattle.rh_audit.proofs.printing.sections_of.Given as goal

abbrev pub invariant-loop-admission : goal.invariant-loop-admission
invariant-loop-admission l = l.sections.items ++ sections_of l.left l.admission-iterator.rest.items ≡ sections_of l.rules l.fn.admissions.items
