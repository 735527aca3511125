use Rattle.std.proofs.Common.{◌≡◌, map, take}
use Rattle.rh_audit.specs.Audit.{has_logs}
use Rattle.rh_audit.proofs.Passing.{HasPassed}
use Rattle.rh_audit.proofs.walk.check_sections.Given as goal

abbrev pub invariant-loop-section : goal.invariant-loop-section
invariant-loop-section l = HasPassed l.file l.sections l.section-index l.next × (l.marks.items ≡ map (has_logs (take l.section-index l.sections)) l.file.rules)
