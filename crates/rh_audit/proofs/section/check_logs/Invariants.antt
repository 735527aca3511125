use Rattle.rh_admit.specs.Admission.{IsShut}
use Rattle.rh_list.specs.Each.{EachBefore}
use Rattle.rh_oblig.specs.Obligation.{parts_of}
use Rattle.rh_audit.specs.Walk.{AreProofsBefore}
use Rattle.rh_audit.proofs.section.check_logs.Given as goal

abbrev pub invariant-loop-number : goal.invariant-loop-number
invariant-loop-number l = AreProofsBefore (parts_of l.obligations) l.section.logs l.number × EachBefore IsShut (parts_of l.obligations) l.number
