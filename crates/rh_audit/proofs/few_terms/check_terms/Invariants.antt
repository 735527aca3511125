use Rattle.std.proofs.Common.{◌≡◌, None}
use Rattle.rh_list.specs.Each.{EachBefore}
use Rattle.rh_oblig.specs.Obligation.{excess}
use Rattle.rh_audit.proofs.few_terms.check_terms.Given as goal

abbrev pub invariant-loop-rule : goal.invariant-loop-rule
invariant-loop-rule l = EachBefore (λ rule. excess l.file.schemas rule ≡ None) l.file.rules l.rule
