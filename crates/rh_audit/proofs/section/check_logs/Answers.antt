use Rattle.std.proofs.Common.{◌≡◌, ◌∙◌, List, Some, length, refl, ap, sym, subst, arith}
use Rattle.std.proofs.lemmas.Bool.{both_ways}
use Rattle.std.proofs.lemmas.Option.{same_Some, slice_get_read}
use Rattle.std.specs.Prelude.{slice_get}
use Rattle.rh_admit.specs.Admission.{IsShut, Part}
use Rattle.rh_log_text.specs.declared.logs.PlacedLog.{PlacedLog}
use Rattle.rh_oblig.specs.Obligation.{parts_of}
use Rattle.rh_audit.specs.Walk.{IsProof, at_end, at_log}
use Rattle.rh_audit.proofs.Proving.{each_more, parts_long, proved_all, shut_all}
use Rattle.rh_audit.proofs.section.check_logs.Goals as goal

pub returns-then-not-branch-clause-fault : goal.returns-then-not-branch-clause-fault
returns-then-not-branch-clause-fault c =
    let logs = c.as_slice-logs.result.now in
    let log = c.index-logs-number.result in
    let number = c.loop-number.number in
    let stands : slice_get c.args.section.now.logs number ≡ Some log =
    subst (λ (all : List PlacedLog). slice_get all number ≡ Some log) c.as_slice-logs.ensures.value (slice_get_read logs (length logs) number log refl c.loop-number-test.true c.index-logs-number.is) in
    at_log number log stands c.loop-number.invariant.0 (λ proof. both_ways c.in_ok-is_proof.field-0 c.if-not-branch.true (c.in_ok-is_proof.ensures.proof.1 proof)) refl

pub loop-number-preserved : goal.loop-number-preserved
loop-number-preserved c =
    let parts = parts_of c.args.obligations.now in
    let logs = c.as_slice-logs.result.now in
    let log = c.index-logs-number.result in
    let number = c.loop-number.number in
    let stands : slice_get c.args.section.now.logs number ≡ Some log =
    subst (λ (all : List PlacedLog). slice_get all number ≡ Some log) c.as_slice-logs.ensures.value (slice_get_read logs (length logs) number log refl c.loop-number-test.true c.index-logs-number.is) in (
      each_more (IsProof parts) c.args.section.now.logs number c.loop-number.invariant.0
          (λ other read. subst (IsProof parts number) (same_Some log other (sym stands ∙ read)) (c.in_ok-is_proof.ensures.proof.0 c.if-not-branch.false)),
      each_more (λ k (part : Part). IsShut part) parts number c.loop-number.invariant.1 (λ part read. c.in_ok-is_proof.ensures.shut c.if-not-branch.false part read),
    )

pub returns-then-logs-obligations-clause-fault : goal.returns-then-logs-obligations-clause-fault
returns-then-logs-obligations-clause-fault c =
    let long = ap length c.as_slice-logs.ensures.value in
    at_end (λ number log below stands. c.loop-number.invariant.0 number log (omega (arith, below, long, c.loop-number-test.false)) stands)
    (omega (arith, long, c.if-logs-obligations.true, parts_long c.args.obligations.now)) refl

pub returns-clause-proved : goal.returns-clause-proved
returns-clause-proved c =
    let long = ap length c.as_slice-logs.ensures.value in
    proved_all (parts_of c.args.obligations.now) c.args.section.now c.loop-number.number c.loop-number.invariant.0 (omega (arith, long, c.loop-number-test.false))
    (omega (arith, long, c.if-logs-obligations.false, parts_long c.args.obligations.now))

pub returns-clause-shut : goal.returns-clause-shut
returns-clause-shut c =
    shut_all (parts_of c.args.obligations.now) c.loop-number.number c.loop-number.invariant.1
    (omega (arith, c.loop-number-test.false, c.if-logs-obligations.false, parts_long c.args.obligations.now))
