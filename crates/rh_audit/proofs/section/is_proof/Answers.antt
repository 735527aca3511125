use Rattle.std.proofs.Common.{◌≡◌, length, Some, arith, sym}
use Rattle.std.proofs.lemmas.Bool.{false≢true, ltb-false, ltb-true}
use Rattle.std.proofs.lemmas.Option.{slice_get_within}
use Rattle.std.proofs.lemmas.Result.{IfOk-weaker}
use Rattle.std.specs.Prelude.{slice_get}
use Rattle.rh_admit.proofs.Deciding.{part_at, part_of}
use Rattle.rh_oblig.specs.Obligation.{parts_of}
use Rattle.rh_audit.proofs.Proving.{is_proof_iff, parts_long, shut_there}
use Rattle.rh_audit.proofs.section.is_proof.Goals as goal

pub returns-in-Some-clause-proof : goal.returns-in-Some-clause-proof
returns-in-Some-clause-proof c =
    let obligations = c.args.obligations.now in
    let item = c.in-Some.obligation.now in
    let within = ltb-true c.args.number (length obligations) (sym c.in-Some.ensures.lookup.0) in
    let stands : slice_get (parts_of obligations) c.args.number ≡ Some (part_of item) = part_at obligations c.args.number item within c.in-Some.ensures.lookup.1 in
    IfOk-weaker c.check.result _ _ (λ closes iff. is_proof_iff (parts_of obligations) c.args.number c.args.log.now (part_of item) closes c.if-log-number.false stands iff) c.check.ensures.closed

pub returns-in-Some-clause-shut : goal.returns-in-Some-clause-shut
returns-in-Some-clause-shut c =
    let obligations = c.args.obligations.now in
    let item = c.in-Some.obligation.now in
    let within = ltb-true c.args.number (length obligations) (sym c.in-Some.ensures.lookup.0) in
    let stands : slice_get (parts_of obligations) c.args.number ≡ Some (part_of item) = part_at obligations c.args.number item within c.in-Some.ensures.lookup.1 in
    IfOk-weaker c.check.result _ _ (λ closes shut t other read. shut_there (parts_of obligations) c.args.number (part_of item) other stands (shut t) read) c.check.ensures.refuted

pub returns-in-None-clause-proof : goal.returns-in-None-clause-proof
returns-in-None-clause-proof c =
    let obligations = c.args.obligations.now in
    let past = ltb-false c.args.number (length obligations) (sym c.in-None.ensures.lookup.0) in (
      (λ t. absurd (false≢true t)),
      (λ proof.
          let within = slice_get_within (parts_of obligations) c.args.number proof.part proof.stands in
          absurd (omega (arith, within, past, parts_long obligations))),
    )
