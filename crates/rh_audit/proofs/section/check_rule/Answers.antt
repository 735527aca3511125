use Rattle.std.proofs.Common.{◌≡◌, List, Err, ap, sym, subst}
use Rattle.std.specs.Prelude.{IfSome, slice_get}
use Rattle.rh_oblig.specs.Obligation.{obligations_of, parts_of}
use Rattle.rh_term.specs.declared.obligation.Obligation.{Obligation}
use Rattle.rh_audit.proofs.Proving.{never_large, of_proved, on_both}
use Rattle.rh_audit.proofs.section.check_rule.Goals as goal

pub unreachable-requires : goal.unreachable-requires
unreachable-requires c =
    never_large c.args.file.now c.args.rule c.in-Err-TooManyTerms.field-0-0 c.requires.within c.requires.few
    (c.in-Err-TooManyTerms.ensures.too_many c.in-Err-TooManyTerms.field-0-0 (ap Err c.in-Err-TooManyTerms.field-0-is))

pub returns-in-Ok-clause-proved : goal.returns-in-Ok-clause-proved
returns-in-Ok-clause-proved c =
    let file = c.args.file.now in
    on_both c.check_logs.result
    (of_proved file.schemas (slice_get file.rules c.args.rule) (parts_of c.as_slice.result.now) c.args.section.now
    (subst (λ (made : List Obligation). IfSome (slice_get file.rules c.args.rule) (λ rule. parts_of made ≡ obligations_of file.schemas rule)) (sym c.as_slice.ensures.value) c.in-Ok.ensures.made))
    c.check_logs.ensures.proved c.check_logs.ensures.shut
