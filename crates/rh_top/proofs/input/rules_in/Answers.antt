use Rattle.std.proofs.Common.{◌≤◌, length, sym, subst}
use Rattle.std.proofs.lemmas.Result.{err_from_is_err_and}
use Rattle.rh_report.specs.declared.status.Part.TheVariants.{Rules}
use Rattle.rh_top.specs.Call.{MayBe}
use Rattle.rh_top.specs.Files.{RefusesRulesText, most_bytes, unread}
use Rattle.rh_top.proofs.Refusing.{rules_accepted, refused_by_text}
use Rattle.rh_top.proofs.input.rules_in.Goals as goal

pub returns-clause-read : goal.returns-clause-read
returns-clause-read g c =
    rules_accepted (g.S.Shelf.holds c.args.shelf.now c.args.name.now) c.as_slice.result.now c.spelled_rules.result
    (subst (MayBe (g.S.Shelf.holds c.args.shelf.now c.args.name.now)) (sym c.as_slice.ensures.value) c.in_ok-bytes.ensures.told) c.spelled_rules.ensures.spelled

pub returns-clause-refused : goal.returns-clause-refused
returns-clause-refused g c =
    refused_by_text Rules most_bytes RefusesRulesText _ c.as_slice.result.now c.spelled_rules.result
    (subst (MayBe (g.S.Shelf.holds c.args.shelf.now c.args.name.now)) (sym c.as_slice.ensures.value) c.in_ok-bytes.ensures.told)
    (subst (λ bytes. length bytes ≤ most_bytes) (sym c.as_slice.ensures.value) c.in_ok-bytes.ensures.within) c.spelled_rules.ensures.refused

pub returns-in_err-bytes-clause-refused : goal.returns-in_err-bytes-clause-refused
returns-in_err-bytes-clause-refused g c =
    let told = err_from_is_err_and c.from_residual.result c.from_residual.ensures.1 in
    rw (told.1, told.2) (unread c.in_err-bytes.ensures.refused)
