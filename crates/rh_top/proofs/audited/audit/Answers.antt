use Rattle.std.proofs.Common.{◌≤◌, length, sym, subst}
use Rattle.std.proofs.lemmas.Result.{err_from_is_err_and}
use Rattle.rh_report.specs.declared.status.Part.TheVariants.{Log}
use Rattle.rh_top.specs.Call.{MayBe}
use Rattle.rh_top.specs.Files.{most_log_bytes, text_refused, unread}
use Rattle.rh_top.specs.Refusals.{RefusesLogText, at_first, later}
use Rattle.rh_top.proofs.Refusing.{refused_since}
use Rattle.rh_top.proofs.audited.audit.Goals as goal

pub returns-in_err-file-clause-refused : goal.returns-in_err-file-clause-refused
returns-in_err-file-clause-refused g c =
    let told = err_from_is_err_and c.from_residual.result c.from_residual.ensures.1 in
    rw (told.1, told.2) (at_first c.in_err-file.ensures.refused)

pub returns-in_err-text-clause-refused : goal.returns-in_err-text-clause-refused
returns-in_err-text-clause-refused g c =
    let told = err_from_is_err_and c.from_residual-in_err-text.result c.from_residual-in_err-text.ensures.1 in
    let name = c.args.log.now in
    rw (told.1, told.2)
    (later c.in_ok-file.file c.in_ok-file.ensures.read
    (refused_since Log most_log_bytes (RefusesLogText c.in_ok-file.file) _ _ _ _ _ _ (c.in_ok-file.ensures.unchanged name) (c.in_ok-file.ensures.never_falls name) (unread c.in_err-text.ensures.refused)))

pub returns-clause-refused : goal.returns-clause-refused
returns-clause-refused g c =
    let name = c.args.log.now in
    let bytes = c.as_slice.result.now in
    later c.in_ok-file.file c.in_ok-file.ensures.read
    (text_refused bytes
    (subst (λ held. MayBe held bytes) (c.in_ok-file.ensures.unchanged name) (subst (MayBe (g.S.Shelf.holds c.rules_in.new.shelf name)) (sym c.as_slice.ensures.value) c.in_ok-text.ensures.told))
    (subst (λ b. length b ≤ most_log_bytes) (sym c.as_slice.ensures.value) c.in_ok-text.ensures.within) c.in-Err.ensures.refused)
