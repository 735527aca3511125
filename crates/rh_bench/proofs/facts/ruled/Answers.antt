use Rattle.std.proofs.Common.{ap, length, sym, ◌∙◌}
use Rattle.std.proofs.lemmas.List.{length-map}
use Rattle.std.proofs.lemmas.Slice.Zip.{AllZip-long}
use Rattle.rh_admit.specs.Rules.{IsTold}
use Rattle.rh_log.specs.Admission.{ruling_of}
use Rattle.rh_bench.proofs.facts.ruled.Goals as goal

pub returns : goal.returns
returns g c =
    let admissions = c.in_ok-admissions.admissions.items in
    sym (AllZip-long (IsTold c.args.file.now.schemas) c.args.file.now.rules admissions c.in_ok-admissions.ensures.told)
    ∙ ap length (sym c.as_slice.ensures.value)
    ∙ sym (length-map c.as_slice.result.now ruling_of)
    ∙ ap length (sym c.in_ok-rulings_of.ensures)
