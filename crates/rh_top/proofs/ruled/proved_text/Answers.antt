use Rattle.std.proofs.Common.{ap, length, map, sym, ◌∙◌}
use Rattle.rh_log.specs.Admission.{ruling_of}
use Rattle.rh_top.proofs.Results.{as_many, ruled_as}
use Rattle.rh_top.proofs.ruled.proved_text.Goals as goal

pub rule_lines-requires : goal.rule_lines-requires
rule_lines-requires c =
    let rulings = c.in_ok-rulings.rulings.items in
    let ruled = ruled_as c.args.file.now.schemas c.args.file.now.rules c.args.admissions.items rulings c.requires (c.in_ok-rulings.ensures ∙ ap (map ruling_of) c.as_slice.ensures.value) in
    ap length c.rules.ensures.value ∙ as_many c.args.file.now.schemas c.args.file.now.rules rulings ruled ∙ ap length (sym c.as_slice-2.ensures.value)
