use Rattle.std.proofs.Common.{ap, length, sym, ◌∙◌}
use Rattle.rh_top.proofs.Results.{as_many}
use Rattle.rh_top.proofs.ruled.checked.Goals as goal

pub rule_lines-requires : goal.rule_lines-requires
rule_lines-requires g c =
    ap length c.rules.ensures.value ∙ as_many c.args.file.now.schemas c.args.file.now.rules c.in_ok-rulings.rulings.items c.in_ok-rulings.ensures.ruled ∙ ap length (sym c.as_slice.ensures.value)
