use Rattle.std.proofs.Common.{◌<◌, ◌++◌, length, get_or, refl, arith}
use Rattle.rh_rule.specs.declared.rule.Ruling.TheVariants.{Admitted}
use Rattle.rh_report.specs.Output.{rule_lines}
use Rattle.rh_report.proofs.Adding.{line_added}
use Rattle.rh_report.proofs.lines.push_rule_lines.Goals as goal

pub loop-number-preserved : goal.loop-number-preserved
loop-number-preserved c =
    let in_rulings : c.loop-number.number < length c.args.rulings.now = omega (arith, c.loop-number-test.true, c.requires) in
    line_added c.args.rules.now c.args.rulings.now c.loop-number.number c.index-rules-number.result (get_or c.args.rulings.now c.loop-number.number Admitted) Admitted c.loop-number.out.items c.push_rule_line.new.out.items
    (c.args.out.now.items ++ rule_lines c.args.rules.now c.args.rulings.now) c.loop-number-test.true in_rulings c.index-rules-number.is refl c.loop-number.invariant c.in_ok-push_rule_line.ensures
