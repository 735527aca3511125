-- The text that is printed is the canonical one, which is a text of the rule file.
use Rattle.std.proofs.Common.{◌≡◌, rules, sym, subst}
use Rattle.rh_rule_print.specs.Text.{file_text}
use Rattle.rh_rule_text.specs.Reading.{IsText}
use Rattle.rh_rule_print.proofs.PrintedText.{printed_is_text}
use Rattle.rh_rule_print.proofs.printer.print_rules.Goals as goal

pub returns-clause-again : goal.returns-clause-again
returns-clause-again c =
    let text : c.push_rules.new.out.items ≡ file_text c.args.rules.now = search rules in
    subst (λ text. IsText text c.args.rules.now) (sym text) (printed_is_text c.args.rules.now c.schemas.ensures.file)
