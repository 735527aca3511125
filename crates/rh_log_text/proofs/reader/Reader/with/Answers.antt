use Rattle.std.proofs.Common.{[], List, ap, sym, subst, ◌∙◌}
use Rattle.rh_log_text.specs.declared.line.Line.{Line}
use Rattle.rh_log_text.specs.declared.line.Line.TheVariants.{Rule}
use Rattle.rh_log_text.specs.declared.logs.RuleLogs.{RuleLogs}
use Rattle.rh_log_text.specs.declared.reader.Reader.{Reader}
use Rattle.rh_log_text.specs.declared.reader.Reader.TheVariants.{Start, Between}
use Rattle.rh_log_text.specs.Reader.{Reads}
use Rattle.rh_log_text.proofs.Steps.{reads_first}
use Rattle.rh_log_text.proofs.reader.Reader.with.Goals as goal

pub returns-in-Rule : goal.returns-in-Rule
returns-in-Rule c =
    let name = c.in-Rule.name in
    let number = c.args.number in
    subst (λ (reader : Reader). Reads reader number c.args.line c.begun.result) (sym c.in-Start.is)
    (subst (λ (line : Line). Reads Start number line c.begun.result) (sym c.in-Rule.is)
    (subst (λ (next : Reader). Reads Start number (Rule name) next)
    (sym (c.begun.ensures ∙ ap (λ (done : List RuleLogs). Between done record { name = name; line = number; logs = [] }) c.new.ensures))
    (reads_first name number)))
