use Rattle.std.proofs.Common.{◌≡◌, ◌++◌, ◌∷◌, [], List, ap, sym, subst, ◌∙◌}
use Rattle.rh_log_text.specs.declared.logs.RuleLogs.{RuleLogs}
use Rattle.rh_log_text.specs.declared.line.Line.TheVariants.{Rule}
use Rattle.rh_log_text.specs.declared.reader.Reader.{Reader}
use Rattle.rh_log_text.specs.declared.reader.Reader.TheVariants.{Between}
use Rattle.rh_log_text.specs.Reader.{Reads}
use Rattle.rh_log_text.proofs.Steps.{reads_rule}
use Rattle.rh_log_text.proofs.reader.ended.Goals as goal

pub returns : goal.returns
returns c =
    let done : c.push.new.self ≡ c.args.done ++ record { name = c.args.section.name; line = c.args.section.line; end = c.args.number; logs = c.args.section.logs } ∷ [] =
    c.in_ok-push.ensures.ok ∙ ap (λ (last : RuleLogs). c.args.done ++ last ∷ []) c.closed.ensures in
    subst (λ (next : Reader). Reads (Between c.args.done c.args.section) c.args.number (Rule c.args.name) next)
    (sym (c.begun.ensures ∙ ap (λ (done : List RuleLogs). Between done record { name = c.args.name; line = c.args.number; logs = [] }) done))
    (reads_rule c.args.done c.args.section c.args.name c.args.number)
