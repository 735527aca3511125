use Rattle.std.proofs.Common.{ℕ, Option, take, ap, sym, ◌∙◌}
use Rattle.rh_log_text.specs.Reading.{node_with, number_of}
use Rattle.rh_log_text.proofs.Cutting.{tail_is}
use Rattle.rh_log_text.proofs.LineBack.{node_at}
use Rattle.rh_log_text.proofs.line.node_of.Goals as goal

pub returns-in-Some : goal.returns-in-Some
returns-in-Some c =
    let bytes = c.args.bytes.now in
    let end = c.in-Some.end in
    c.node_with.ensures
    ∙ ap (λ (clause : Option ℕ). node_with clause c.number_of-in-Some.result) c.number_of.ensures
    ∙ ap (λ (children : Option ℕ). node_with (number_of (take end bytes)) children) (c.number_of-in-Some.ensures ∙ ap number_of (tail_is bytes end))
    ∙ sym (node_at bytes end (sym c.in-Some.ensures.end))
