use Rattle.std.proofs.Common.{◌∷◌, List, [], ℕ, take, ap, sym, ◌∙◌}
use Rattle.std.proofs.Math.Seq.{drop-length, take-length}
use Rattle.rh_log_text.specs.Lines.{lines_of}
use Rattle.rh_log_text.proofs.Cutting.{lines_at, lines_one, tail_is}
use Rattle.rh_log_text.proofs.lines.cut_line.Goals as goal

pub returns-in-Some-clause-lines : goal.returns-in-Some-clause-lines
returns-in-Some-clause-lines c =
    let text = c.args.text.now in
    let end = c.in-Some.end in
    lines_at text end (sym c.in-Some.ensures.end) ∙ ap (λ (rest : List ℕ). take end text ∷ lines_of rest) (sym (tail_is text end))

pub returns-in-None-clause-lines : goal.returns-in-None-clause-lines
returns-in-None-clause-lines c =
    let text = c.args.text.now in
    lines_one text c.requires (sym c.in-None.ensures.end)
    ∙ ap (λ (line : List ℕ). line ∷ []) (sym (c.split_at.ensures.front ∙ take-length text))
    ∙ ap (λ (rest : List ℕ). c.split_at.result.0.now ∷ lines_of rest) (sym (c.split_at.ensures.back ∙ drop-length text))
