use Rattle.std.proofs.Common.{sym, ◌∙◌}
use Rattle.rh_layout.proofs.EdgeWords.{words_counted}
use Rattle.rh_rows.proofs.support.GroundSystem.words.Goals as goal

pub returns : goal.returns
returns c =
    let ground = c.args.self.now in
    c.words.ensures ground.file.schemas ground.program c.layout.ensures ∙ sym (words_counted ground.file.schemas ground.program)
