use Rattle.std.proofs.Common.{ap, ◌∙◌}
use Rattle.std.specs.Option.{is_some}
use Rattle.rh_ground.specs.Match.{template_under}
use Rattle.rh_rows.specs.Known.{known_in}
use Rattle.rh_transform.specs.Rewritten.{first_applicable}
use Rattle.rh_report.proofs.Rewrites.{some_mapped}
use Rattle.rh_report.proofs.tally.is_rewritten.Goals as goal

pub returns : goal.returns
returns c = λ proc stmt at read.
    let ground = c.args.ground.now in
    let known = known_in ground.file.schemas ground.program c.args.words.now in
    c.is_some.ensures ∙ ap is_some (c.first_rewrite.ensures proc stmt at read)
    ∙ some_mapped (λ candidate. template_under candidate.binding candidate.template stmt) (first_applicable known ground.file.rules ground.rulings c.args.place proc c.args.number)
