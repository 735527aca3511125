use Rattle.std.proofs.Common.{ap, ◌∙◌, unwrap_or}
use Rattle.rh_rows.specs.Known.{known_in}
use Rattle.rh_transform.specs.Rewritten.{first_applicable}
use Rattle.rh_transform.proofs.Applying.{made, mapped_with}
use Rattle.rh_transform.proofs.rewriting.replaced.Goals as goal

pub returns : goal.returns
returns c = λ proc at read.
    let known = known_in c.args.ground.now.file.schemas c.args.ground.now.program c.args.words.now in
    c.unwrap_or.ensures
    ∙ ap (λ o. unwrap_or o c.args.stmt) (c.first_rewrite.ensures proc c.args.stmt at read)
    ∙ mapped_with (made known c.args.place proc c.args.number c.args.stmt) (first_applicable known c.args.ground.now.file.rules c.args.ground.now.rulings c.args.place proc c.args.number) c.args.stmt
