use Rattle.std.proofs.Common.{Some, ap, sym, ◌∙◌}
use Rattle.rh_rows.specs.Known.{known_in}
use Rattle.rh_transform.proofs.Applying.{found_by}
use Rattle.rh_transform.proofs.templates.template_at.Goals as goal

pub returns-in-Admitted-Transform : goal.returns-in-Admitted-Transform
returns-in-Admitted-Transform c = λ proc read.
    c.template_for.ensures
    ∙ found_by (known_in c.args.ground.now.file.schemas c.args.ground.now.program c.args.words.now) c.args.place proc c.args.number c.args.stmt
    c.args.ground.now.file.rules c.args.ground.now.rulings c.args.rule c.in_ok-shape.shape.now c.in-Admitted-Transform.template c.first_instance-found.result
    (sym c.in_ok-shape.ensures) (sym c.in_ok-ruling_at.ensures ∙ ap Some c.in-Admitted-Transform.is-0) c.in-Admitted-Transform.is-1
    (c.first_instance-found.ensures proc c.in_ok-shape.shape.now read (sym c.in_ok-shape.ensures))
