use Rattle.std.proofs.Common.{◌≡◌, ◌∙◌, length, rules}
use Rattle.rh_audit.proofs.Sections.{numbered_one}
use Rattle.rh_audit.proofs.printing.numbered.Goals as goal

pub loop-log-preserved : goal.loop-log-preserved
loop-log-preserved c =
    let number : c.in-Ok.number ≡ length c.loop-log.placed = search rules in
    c.in_ok-push.ensures.ok ∙ numbered_one c.loop-log.placed c.loop-log.yielded c.in-Ok.number c.in-Some.log c.loop-log.invariant number
