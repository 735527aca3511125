use Rattle.std.proofs.Common.{◌≡◌, ◌+◌, ◌-◌, List, length, ap, sym, ◌∙◌, arith, vec_len}
use Rattle.rh_il_step.specs.declared.frame.Frame.{Frame}
use Rattle.rh_il_step.specs.Step.{gone}
use Rattle.rh_il_step.proofs.Frames.{gone_reversed}
use Rattle.rh_il_step.proofs.state.State.leave.Goals as goal

pub returns-then-count-gt0 : goal.returns-then-count-gt0
returns-then-count-gt0 c =
    let last : (c.len-count.result - 1) + 1 ≡ length c.self.inside.frames.items = omega (arith, c.self.inside.frames.ok.0, c.len-count.ensures, c.if-count-gt0.true) in
    ap (λ frames. record { frames = frames; cells = c.self.inside.cells.items })
    (gone_reversed c.self.inside.frames.items (c.len-count.result - 1) c.args.number c.args.slot c.index_mut-top.result.now last c.index_mut-top.ensures.value)
    ∙ ap (λ seen. record { frames = gone seen.frames c.args.number c.args.slot; cells = seen.cells }) c.self.view_is
