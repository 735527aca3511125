use Rattle.std.proofs.Common.{◌+◌, ◌∙◌, arith, length-drop}
use Rattle.rh_oblig.proofs.Walks.{AddsOne, add_step}
use Rattle.rh_oblig.proofs.closing.add_all.Goals as goal

pub loop-other-preserved : goal.loop-other-preserved
loop-other-preserved c =
    let step : AddsOne c.loop-other.terms c.add.new.terms c.args.others.now c.loop-other.other-index =
    add_step _ _ c.args.others.now c.loop-other.other-index _ c.loop-other-test.true c.in_ok-add.ensures.added c.loop-other.invariant.fit in
    record {
      rest = step.rest ∙ c.loop-other.invariant.rest;
      fit = step.fit;
      room = omega (arith, c.in_ok-add.ensures.few, c.loop-other-test.true, length-drop c.loop-other.other-index c.args.others.now, length-drop (c.loop-other.other-index + 1) c.args.others.now, c.loop-other.invariant.room);
    }
