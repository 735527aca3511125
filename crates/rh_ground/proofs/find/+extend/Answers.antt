use Rattle.std.proofs.Common.{◌∷◌, ◌++◌, [], ap, ◌∙◌, refl}
use Rattle.rh_ground.proofs.FindLists.{cut_back}
use Rattle.rh_ground.proofs.Finding.{at_first, found_with, tried}
use Rattle.rh_ground.proofs.find.+extend.Goals as goal

pub loop-number-init : goal.loop-number-init
loop-number-init g t c = (
  refl,
  at_first c.args.domain.now c.args.params.now c.in-Some.param.now c.in-Some.others.now c.in-Some.ensures.cases.0 (g.W.Wanted.accepts c.args.wanted.now) c.args.args.now c.fixed.result
      c.len-meta.result c.numbers_to_try-first.result.0 c.numbers_to_try-first.result.1 c.len-meta.ensures c.fixed.ensures c.numbers_to_try-first.ensures.all,
)

pub returns-then-extend : goal.returns-then-extend
returns-then-extend g t c =
    let more = c.push_arg.ensures in
    found_with c.args.domain.now c.args.params.now c.in-Some.param.now c.in-Some.others.now c.in-Some.ensures.cases.0 (g.W.Wanted.accepts c.args.wanted.now) c.args.args.now
    c.loop-number.number c.numbers_to_try-first.result.1 c.loop-number-test.true more.0 more.1 c.push_arg.new.args (more.2 ∙ ap (λ args. args ++ more.0 ∷ []) c.loop-number.invariant.0)
    c.extend.new.args c.if-extend.ensures c.loop-number.invariant.1

pub loop-number-preserved : goal.loop-number-preserved
loop-number-preserved g t c =
    let more = c.push_arg.ensures in
    let pushed = more.2 ∙ ap (λ args. args ++ more.0 ∷ []) c.loop-number.invariant.0 in (
      cut_back c.extend.new.args c.truncate.new.self c.args.args.now more.0 c.len-meta.result c.truncate.ensures (c.if-extend.ensures.0 ∙ pushed) c.len-meta.ensures,
      tried c.args.domain.now c.args.params.now c.in-Some.param.now c.in-Some.others.now c.in-Some.ensures.cases.0 (g.W.Wanted.accepts c.args.wanted.now) c.args.args.now
          c.loop-number.number c.numbers_to_try-first.result.1 c.loop-number-test.true more.0 more.1 c.push_arg.new.args pushed c.extend.new.args c.if-extend.ensures c.loop-number.invariant.1,
    )
