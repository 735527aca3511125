use Rattle.std.proofs.Common.{rules, ◌≡◌, ◌+◌, ◌∷◌, ◌++◌, [], length, ap, sym, ◌∙◌, refl, arith}
use Rattle.std.specs.Prelude.{slice_get}
use Rattle.std.proofs.Math.ListN.{length-append}
use Rattle.rh_ground.proofs.FindLists.{cut_back}
use Rattle.rh_ground.proofs.Trying.{first_there, first_tried, others_tried}
use Rattle.rh_ground.proofs.Visiting.{none_before, visited_with}
use Rattle.rh_ground.proofs.visit.+visit_after.Goals as goal

pub at-first-requires : goal.at-first-requires
at-first-requires g t c =
    let there = first_there c.args.domain.now (g.V.Wanted.accepts c.args.visitor.now) (length c.args.args.now) c.args.params.now c.in-Some.param.now c.in-Some.others.now c.args.ranges.now c.in-Some.ensures.cases.0 c.requires.ranges in
    let meta = c.len-meta.ensures in
    omega (arith, there, meta)

pub loop-number-init : goal.loop-number-init
loop-number-init g t c =
    let accepts = g.V.Wanted.accepts c.args.visitor.now in
    let front = c.args.args.now in
    let range = c.at-first.result in
    let to = first_tried c.args.domain.now accepts (length front) c.args.params.now c.in-Some.param.now c.in-Some.others.now c.args.ranges.now c.in-Some.ensures.cases.0 c.requires.ranges range
    (ap (λ n. slice_get c.args.ranges.now n) (sym c.len-meta.ensures) ∙ c.at-first.ensures) in (
      refl,
      none_before (g.V.Visitor.visits c.args.visitor.now) accepts c.args.domain.now c.in-Some.param.now c.in-Some.others.now front c.args.params.now c.in-Some.ensures.cases.0
          to.fixed (length front) range.0 range.1 c.args.kept.now refl to.known to.tried,
    )

pub push_arg-requires-clause-within : goal.push_arg-requires-clause-within
push_arg-requires-clause-within g t c =
    let range = c.at-first.result in
    let to = first_tried c.args.domain.now (g.V.Wanted.accepts c.args.visitor.now) (length c.args.args.now) c.args.params.now c.in-Some.param.now c.in-Some.others.now c.args.ranges.now c.in-Some.ensures.cases.0 c.requires.ranges range
    (ap (λ n. slice_get c.args.ranges.now n) (sym c.len-meta.ensures) ∙ c.at-first.ensures) in
    let within = to.within in
    omega (arith, within, c.loop-number-test.true)

pub visit_after-requires : goal.visit_after-requires
visit_after-requires g t c =
    let more = c.push_arg.ensures in
    let pushed = more.2 ∙ ap (λ args. args ++ more.0 ∷ []) c.loop-number.invariant.0 in
    let size : length c.push_arg.new.args ≡ length c.args.args.now + 1 = ap length pushed ∙ length-append c.args.args.now (more.0 ∷ []) in
    let tried = others_tried c.args.domain.now (g.V.Wanted.accepts c.args.visitor.now) (length c.args.args.now) c.args.params.now c.in-Some.param.now c.in-Some.others.now c.args.ranges.now c.in-Some.ensures.cases.0 c.requires.ranges
    (length c.push_arg.new.args) size in
    search (tried, rules)

pub loop-number-preserved : goal.loop-number-preserved
loop-number-preserved g t c =
    let more = c.push_arg.ensures in
    let pushed = more.2 ∙ ap (λ args. args ++ more.0 ∷ []) c.loop-number.invariant.0 in (
      cut_back c.visit_after.new.args c.truncate.new.self c.args.args.now more.0 c.len-meta.result c.truncate.ensures (c.visit_after.ensures.args ∙ pushed) c.len-meta.ensures,
      visited_with (g.V.Visitor.visits c.args.visitor.now) (g.V.Wanted.accepts c.args.visitor.now) c.args.domain.now c.in-Some.param.now c.in-Some.others.now c.args.args.now c.args.params.now c.in-Some.ensures.cases.0
          c.loop-number.number c.at-first.result.1 c.loop-number-test.true more.0 more.1 c.push_arg.new.args pushed c.args.kept.now c.loop-number.kept c.visit_after.new.kept c.loop-number.invariant.1 c.visit_after.ensures.visited,
    )
