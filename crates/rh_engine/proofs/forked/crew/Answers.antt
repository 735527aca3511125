use Rattle.std.proofs.Common.{◌+◌, ◌≤◌, List, length, sym, subst, arith}
use Rattle.rh_engine.specs.Crew.{Seen}
use Rattle.rh_engine.proofs.Crews.{Gathers, gathers_none, gathers_more}
use Rattle.rh_engine.proofs.forked.crew.Goals as goal

pub loop-id-init : goal.loop-id-init
loop-id-init g c =
    let words = length g.N.SystemName.meaning.full in
    subst (λ (l : List Seen). Gathers c.args.words.now.0 words 0 l c.args.first) (sym c.in_ok-crew.ensures.items) (gathers_none _ _ _ c.requires.table c.requires.view)

pub loop-id-preserved : goal.loop-id-preserved
loop-id-preserved g c =
    let words = length g.N.SystemName.meaning.full in
    let enough : 2 ≤ c.loop-id.first.1.stake = omega (arith, c.loop-id.invariant.stake, c.requires.few) in
    subst (λ (l : List Seen). Gathers c.args.words.now.0 words (c.loop-id.id + 1) l c.split.new.seat) (sym c.in_ok-push.ensures.items)
    (gathers_more _ words c.loop-id.id _ c.loop-id.first c.split.new.seat c.in_ok-seat.seat c.new.result c.loop-id.invariant enough c.split.ensures.table c.in_ok-seat.ensures.ok.0 c.in_ok-seat.ensures.ok.1 c.new.ensures)

pub split-requires-clause-stake : goal.split-requires-clause-stake
split-requires-clause-stake g c = omega (arith, c.loop-id.invariant.stake, c.requires.few)
