use Rattle.std.proofs.Common.{◌∙◌, ◌^◌, ◌*◌, ◌<◌, ◌≤◌, refl, arith}
use Rattle.std.proofs.lemmas.Bool.Decides.{when_true}
use Rattle.rh_system.specs.Bits.{bit_count}
use Rattle.rh_engine.proofs.Fewer.{lists_within, count_words}
use Rattle.rh_engine.proofs.Hinting.{no_more_loads, turn_more, turn_then_hints}
use Rattle.rh_engine.proofs.hinted.take_hinted.Goals as goal

pub loop-seat-init : goal.loop-seat-init
loop-seat-init g c =
    let le : bit_count c.args.seat.now.1.seen ≤ bit_count g.N.SystemName.meaning.full = lists_within _ _ c.is_seated.ensures.as_long c.is_seated.ensures.within in
    record { table = refl; stake = refl; loads = no_more_loads _; some = omega arith; few = omega arith; hints = omega arith }

pub loop-seat-preserved : goal.loop-seat-preserved
loop-seat-preserved g c =
    let inv = c.loop-seat.invariant in
    let less : bit_count c.turn_by_shares.new.seat.1.seen < bit_count c.loop-seat.seat.1.seen = when_true _ _ c.loop-seat-test.true c.turn_by_shares.ensures.cleared in
    let fewer : bit_count c.hint_rounds-hints.new.seat.1.seen ≤ bit_count c.turn_by_shares.new.seat.1.seen = c.hint_rounds-hints.ensures.descends.fewer in
    record {
      table = c.hint_rounds-hints.ensures.table ∙ (c.turn_by_shares.ensures.table ∙ inv.table);
      stake = c.hint_rounds-hints.ensures.descends.stake ∙ (c.turn_by_shares.ensures.stake ∙ inv.stake);
      loads = turn_then_hints _ _ _ _ (turn_more _ _ _ _ inv.loads c.turn_by_shares.ensures.loads inv.some) c.hint_rounds-hints.ensures.descends.loads;
      some = omega arith;
      few = omega (arith, inv.few);
      hints = omega (arith, inv.hints, c.hint_rounds-hints.ensures.few);
    }

pub overflow_add-hints : goal.overflow_add-hints
overflow_add-hints g c =
    let m = g.N.SystemName.meaning in
    let most : bit_count m.full ≤ 2 ^ 32 * 64 = count_words m.full c.is_named.ensures.few c.is_named.ensures.fit in
    let less : bit_count c.turn_by_shares.new.seat.1.seen < bit_count c.loop-seat.seat.1.seen = when_true _ _ c.loop-seat-test.true c.turn_by_shares.ensures.cleared in
    record { fits = omega (arith, c.loop-seat.invariant.hints, c.hint_rounds-hints.ensures.few) }

pub overflow_add-turns : goal.overflow_add-turns
overflow_add-turns g c =
    let m = g.N.SystemName.meaning in
    let most : bit_count m.full ≤ 2 ^ 32 * 64 = count_words m.full c.is_named.ensures.few c.is_named.ensures.fit in
    record { fits = omega (arith, c.loop-seat.invariant.few) }
