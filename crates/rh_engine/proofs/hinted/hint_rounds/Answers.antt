use Rattle.std.proofs.Common.{◌^◌, ◌*◌, ◌≤◌, arith}
use Rattle.rh_system.specs.Bits.{bit_count}
use Rattle.rh_engine.proofs.Fewer.{lists_within, count_words}
use Rattle.rh_engine.proofs.hinted.hint_rounds.Goals as goal

pub overflow_add-rounds : goal.overflow_add-rounds
overflow_add-rounds g c =
    let m = g.N.SystemName.meaning in
    let le : bit_count c.args.seat.now.1.seen ≤ bit_count m.full = lists_within _ _ c.is_seated.ensures.as_long c.is_seated.ensures.within in
    let most : bit_count m.full ≤ 2 ^ 32 * 64 = count_words m.full c.is_named.ensures.few c.is_named.ensures.fit in
    record { fits = omega (arith, c.loop-rounds.invariant.few) }
