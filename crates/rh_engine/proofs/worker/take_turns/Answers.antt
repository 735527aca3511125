use Rattle.std.proofs.Common.{◌≡◌, ◌∙◌, ◌+◌, ◌-◌, ◌^◌, ◌*◌, ◌<◌, ◌≤◌, ℕ, ap, refl, arith}
use Rattle.rh_engine.specs.Turns.{more_loads}
use Rattle.std.proofs.lemmas.Bool.Decides.{when_true, when_false}
use Rattle.rh_system.specs.Bits.{bit_count}
use Rattle.rh_system.proofs.Supports.{greatest_from}
use Rattle.rh_engine.proofs.Fewer.{no_loads, turn_loads, lists_within, count_words}
use Rattle.rh_engine.proofs.worker.take_turns.Goals as goal

pub loop-turns-init : goal.loop-turns-init
loop-turns-init g c =
    let m = g.N.SystemName.meaning in
    let le : bit_count c.args.seat.now.1.seen ≤ bit_count m.full = lists_within _ _ c.is_seated.ensures.as_long c.is_seated.ensures.within in
    record { table = refl; stake = refl; loads = no_loads _; some = omega arith; few = omega arith }

pub loop-turns-preserved : goal.loop-turns-preserved
loop-turns-preserved g c =
    let inv = c.loop-turns.invariant in
    let some : 0 < c.loop-turns.turns = inv.some in
    let loads : c.turn.new.seat.1.loads ≡ more_loads c.loop-turns.turns c.args.seat.now.1.loads = turn_loads _ _ _ _ c.turn.ensures.loads inv.loads some in
    let back : c.loop-turns.turns ≡ c.loop-turns.turns + 1 - 1 = omega arith in
    let less : bit_count c.turn.new.seat.1.seen < bit_count c.loop-turns.seat.1.seen = when_true _ _ c.loop-turns-test.true c.turn.ensures.cleared in
    record {
      table = c.turn.ensures.table ∙ inv.table;
      stake = c.turn.ensures.stake ∙ inv.stake;
      loads = loads ∙ ap (λ (n : ℕ). more_loads n c.args.seat.now.1.loads) back;
      some = omega arith;
      few = omega (arith, inv.few);
    }

pub overflow_add-turns : goal.overflow_add-turns
overflow_add-turns g c =
    let m = g.N.SystemName.meaning in
    let most : bit_count m.full ≤ 2 ^ 32 * 64 = count_words m.full c.is_named.ensures.few c.is_named.ensures.fit in
    record { fits = omega (arith, c.loop-turns.invariant.few) }

pub returns-clause-loads : goal.returns-clause-loads
returns-clause-loads g c = turn_loads _ _ _ _ c.turn.ensures.loads c.loop-turns.invariant.loads c.loop-turns.invariant.some

pub returns-clause-greatest : goal.returns-clause-greatest
returns-clause-greatest g c = greatest_from _ _ c.is_seated-2.ensures.greatest (when_false _ _ c.loop-turns-test.false c.turn.ensures.closed)

pub returns-clause-few : goal.returns-clause-few
returns-clause-few g c = omega (arith, c.loop-turns.invariant.few)
