use Rattle.std.proofs.Common.{◌≡◌, ◌∙◌, ◌+◌, ◌*◌, ◌^◌, ◌≤◌, ℕ, List, Some, length, vec_len, rules, ap, sym, subst, arith}
use Rattle.std.proofs.Math.Nat.{mul-le-mul_right}
use Rattle.std.specs.List.{All}
use Rattle.std.proofs.lemmas.List.Elements.{All-pop}
use Rattle.atomic_table.specs.Seated.{TableId}
use Rattle.rh_system.specs.Bits.{bit_count}
use Rattle.rh_edge_words.specs.declared.view.View.{View}
use Rattle.rh_edge_words.specs.Seated.{JoinsView}
use Rattle.rh_engine.specs.Crew.{Seen, HasLoaded, HasRun}
use Rattle.rh_engine.proofs.Fewer.{count_words}
use Rattle.rh_engine.proofs.Crews.{Joins, join_first, join_step}
use Rattle.rh_engine.proofs.forked.gather.Goals as goal

pub loop-worker-init : goal.loop-worker-init
loop-worker-init g c =
    let m = g.N.SystemName.meaning in
    let rest : List Seen = c.pop.new.self.items in
    let w : Seen = c.in-Some.last in
    let many : length c.args.crew.items ≡ vec_len c.args.crew = search rules in
    let joins = join_first c.args.words.now.0 m.full m.rows (vec_len c.args.crew) c.args.crew.items rest w c.in-Some.ensures.items many c.requires.tables c.requires.run c.requires.stakes in
    let P : TableId × View → ℕ → Type 0 = λ s t. Joins (All (λ (x : Seen). HasLoaded (length m.full) x.2 x) c.args.crew.items) c.args.words.now.0 m.full m.rows (vec_len c.args.crew) rest s t in
    subst (λ (t : ℕ). P c.into_seat-seat.result t) (sym c.turns-turns.ensures) (subst (λ (s : TableId × View). P s w.2) (sym c.into_seat-seat.ensures) joins)

pub loop-worker-preserved : goal.loop-worker-preserved
loop-worker-preserved g c =
    let m = g.N.SystemName.meaning in
    let w : Seen = c.in-Some-pop.worker in
    let joined : JoinsView c.loop-worker.seat.1 w.1 c.join.new.seat.1 =
    subst (λ (s : TableId × View). JoinsView c.loop-worker.seat.1 s.1 c.join.new.seat.1) c.into_seat.ensures c.join.ensures.joined in
    let rest : List Seen = c.pop-in-loop-worker.new.self.items in
    let exact : Type 0 = All (λ (x : Seen). HasLoaded (length m.full) x.2 x) c.args.crew.items in
    let step =
    join_step exact c.args.words.now.0 m.full m.rows (vec_len c.args.crew) c.loop-worker.crew.items rest w c.loop-worker.seat c.join.new.seat c.loop-worker.turns c.in-Some-pop.ensures.items c.loop-worker.invariant
    c.join.ensures.table joined c.is_seated.ensures.greatest in
    subst (λ (t : ℕ). Joins exact c.args.words.now.0 m.full m.rows (vec_len c.args.crew) rest c.join.new.seat (c.loop-worker.turns + t)) (sym c.turns-turns-in-Some-pop.ensures) step

pub overflow_add-turns : goal.overflow_add-turns
overflow_add-turns g c =
    let m = g.N.SystemName.meaning in
    let w : Seen = c.in-Some-pop.worker in
    let bits : ℕ = bit_count m.full + 1 in
    let most : bit_count m.full ≤ 2 ^ 32 * 64 = count_words m.full c.is_named.ensures.few c.is_named.ensures.fit in
    let ran : HasRun m.full m.rows w = (All-pop (HasRun m.full m.rows) c.loop-worker.crew.items c.pop-in-loop-worker.new.self.items (Some w) c.in-Some-pop.ensures.items c.loop-worker.invariant.run).1 in
    let few : w.2 ≤ bits = ran.few in
    let is : c.turns-turns-in-Some-pop.result ≡ w.2 = c.turns-turns-in-Some-pop.ensures in
    let product : vec_len c.args.crew * bits ≤ 16 * bits = mul-le-mul_right bits c.requires.few in
    let so_far : c.loop-worker.turns + length c.loop-worker.crew.items * bits ≤ vec_len c.args.crew * bits = c.loop-worker.invariant.most in
    record { fits = omega arith }

pub join-requires-clause-other_table : goal.join-requires-clause-other_table
join-requires-clause-other_table g c =
    let w : Seen = c.in-Some-pop.worker in
    ap (λ (s : TableId × View). s.0) c.into_seat.ensures
    ∙ (All-pop (λ (x : Seen). x.0 ≡ c.args.words.now.0) c.loop-worker.crew.items c.pop-in-loop-worker.new.self.items (Some w) c.in-Some-pop.ensures.items c.loop-worker.invariant.tables).1
