use Rattle.std.proofs.Common.{◌≡◌, ◌∙◌, ℕ, List, length, sum_by, ap, sym, subst, arith}
use Rattle.std.specs.List.{All}
use Rattle.std.proofs.lemmas.List.{take_at}
use Rattle.std.proofs.lemmas.List.Elements.{All-same}
use Rattle.rh_engine.specs.Crew.{Seen, HasLoaded, HasRun}
use Rattle.rh_engine.proofs.Crews.{same_sums, loaded_afresh}
use Rattle.rh_engine.proofs.forked.solve_named.Goals as goal

pub gather-seat-requires-clause-run : goal.gather-seat-requires-clause-run
gather-seat-requires-clause-run g c =
    let m = g.N.SystemName.meaning in
    let ran : List Seen = c.run_all.new.crew in
    let long : length ran ≡ c.in_ok-crew.crew.len = omega (arith, c.run_all.auto.crew, c.as_mut_slice.ensures.len) in
    All-same (HasRun m.full m.rows) _ ran (take_at ran _ c.in_ok-crew.crew.len long) c.run_all.ensures.run

pub gather-seat-requires-clause-stakes : goal.gather-seat-requires-clause-stakes
gather-seat-requires-clause-stakes g c =
    let f : Seen → ℕ = λ w. w.1.stake in
    let ran : List Seen = c.run_all.new.crew in
    let given : List Seen = c.as_mut_slice.result.now in
    let long : length ran ≡ c.in_ok-crew.crew.len = omega (arith, c.run_all.auto.crew, c.as_mut_slice.ensures.len) in
    let same : sum_by f ran ≡ sum_by f given = same_sums f given ran (sym c.run_all.auto.crew) c.run_all.ensures.stakes in
    ap (sum_by f) (take_at ran _ c.in_ok-crew.crew.len long) ∙ (same ∙ (ap (sum_by f) c.as_mut_slice.ensures.value ∙ c.in_ok-crew.ensures.stakes))

pub close_loaded-requires-clause-loaded : goal.close_loaded-requires-clause-loaded
close_loaded-requires-clause-loaded g c =
    let words = length g.N.SystemName.meaning.full in
    let ran : List Seen = c.run_all.new.crew in
    let given : List Seen = c.as_mut_slice.result.now in
    let long : length ran ≡ c.in_ok-crew.crew.len = omega (arith, c.run_all.auto.crew, c.as_mut_slice.ensures.len) in
    let fresh : All (HasLoaded words 0) given = subst (λ (ws : List Seen). All (HasLoaded words 0) ws) (sym c.as_mut_slice.ensures.value) c.in_ok-crew.ensures.fresh in
    c.gather-seat.ensures.loaded
    (All-same (λ (w : Seen). HasLoaded words w.2 w) _ ran (take_at ran _ c.in_ok-crew.crew.len long) (loaded_afresh words given ran c.run_all.auto.crew fresh c.run_all.ensures.loads))
