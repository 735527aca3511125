use Rattle.std.proofs.Common.{◌≡◌, ◌∙◌, ℕ, List, length, sum_by, ap, sym, arith}
use Rattle.std.proofs.lemmas.List.{take_at}
use Rattle.std.proofs.lemmas.List.Elements.{All-same}
use Rattle.rh_engine.specs.Crew.{Seen, HasRun}
use Rattle.rh_engine.proofs.Crews.{same_sums}
use Rattle.rh_engine.proofs.forked.solve_named_hinted.Goals as goal

pub gather-seat-requires-clause-run : goal.gather-seat-requires-clause-run
gather-seat-requires-clause-run g c =
    let m = g.N.SystemName.meaning in
    let ran : List Seen = c.run_all_hinted.new.crew in
    let long : length ran ≡ c.in_ok-crew.crew.len = omega (arith, c.run_all_hinted.auto.crew, c.as_mut_slice.ensures.len) in
    All-same (HasRun m.full m.rows) _ ran (take_at ran _ c.in_ok-crew.crew.len long) c.run_all_hinted.ensures.run

pub gather-seat-requires-clause-stakes : goal.gather-seat-requires-clause-stakes
gather-seat-requires-clause-stakes g c =
    let f : Seen → ℕ = λ w. w.1.stake in
    let ran : List Seen = c.run_all_hinted.new.crew in
    let given : List Seen = c.as_mut_slice.result.now in
    let long : length ran ≡ c.in_ok-crew.crew.len = omega (arith, c.run_all_hinted.auto.crew, c.as_mut_slice.ensures.len) in
    let same : sum_by f ran ≡ sum_by f given = same_sums f given ran (sym c.run_all_hinted.auto.crew) c.run_all_hinted.ensures.stakes in
    ap (sum_by f) (take_at ran _ c.in_ok-crew.crew.len long) ∙ (same ∙ (ap (sum_by f) c.as_mut_slice.ensures.value ∙ c.in_ok-crew.ensures.stakes))
