use Rattle.std.proofs.Common.{length, vec_len}
use Rattle.std.specs.List.{All}
use Rattle.rh_engine.specs.Crew.{HasLoaded}
use Rattle.rh_engine.proofs.Crews.{Joins}
use Rattle.rh_engine.proofs.forked.gather.Given as goal

abbrev pub invariant-loop-worker : goal.invariant-loop-worker
invariant-loop-worker g l =
    let m = g.N.SystemName.meaning in
    Joins (All (λ w. HasLoaded (length m.full) w.2 w) l.fn.crew.items) l.words.0 m.full m.rows (vec_len l.fn.crew) l.crew.items l.seat l.turns

abbrev pub decreases-loop-worker : goal.decreases-loop-worker
decreases-loop-worker g l = vec_len l.crew
