use Rattle.std.proofs.Common.{◌≡◌, ℕ, List, [], subst}
use Rattle.std.proofs.lemmas.List.{nil_from_length}
use Rattle.rh_system.specs.Rows.{IsCovered}
use Rattle.rh_engine.proofs.Crews.{empty_greatest}
use Rattle.rh_engine.proofs.forked.solve_empty.Goals as goal

pub returns-clause-greatest : goal.returns-clause-greatest
returns-clause-greatest g c =
    let rows = g.S.System.rows c.args._system.now in
    let none : g.S.System.full_words c.args._system.now ≡ [] = nil_from_length _ c.requires in
    empty_greatest rows _ (subst (λ (full : List ℕ). IsCovered full rows) none (g.met.S.System.covered c.args._system.now)) c.new.ensures
