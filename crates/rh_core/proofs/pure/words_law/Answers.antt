use Rattle.rh_core.specs.State.{opening}
use Rattle.rh_core.proofs.Keeps.{opening_keeps}
use Rattle.rh_core.proofs.Cores.{events_keep}
use Rattle.rh_core.proofs.pure.words_law.Goals as goal

pub returns : goal.returns
returns g c workers events lawful =
    let full = g.S.System.full_words c.args._system.now in
    let rows = g.S.System.rows c.args._system.now in
    events_keep full rows (opening full workers) events (opening_keeps workers (g.met.S.System.covered c.args._system.now)) lawful
