use Rattle.std.proofs.Common.{ap, length, subst, sym, List, ℕ}
use Rattle.rh_system.specs.Rows.{HoldsGreatest}
use Rattle.rh_system.proofs.OneRound.{full_holds}
use Rattle.rh_system.proofs.rounds.greatest.Goals as goal

pub loop-init : goal.loop-init
loop-init g c =
    let all = g.S.System.full_words c.args.system.now in
    let holds : HoldsGreatest (g.S.System.rows c.args.system.now) all = full_holds all (g.S.System.rows c.args.system.now) (g.met.S.System.covered c.args.system.now) in
    record {
      as_long = ap length c.in_ok-words.ensures;
      holds = subst (λ (ws : List ℕ). HoldsGreatest (g.S.System.rows c.args.system.now) ws) (sym c.in_ok-words.ensures) holds;
    }
