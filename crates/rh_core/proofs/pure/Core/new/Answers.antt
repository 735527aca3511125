use Rattle.std.proofs.Common.{◌≡◌, ◌∙◌, ap, subst, sym, replicate, List, ℕ}
use Rattle.rh_core.specs.State.{WorkerState, newcomer}
use Rattle.rh_core.specs.WordsLaw.{IsCore}
use Rattle.rh_core.proofs.Cores.{opening_core}
use Rattle.rh_core.proofs.pure.Core.new.Goals as goal

pub invariant_of-result : goal.invariant_of-result
invariant_of-result g c =
    let full = g.S.System.full_words c.args.system.now in
    let rows = g.S.System.rows c.args.system.now in
    let words : c.in_ok-words.words.items ≡ full = c.in_ok-words.ensures in
    let workers : c.loop.all.items ≡ replicate c.loop.counter (newcomer full) = c.loop.invariant ∙ ap (λ (ws : List ℕ). replicate c.loop.counter (newcomer ws)) words in
    let P : List ℕ → List WorkerState → Type 0 = λ ws all. IsCore full rows record { words = ws; workers = all } in
    subst (λ (ws : List ℕ). P ws c.loop.all.items) (sym words) (subst (P full) (sym workers) (opening_core full rows c.loop.counter (g.met.S.System.covered c.args.system.now)))
