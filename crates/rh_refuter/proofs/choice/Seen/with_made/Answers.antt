use Rattle.std.proofs.Common.{[], ◌∷◌, subst}
use Rattle.rh_term.specs.declared.clause.Clause.{Clause}
use Rattle.rh_refuter.specs.Choice.{Adds}
use Rattle.rh_refuter.proofs.Adding.{adds_one}
use Rattle.rh_refuter.proofs.choice.Seen.with_made.Goals as goal

pub loop-clause-preserved : goal.loop-clause-preserved
loop-clause-preserved c =
    let labels = c.args.labels.now in
    let now = c.loop-clause.seen in
    let new = c.with_clause-seen.result in
    adds_one labels c.args.clauses.now c.loop-clause.clause-index c.clause-item.result c.loop-clause-test.true c.args.self now new c.loop-clause.invariant
    (subst (λ (clause : Clause). Adds labels now (clause ∷ []) new) c.clause-item.is c.with_clause-seen.ensures)
