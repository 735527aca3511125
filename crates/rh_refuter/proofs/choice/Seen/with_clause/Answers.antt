use Rattle.std.proofs.Common.{◌≡◌, [], ◌∷◌, ◌++◌, arith, refl, sym, subst, ◌∙◌}
use Rattle.rh_refuter.specs.Choice.{IsBest}
use Rattle.rh_refuter.proofs.Choosing.{added, false_alone, kept, true_alone}
use Rattle.rh_refuter.proofs.choice.Seen.with_clause.Goals as goal
use Rattle.rh_refuter.proofs.choice.Seen.with_clause.Goals.{then-is_true, else-is_true}

pub returns : goal.returns
returns c =
    let labels = c.args.labels.now in
    let clause = c.args.clause.now in
    let seen = c.args.self in
    record {
      counted = refl;
      best = λ clauses e h. elim c.if-is_true.branch [
        | then-is_true w ↦
            subst (IsBest (clauses ++ clause ∷ []) labels) (sym w.best-is)
            (kept labels clauses (clause ∷ []) seen.best h (λ k f. absurd (true_alone labels clause (sym c.is_true.ensures ∙ w.if-is_true.true) k f)))
        | else-is_true w ↦
            subst (IsBest (clauses ++ clause ∷ []) labels) (sym (w.best-is ∙ w.narrower-best.ensures))
            (added labels clauses (clause ∷ []) (record { number = seen.count; width = w.width.result }) 0 (omega (arith, e)) w.width.ensures
            (false_alone labels clause (sym c.is_true.ensures ∙ w.if-is_true.false)) seen.best h)
      ];
    }
