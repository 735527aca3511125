use Rattle.std.proofs.Common.{◌≡◌, ◌+◌, List, ◌++◌, length, map, arith, ap, sym, subst, ◌∙◌}
use Rattle.std.proofs.lemmas.List.{length-map}
use Rattle.rh_term.specs.declared.clause.Clause.{Clause}
use Rattle.rh_term.specs.Computed.{clause_with}
use Rattle.rh_refuter.specs.Choice.{IsBest}
use Rattle.rh_refuter.proofs.Choosing.{added, first_chosen, kept, not_better, one_equation}
use Rattle.rh_refuter.proofs.choice.best_with.Goals as goal

pub returns-then-is_narrow : goal.returns-then-is_narrow
returns-then-is_narrow c =
    let labels = c.args.labels.now in
    let seen = c.args.seen in
    let triples = c.args.triples.now in
    record {
      counted = omega (arith, length-map triples (clause_with c.args.operation));
      best = λ clauses e h. kept labels clauses (map (clause_with c.args.operation) triples) seen.best h
          (not_better labels c.args.operation triples seen.best (sym c.is_narrow.ensures ∙ c.if-is_narrow.true));
    }

pub returns-in-Some : goal.returns-in-Some
returns-in-Some c =
    let labels = c.args.labels.now in
    let seen = c.args.seen in
    let triples = c.args.triples.now in
    let part : List Clause = map (clause_with c.args.operation) triples in
    let at = c.in-Some.at in
    record {
      counted = omega (arith, length-map triples (clause_with c.args.operation));
      best = λ clauses e h.
          subst (IsBest (clauses ++ part) labels) (sym c.narrower.ensures)
          (added labels clauses part (record { number = seen.count + at; width = 1 }) at (omega (arith, e))
          (sym (one_equation labels c.args.operation triples at c.in-Some.ensures.found.within))
          (first_chosen labels c.args.operation triples at c.in-Some.ensures.found) seen.best h);
    }

pub returns-in-None : goal.returns-in-None
returns-in-None c =
    let triples = c.args.triples.now in
    record {
      counted = omega (arith, length-map triples (clause_with c.args.operation));
      best = λ clauses e h. kept c.args.labels.now clauses (map (clause_with c.args.operation) triples) c.args.seen.best h
          (λ k f. absurd (c.in-None.ensures.none k f));
    }
