use Rattle.std.proofs.Common.{◌≡◌, ◌+◌, ◌++◌, [], ◌∷◌, List, drop, take, get_or, sym, subst, ◌∙◌, ap}
use Rattle.std.specs.List.{AllByRecursion, flat_map}
use Rattle.rh_list.proofs.Appended.{apart}
use Rattle.rh_meaning.specs.declared.literal.TreeLit.{TreeLit as BuiltLit}
use Rattle.rh_meaning.specs.declared.literal.TreeClause.{TreeClause as BuiltClause}
use Rattle.rh_term.specs.declared.clause.Clause.{Clause}
use Rattle.rh_meaning.specs.Placed.{clause_in, clauses_in}
use Rattle.rh_meaning.specs.Sorts.{IsIn}
use Rattle.rh_meaning.specs.Literal.{clause_trees, literal_trees}
use Rattle.rh_meaning.specs.View.{clauses_of, lits_of}
use Rattle.rh_oblig.proofs.Build.{clauses_cut, clauses_more}
use Rattle.rh_oblig.proofs.obligation.clauses_in.Goals as goal

pub clause_in-requires : goal.clause_in-requires
clause_in-requires c =
    let terms = c.args.terms.now in
    let clauses : List BuiltClause = c.args.clauses.now in
    let item : BuiltClause = c.clause-item.result in
    let i = c.loop-clause.clause-index in
    let whole = subst (AllByRecursion (IsIn terms)) (clauses_cut clauses i item c.loop-clause-test.true) c.loop-clause.invariant.stand in
    subst (λ (lits : List BuiltLit). AllByRecursion (IsIn terms) (flat_map literal_trees (lits_of lits)))
    (ap (λ (clause : BuiltClause). clause.lits.items) (sym c.clause-item.is) ∙ sym c.as_slice.ensures.value)
    (apart (IsIn terms) (clause_trees (lits_of (get_or clauses i item).lits.items)) (flat_map clause_trees (clauses_of (drop (i + 1) clauses))) whole).0

pub loop-clause-preserved : goal.loop-clause-preserved
loop-clause-preserved c =
    let terms = c.args.terms.now in
    let clauses : List BuiltClause = c.args.clauses.now in
    let item : BuiltClause = c.clause-item.result in
    let i = c.loop-clause.clause-index in
    let old = c.loop-clause.invariant in
    let placed : c.in_ok-clause_in.field-0 ≡ clause_in terms (lits_of (get_or clauses i item).lits.items) =
    c.in_ok-clause_in.ensures
    ∙ ap (λ (lits : List BuiltLit). clause_in terms (lits_of lits)) (c.as_slice.ensures.value ∙ ap (λ (clause : BuiltClause). clause.lits.items) c.clause-item.is) in
    let whole = subst (AllByRecursion (IsIn terms)) (clauses_cut clauses i item c.loop-clause-test.true) old.stand in
    record {
      placed = c.in_ok-push.ensures.items
          ∙ ap (λ (front : List Clause). front ++ c.in_ok-clause_in.field-0 ∷ []) old.placed
          ∙ ap (λ (clause : Clause). clauses_in terms (clauses_of (take i clauses)) ++ clause ∷ []) placed
          ∙ sym (clauses_more terms clauses i item c.loop-clause-test.true);
      stand = (apart (IsIn terms) (clause_trees (lits_of (get_or clauses i item).lits.items)) (flat_map clause_trees (clauses_of (drop (i + 1) clauses))) whole).1;
    }
