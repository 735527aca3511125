use Rattle.std.proofs.Common.{◌≡◌, ◌<◌, ◌+◌, ◌^◌, List, length, drop, get_or, sym, subst, ◌∙◌, ap}
use Rattle.std.specs.List.{AllByRecursion, flat_map}
use Rattle.rh_list.proofs.Appended.{apart}
use Rattle.rh_meaning.specs.declared.literal.TreeLit.{TreeLit as BuiltLit}
use Rattle.rh_meaning.specs.declared.literal.TreeClause.{TreeClause as BuiltClause}
use Rattle.rh_meaning.specs.Sorts.{IsSorted}
use Rattle.rh_meaning.specs.Literal.{clause_trees, literal_trees}
use Rattle.rh_meaning.specs.Tree.{Tree}
use Rattle.rh_meaning.specs.View.{clauses_of, lits_of}
use Rattle.rh_goals.specs.Few.{trees_size}
use Rattle.rh_oblig.specs.TermList.{with_trees}
use Rattle.rh_oblig.proofs.Build.{adds_piece, clauses_cut, piece_room}
use Rattle.rh_oblig.proofs.term_list.add_clauses.Goals as goal

pub add_lits-requires-clause-room : goal.add_lits-requires-clause-room
add_lits-requires-clause-room c =
    let clauses : List BuiltClause = c.args.clauses.now in
    let item : BuiltClause = c.clause-item.result in
    let i = c.loop-clause.clause-index in
    subst (λ (lits : List BuiltLit). length c.loop-clause.terms + trees_size (flat_map literal_trees (lits_of lits)) < 2 ^ 32)
    (ap (λ (clause : BuiltClause). clause.lits.items) (sym c.clause-item.is) ∙ sym c.as_slice.ensures.value)
    (piece_room (length c.loop-clause.terms) (flat_map clause_trees (clauses_of (drop i clauses))) (clause_trees (lits_of (get_or clauses i item).lits.items))
    (flat_map clause_trees (clauses_of (drop (i + 1) clauses))) (clauses_cut clauses i item c.loop-clause-test.true) c.loop-clause.invariant.room)

pub add_lits-requires-clause-sorted : goal.add_lits-requires-clause-sorted
add_lits-requires-clause-sorted c =
    let clauses : List BuiltClause = c.args.clauses.now in
    let item : BuiltClause = c.clause-item.result in
    let i = c.loop-clause.clause-index in
    let cut = clauses_cut clauses i item c.loop-clause-test.true in
    let whole = subst (AllByRecursion IsSorted) cut c.loop-clause.invariant.sorted in
    subst (λ (lits : List BuiltLit). AllByRecursion IsSorted (flat_map literal_trees (lits_of lits)))
    (ap (λ (clause : BuiltClause). clause.lits.items) (sym c.clause-item.is) ∙ sym c.as_slice.ensures.value)
    (apart IsSorted (clause_trees (lits_of (get_or clauses i item).lits.items)) (flat_map clause_trees (clauses_of (drop (i + 1) clauses))) whole).0

pub loop-clause-preserved : goal.loop-clause-preserved
loop-clause-preserved c =
    let clauses : List BuiltClause = c.args.clauses.now in
    let item : BuiltClause = c.clause-item.result in
    let i = c.loop-clause.clause-index in
    let old = c.loop-clause.invariant in
    let piece : List Tree = clause_trees (lits_of (get_or clauses i item).lits.items) in
    let added : c.add_lits.new.terms ≡ with_trees c.loop-clause.terms piece =
    c.in_ok-add_lits.ensures
    ∙ ap (λ (lits : List BuiltLit). with_trees c.loop-clause.terms (flat_map literal_trees (lits_of lits)))
    (c.as_slice.ensures.value ∙ ap (λ (clause : BuiltClause). clause.lits.items) c.clause-item.is) in
    let step = adds_piece c.loop-clause.terms c.add_lits.new.terms (flat_map clause_trees (clauses_of (drop i clauses))) piece (flat_map clause_trees (clauses_of (drop (i + 1) clauses)))
    (clauses_cut clauses i item c.loop-clause-test.true) added old.sorted old.room in
    record { same = step.same ∙ old.same; sorted = step.sorted; room = step.room }
