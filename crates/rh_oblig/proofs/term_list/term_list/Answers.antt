use Rattle.std.proofs.Common.{◌≡◌, ◌<◌, ◌+◌, ◌^◌, List, [], map, length, arith, ap, sym, subst, ◌∙◌}
use Rattle.std.specs.List.{flat_map}
use Rattle.rh_term.specs.declared.term.Term.{Term}
use Rattle.rh_meaning.specs.Literal.{TreeClause, TreeLit, clause_trees}
use Rattle.rh_meaning.specs.Tree.{Tree, Leaf}
use Rattle.rh_meaning.specs.View.{clauses_of, lit_of}
use Rattle.rh_oblig.specs.TermList.{closed, leaves_of, with_trees}
use Rattle.rh_oblig.proofs.Build.{with_trees_few}
use Rattle.rh_oblig.proofs.Room.{all_put, all_size, closed_room}
use Rattle.rh_oblig.proofs.term_list.term_list.Goals as goal

pub add_clauses-requires-clause-room : goal.add_clauses-requires-clause-room
add_clauses-requires-clause-room c =
    let leaves : List Tree = map Leaf (leaves_of c.args.params.now c.args.pattern) in
    let first : c.add_leaves.new.terms ≡ with_trees [] leaves = c.in_ok-add_leaves.ensures ∙ ap (λ (terms : List Term). with_trees terms leaves) c.new-terms.ensures in
    omega (
      arith,
      ap length first,
      with_trees_few [] leaves,
      all_size c.args.params.now c.args.pattern (clauses_of c.args.hypotheses.now) (lit_of c.args.goal.now),
      c.requires.room,
    )

pub add_lit-requires-clause-room : goal.add_lit-requires-clause-room
add_lit-requires-clause-room c =
    let leaves : List Tree = map Leaf (leaves_of c.args.params.now c.args.pattern) in
    let known : List Tree = flat_map clause_trees (clauses_of c.args.hypotheses.now) in
    let first : c.add_leaves.new.terms ≡ with_trees [] leaves = c.in_ok-add_leaves.ensures ∙ ap (λ (terms : List Term). with_trees terms leaves) c.new-terms.ensures in
    let second : c.add_clauses.new.terms ≡ with_trees c.add_leaves.new.terms known = c.in_ok-add_clauses.ensures in
    omega (
      arith,
      ap length first,
      ap length second,
      with_trees_few [] leaves,
      with_trees_few c.add_leaves.new.terms known,
      all_size c.args.params.now c.args.pattern (clauses_of c.args.hypotheses.now) (lit_of c.args.goal.now),
      c.requires.room,
    )

pub close-requires : goal.close-requires
close-requires c =
    let leaves : List Tree = map Leaf (leaves_of c.args.params.now c.args.pattern) in
    let known : List TreeClause = clauses_of c.args.hypotheses.now in
    let goal : TreeLit = lit_of c.args.goal.now in
    let first : c.add_leaves.new.terms ≡ with_trees [] leaves = c.in_ok-add_leaves.ensures ∙ ap (λ (terms : List Term). with_trees terms leaves) c.new-terms.ensures in
    subst (λ (terms : List Term). length (closed terms) + 2 < 2 ^ 32)
    (sym (all_put c.args.params.now c.args.pattern known goal c.add_leaves.new.terms c.add_clauses.new.terms c.add_lit.new.terms first c.in_ok-add_clauses.ensures c.in_ok-add_lit.ensures))
    (closed_room c.args.params.now c.args.pattern known goal c.requires.hypotheses c.requires.goal c.requires.room)
