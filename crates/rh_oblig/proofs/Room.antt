-- The terms of an obligation, and those to which they lead, have room in a list.
use Rattle.std.proofs.Common.{◌≡◌, ◌<◌, ◌+◌, ◌*◌, ◌^◌, List, [], ◌++◌, map, length, ap, sym, arith, ◌∙◌}
use Rattle.std.specs.List.{AllByRecursion, flat_map}
use Rattle.std.proofs.lemmas.List.Sums.{sum_by-append}
use Rattle.rh_rule.specs.declared.rule.Form.{Form}
use Rattle.rh_rule.specs.declared.schema.Param.{Param}
use Rattle.rh_term.specs.declared.term.Term.{Term}
use Rattle.rh_meaning.specs.Literal.{TreeLit, TreeClause, clause_trees, literal_trees}
use Rattle.rh_meaning.specs.Sorts.{IsSorted, tree_size}
use Rattle.rh_meaning.specs.Tree.{Tree, Leaf}
use Rattle.rh_goals.specs.Few.{trees_size}
use Rattle.rh_oblig.specs.TermList.{closed, first_trees, leaves_of, with_trees}
use Rattle.rh_oblig.proofs.Build.{with_trees_both, with_trees_few}
use Rattle.rh_oblig.proofs.Kept.{kept_trees, none_kept}
use Rattle.rh_oblig.proofs.Leaves.{trees_sorted}
use Rattle.rh_oblig.proofs.Walked.{IsWalked, closed_walked}

module _ (params : List Param) (pattern : Form) (hypotheses : List TreeClause) (goal : TreeLit) where
  abbrev leaves : List Tree
  leaves = map Leaf (leaves_of params pattern)

  abbrev known : List Tree
  known = flat_map clause_trees hypotheses

  abbrev all : List Tree
  all = first_trees params pattern hypotheses goal

  pub all_size : trees_size all ≡ trees_size leaves + trees_size known + trees_size (literal_trees goal)
  all_size = omega (arith, sum_by-append tree_size (leaves ++ known) (literal_trees goal), sum_by-append tree_size leaves known)

  -- the leaves are put into a list first, then the other trees
  pub all_put : (first second third : List Term) → first ≡ with_trees [] leaves → second ≡ with_trees first known → third ≡ with_trees second (literal_trees goal) → third ≡ with_trees [] all
  all_put first second third one two three =
      three
      ∙ ap (λ terms. with_trees terms (literal_trees goal)) (two ∙ ap (λ terms. with_trees terms known) one ∙ sym (with_trees_both [] leaves known))
      ∙ sym (with_trees_both [] (leaves ++ known) (literal_trees goal))

  pub closed_room : AllByRecursion IsSorted known → AllByRecursion IsSorted (literal_trees goal) → trees_size all < 2 ^ 29 → length (closed (with_trees [] all)) + 2 < 2 ^ 32
  closed_room sorted denied few =
      let walked : IsWalked (closed (with_trees [] all)) (4 * length (with_trees [] all)) =
      closed_walked (with_trees [] all) (kept_trees [] all none_kept (trees_sorted params pattern hypotheses goal sorted denied)) in
      omega (arith, walked.few, with_trees_few [] all, few)
