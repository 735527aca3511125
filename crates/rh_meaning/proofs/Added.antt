-- Trees that were put into a list one after another.
use Rattle.std.proofs.Common.{ℕ, ◌≡◌, true, List, sym, subst, ◌∙◌, ap}
use Rattle.rh_term.specs.declared.term.Term.{Term}
use Rattle.rh_term.specs.Term.{is_value_at, is_store_at}
use Rattle.rh_meaning.specs.Sorts.{IsIn, is_value_tree, is_store_tree}
use Rattle.rh_meaning.specs.Tree.{Tree, tree_place, with_tree}
use Rattle.rh_meaning.proofs.Trees.{stays_in, with_tree_has}
use Rattle.rh_meaning.proofs.Sorted.{value_at_place, store_at_place}

pub last_in : (old new : List Term) (tree : Tree) → new ≡ with_tree old tree → IsIn new tree
last_in old new tree is = subst (λ (terms : List Term). IsIn terms tree) (sym is) (with_tree_has old tree).is_in

pub before_in : (old mid new : List Term) (a b : Tree) → mid ≡ with_tree old a → new ≡ with_tree mid b → IsIn new a
before_in old mid new a b first second =
    subst (λ (terms : List Term). IsIn terms a) (sym second) (stays_in mid (with_tree mid b) a (with_tree_has mid b).grown (last_in old mid a first))

pub first_in : (old one two new : List Term) (a b v : Tree) → one ≡ with_tree old a → two ≡ with_tree one b → new ≡ with_tree two v → IsIn new a
first_in old one two new a b v first second third =
    subst (λ (terms : List Term). IsIn terms a) (sym third) (stays_in two (with_tree two v) a (with_tree_has two v).grown (before_in old one two a b first second))

pub store_part : (terms : List Term) (tree : Tree) (place : ℕ) → place ≡ tree_place terms tree → IsIn terms tree → is_store_tree tree ≡ true → is_store_at terms place ≡ true
store_part terms tree place is is_in sorted = ap (is_store_at terms) is ∙ store_at_place terms tree is_in sorted

pub value_part : (terms : List Term) (tree : Tree) (place : ℕ) → place ≡ tree_place terms tree → IsIn terms tree → is_value_tree tree ≡ true → is_value_at terms place ≡ true
value_part terms tree place is is_in sorted = ap (is_value_at terms) is ∙ value_at_place terms tree is_in sorted
