-- Terms as trees, and how they stand in a list in which each term names its parts by their places.
use Rattle.std.specs.Prelude.{◌≡◌, ℕ, suc, ◌==◌, List, [], ◌∷◌, ◌++◌, if◌then◌else◌, length}
use Rattle.rh_il.specs.declared.value.Op.{Op}
use Rattle.rh_term.specs.declared.term.Term.{Term}
use Rattle.rh_term.specs.declared.term.Term.TheVariants.{Sel, Upd, Op as Computed, Kind, Una}
use Rattle.rh_term.specs.Place.{same_term}

-- a term with its parts: a leaf is a term without parts
pub data Tree : Type 0 where
  Leaf : Term → Tree
  Select : (store address : Tree) → Tree
  Update : (store address value : Tree) → Tree
  Compute : (op : Op) (left right : Tree) → Tree
  KindOf : (value : Tree) → Tree
  Unheld : (store value : Tree) → Tree

-- the place of a term in the list, or the place behind the list
abbrev pub place_of : List Term → Term → ℕ
place_of [] term = 0
place_of (listed ∷ terms) term = if same_term listed term then 0 else suc (place_of terms term)

-- the list, and the term behind it where it is not in it
abbrev pub with_term : List Term → Term → List Term
with_term terms term = if place_of terms term == length terms then terms ++ term ∷ [] else terms

-- the place of a tree in a list that has its parts
abbrev pub tree_place : List Term → Tree → ℕ
tree_place terms (Leaf term) = place_of terms term
tree_place terms (Select store address) = place_of terms (Sel (tree_place terms store) (tree_place terms address))
tree_place terms (Update store address value) =
    place_of terms (Upd (tree_place terms store) (tree_place terms address) (tree_place terms value))
tree_place terms (Compute op left right) = place_of terms (Computed op (tree_place terms left) (tree_place terms right))
tree_place terms (KindOf value) = place_of terms (Kind (tree_place terms value))
tree_place terms (Unheld store value) = place_of terms (Una (tree_place terms store) (tree_place terms value))

-- the list, and behind it what is not in it of a tree, each term after its parts from left to right
abbrev pub with_tree : List Term → Tree → List Term
with_tree terms (Leaf term) = with_term terms term
with_tree terms (Select store address) =
    let parts = with_tree (with_tree terms store) address in with_term parts (Sel (tree_place parts store) (tree_place parts address))
with_tree terms (Update store address value) =
    let parts = with_tree (with_tree (with_tree terms store) address) value in
    with_term parts (Upd (tree_place parts store) (tree_place parts address) (tree_place parts value))
with_tree terms (Compute op left right) =
    let parts = with_tree (with_tree terms left) right in with_term parts (Computed op (tree_place parts left) (tree_place parts right))
with_tree terms (KindOf value) = let parts = with_tree terms value in with_term parts (Kind (tree_place parts value))
with_tree terms (Unheld store value) =
    let parts = with_tree (with_tree terms store) value in with_term parts (Una (tree_place parts store) (tree_place parts value))

-- the new list is the old one with more behind it
pub record Extends (old new : List Term) : Type 0 where
  pub more : List Term
  pub is : new ≡ old ++ more
