-- Trees of the right sorts, and trees that stand in a list.
use Rattle.std.specs.Prelude.{ℕ, ◌+◌, ◌<◌, Bool, true, false, IsTrue, List, [], length}
use Rattle.rh_term.specs.declared.term.Term.{Term}
use Rattle.rh_term.specs.Term.{is_value_term, is_store_term, HasNumber, HasParts}
use Rattle.rh_meaning.specs.Tree.{Tree, Leaf, Select, Update, Compute, KindOf, Unheld, place_of, tree_place}

abbrev pub is_value_tree : Tree → Bool
is_value_tree (Leaf term) = is_value_term term
is_value_tree (Select store address) = true
is_value_tree (Compute op left right) = true
is_value_tree _ = false

abbrev pub is_store_tree : Tree → Bool
is_store_tree (Leaf term) = is_store_term term
is_store_tree (Update store address value) = true
is_store_tree _ = false

abbrev pub is_leaf : Tree → Bool
is_leaf (Leaf term) = true
is_leaf _ = false

-- leaves have no parts, and their numbers are of 64 bits; parts are stores and values where they have to
-- be, and no update is over another
abbrev pub IsSorted : Tree → Type 0
IsSorted (Leaf term) = HasParts [] term × HasNumber term
IsSorted (Select store address) = IsSorted store × IsSorted address × IsTrue (is_store_tree store) × IsTrue (is_value_tree address)
IsSorted (Update store address value) =
    IsSorted store × IsSorted address × IsSorted value × IsTrue (is_store_tree store) × IsTrue (is_value_tree address) × IsTrue (is_value_tree value) × IsTrue (is_leaf store)
IsSorted (Compute op left right) = IsSorted left × IsSorted right × IsTrue (is_value_tree left) × IsTrue (is_value_tree right)
IsSorted (KindOf value) = IsSorted value × IsTrue (is_value_tree value)
IsSorted (Unheld store value) = IsSorted store × IsSorted value × IsTrue (is_store_tree store) × IsTrue (is_value_tree value)

-- how many terms a tree has at most: its own, and those of its parts
abbrev pub tree_size : Tree → ℕ
tree_size (Leaf term) = 1
tree_size (Select store address) = tree_size store + tree_size address + 1
tree_size (Update store address value) = tree_size store + tree_size address + tree_size value + 1
tree_size (Compute op left right) = tree_size left + tree_size right + 1
tree_size (KindOf value) = tree_size value + 1
tree_size (Unheld store value) = tree_size store + tree_size value + 1

-- the tree and its parts stand in the list
abbrev pub IsIn : List Term → Tree → Type 0
IsIn terms (Leaf term) = place_of terms term < length terms
IsIn terms (Select store address) = IsIn terms store × IsIn terms address × (tree_place terms (Select store address) < length terms)
IsIn terms (Update store address value) =
    IsIn terms store × IsIn terms address × IsIn terms value × (tree_place terms (Update store address value) < length terms)
IsIn terms (Compute op left right) = IsIn terms left × IsIn terms right × (tree_place terms (Compute op left right) < length terms)
IsIn terms (KindOf value) = IsIn terms value × (tree_place terms (KindOf value) < length terms)
IsIn terms (Unheld store value) = IsIn terms store × IsIn terms value × (tree_place terms (Unheld store value) < length terms)
