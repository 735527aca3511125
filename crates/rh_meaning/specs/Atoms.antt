-- The literals of a fact over a store of a list of terms: which trees they are over, and how these are put into the list.
use Rattle.std.specs.Prelude.{◌≡◌, ℕ, zero, suc, IsTrue, List, map, fold, slice_index_or}
use Rattle.std.specs.List.{flat_map}
use Rattle.rh_rule.specs.declared.rule.RuleBase.{RuleBase}
use Rattle.rh_rule.specs.declared.rule.RuleBase.TheVariants.{Meta, Num as ANumber, Wild}
use Rattle.rh_rule.specs.declared.schema.Kind.{Kind}
use Rattle.rh_rule.specs.declared.schema.Param.{Param}
use Rattle.rh_rule.specs.declared.schema.Schema.{Schema}
use Rattle.rh_rule.specs.Kinds.{args_fit}
use Rattle.rh_term.specs.declared.clause.Lit.{Lit}
use Rattle.rh_term.specs.declared.term.Term.{Term}
use Rattle.rh_term.specs.declared.term.Term.TheVariants.{Num, Any, Sel, Upd, Op as Computed, Kind as KindTerm, Una, Yes}
use Rattle.rh_meaning.specs.Literal.{TreeLit, literal_trees, value_tree}
use Rattle.rh_meaning.specs.Meaning.{schema_literals}
use Rattle.rh_meaning.specs.Placed.{lit_in}
use Rattle.rh_meaning.specs.Sorts.{IsIn}
use Rattle.rh_meaning.specs.Tree.{Tree, Leaf, Select, Update, Compute, KindOf, Unheld, tree_place, with_tree}

-- the tree of a term, given the trees at the places of its parts
abbrev pub tree_of_term : (ℕ → Tree) → Term → Tree
tree_of_term part (Sel store address) = Select (part store) (part address)
tree_of_term part (Upd store address value) = Update (part store) (part address) (part value)
tree_of_term part (Computed op left right) = Compute op (part left) (part right)
tree_of_term part (KindTerm value) = KindOf (part value)
tree_of_term part (Una store value) = Unheld (part store) (part value)
tree_of_term part term = Leaf term

-- the tree at a place of a list, down to so many terms below one another
abbrev pub tree_within : List Term → ℕ → ℕ → Tree
tree_within terms zero place = Leaf Yes
tree_within terms (suc depth) place = tree_of_term (tree_within terms depth) (slice_index_or terms place Yes)

-- the tree that stands at a place of a list of terms. Parts stand before what they are parts of, so no more terms than
-- the place says are below it
abbrev pub tree_at : List Term → ℕ → Tree
tree_at terms place = tree_within terms (suc place) place

-- the tree stands in the list, at the place
pub record StandsAt (terms : List Term) (place : ℕ) (tree : Tree) : Type 0 where
  pub is_in : IsIn terms tree
  pub here : place ≡ tree_place terms tree

-- the tree was put into a list, and stands at the place
pub record IsPut (old new : List Term) (tree : Tree) (place : ℕ) : Type 0 where
  pub is : new ≡ with_tree old tree
  pub here : place ≡ tree_place new tree

-- the trees of a literal were put into a list, the left one first, and the literal over the list names their places
pub record IsLitPut (old new : List Term) (lit : TreeLit) (placed : Lit) : Type 0 where
  pub is : new ≡ with_tree (with_tree old lit.left) lit.right
  pub names : placed ≡ lit_in new lit

-- the trees of literals were put into a list one after another, and the literals over the list name their places
pub record ArePut (old new : List Term) (lits : List TreeLit) (placed : List Lit) : Type 0 where
  pub is : new ≡ fold with_tree old (flat_map literal_trees lits)
  pub names : placed ≡ map (lit_in new) lits

-- the value of an argument for a parameter of a kind, over a store
abbrev pub arg_tree : Kind → Tree → RuleBase → Tree
arg_tree kind store (Meta meta) = value_tree store meta kind
arg_tree kind store (ANumber number) = Leaf (Num number)
arg_tree kind store Wild = Leaf Any

-- the property holds for the tree at the place of the store
abbrev pub ForTree : List Term → ℕ → (Tree → Type 0) → Type 0
ForTree terms store property = (tree : Tree) → StandsAt terms store tree → property tree

-- and for all metavariables that the arguments fit
abbrev pub ForStore : List Param → List RuleBase → List Term → ℕ → (List Param → Tree → Type 0) → Type 0
ForStore places args terms store property =
    (params : List Param) → IsTrue (args_fit params places args) → ForTree terms store (property params)

-- the literals of a schema's atoms over the store at a place of the old list were put into it, for all metavariables
-- that the arguments fit
abbrev pub IsFactPut : Schema → List RuleBase → ℕ → List Term → List Term → List Lit → Type 0
IsFactPut schema args store old new placed =
    (params : List Param) → IsTrue (args_fit params schema.params args) → ArePut old new (schema_literals params args (tree_at old store) schema) placed
