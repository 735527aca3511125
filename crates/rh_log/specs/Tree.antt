-- Closed trees.
use Rattle.std.specs.Prelude.{◌≡◌, ℕ, Bool, false, not, List, [], ◌∷◌, ◌++◌, Some, IsTrue, length, slice_get}
use Rattle.std.specs.List.{filter, AllZip}
use Rattle.std.specs.Option.{option_map_or}
use Rattle.rh_classes.specs.Merge.{alone, IsMerge}
use Rattle.rh_term.specs.declared.clause.Lit.{Lit}
use Rattle.rh_term.specs.declared.clause.Clause.{Clause}
use Rattle.rh_term.specs.declared.term.Term.{Term}
use Rattle.rh_term.specs.Clause.{is_true_clause}
use Rattle.rh_term.specs.Partition.{joined}
use Rattle.rh_log.specs.declared.log.LogNode.{LogNode}

-- the equations of a clause, in order
abbrev pub equations : Clause → List Lit
equations clause = filter (λ lit. lit.equal) clause.lits

abbrev pub width : Clause → ℕ
width clause = length (equations clause)

-- the clause with this number is false in the partition
abbrev pub is_false_at : List Clause → List ℕ → ℕ → Bool
is_false_at clauses labels number =
    option_map_or (λ clause. not (is_true_clause (joined labels) clause)) (slice_get clauses number) false

abbrev pub IsFalseAt : List Clause → List ℕ → ℕ → Type 0
IsFalseAt clauses labels number = IsTrue (is_false_at clauses labels number)

-- a node leads from a partition to the children: it has a clause that may be picked there, and a child
-- for each equation of the clause, in order, in which the two terms are merged
pub record LeadsTo (picks : List ℕ → ℕ → Type 0) (terms : List Term) (clauses : List Clause) (labels : List ℕ) (node : LogNode) (children : List (List ℕ)) : Type 0 where
  pub clause : Clause
  pub clause_at : slice_get clauses node.clause ≡ Some clause
  pub picked : picks labels node.clause
  pub counted : node.children ≡ width clause
  pub merged : AllZip (λ lit child. IsMerge terms labels lit.left lit.right child) (equations clause) children

-- nodes expand the branches, which are partitions, to those that are left: each node replaces the first
-- branch by its children, so that it comes with all below it before the next
abbrev pub Expands : (List ℕ → ℕ → Type 0) → List Term → List Clause → List (List ℕ) → List LogNode → List (List ℕ) → Type 0
Expands picks terms clauses branches [] left = branches ≡ left
Expands picks terms clauses [] (node ∷ nodes) left = ⊥
Expands picks terms clauses (labels ∷ branches) (node ∷ nodes) left =
    (children : List (List ℕ)) × LeadsTo picks terms clauses labels node children
    × Expands picks terms clauses (children ++ branches) nodes left

-- the root: one branch, in which each term is alone
abbrev pub root : List Term → List (List ℕ)
root terms = alone (length terms) ∷ []

-- the nodes are those of a tree, each with all below it before the next, in which each node's clause is
-- false in its partition
abbrev pub IsClosedTree : List Term → List Clause → List LogNode → Type 0
IsClosedTree terms clauses nodes = Expands (IsFalseAt clauses) terms clauses (root terms) nodes []
