-- Branches grow by the children of a node.
use Rattle.std.specs.Prelude.{◌≡◌, ℕ, List, ◌∷◌, ◌++◌, IsTrue, length}
use Rattle.std.specs.List.{All, AllZip, list_all}
use Rattle.rh_classes.specs.Merge.{IsMerge}
use Rattle.rh_term.specs.declared.clause.Lit.{Lit}
use Rattle.rh_term.specs.declared.clause.Clause.{Clause}
use Rattle.rh_term.specs.declared.term.Term.{Term}
use Rattle.rh_term.specs.Clause.{is_within}
use Rattle.rh_log.specs.declared.log.LogNode.{LogNode}
use Rattle.rh_log.specs.Tree.{LeadsTo}

-- each literal names two of n terms
abbrev pub AreWithin : ℕ → Clause → Type 0
AreWithin n clause = IsTrue (list_all (is_within n) clause.lits)

-- a child for each of the equations stands before the old branches
abbrev pub Grows : List Term → List ℕ → List Lit → List (List ℕ) → List (List ℕ) → Type 0
Grows terms labels equations old new =
    (children : List (List ℕ)) × AllZip (λ lit child. IsMerge terms labels lit.left lit.right child) equations children
    × (new ≡ children ++ old)

-- each branch has n places
abbrev pub AreLong : ℕ → List (List ℕ) → Type 0
AreLong n branches = All (λ labels. length labels ≡ n) branches

-- the node replaces the first branch by its children
pub record Follows (picks : List ℕ → ℕ → Type 0) (terms : List Term) (clauses : List Clause) (node : LogNode) (old new : List (List ℕ)) : Type 0 where
  pub labels : List ℕ
  pub rest : List (List ℕ)
  pub children : List (List ℕ)
  pub first : old ≡ labels ∷ rest
  pub leads : LeadsTo picks terms clauses labels node children
  pub replaced : new ≡ children ++ rest

-- the node leads nowhere from the first branch, or there is none
abbrev pub CannotFollow : (List ℕ → ℕ → Type 0) → List Term → List Clause → LogNode → List (List ℕ) → Type 0
CannotFollow picks terms clauses node old =
    (labels : List ℕ) (rest children : List (List ℕ)) → old ≡ labels ∷ rest → ¬ (LeadsTo picks terms clauses labels node children)
