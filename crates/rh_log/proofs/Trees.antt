-- Where a tree leads is determined by its nodes.
use Rattle.std.proofs.Common.{◌≡◌, ℕ, ◌<◌, ◌≤◌, List, [], ◌∷◌, ◌++◌, Some, length, slice_index, arith, refl, ap, sym, subst, ◌∙◌}
use Rattle.std.specs.List.{AllZip}
use Rattle.std.proofs.lemmas.Grind.{same_number_lists}
use Rattle.rh_classes.specs.Merge.{IsMerge, Refines}
use Rattle.rh_classes.proofs.Joining.{joined-equal, label_within, joined_label}
use Rattle.rh_term.specs.declared.clause.Lit.{Lit}
use Rattle.rh_term.specs.declared.clause.Clause.{Clause}
use Rattle.rh_term.specs.declared.term.Term.{Term}
use Rattle.rh_term.specs.Partition.{IsPartition}
use Rattle.rh_log.specs.declared.log.LogNode.{LogNode}
use Rattle.rh_log.specs.Tree.{LeadsTo, Expands, equations}
use Rattle.rh_log.specs.Branch.{Follows, CannotFollow}

-- a coarser partition has lesser labels
lesser : (n : ℕ) (fine coarse : List ℕ) → IsPartition n fine → IsPartition n coarse → Refines n fine coarse → (k : ℕ) → k < n
    → slice_index coarse k ≤ slice_index fine k
lesser n fine coarse part part' refines k h =
    let within : slice_index fine k < n = label_within n fine part k h in
    let e : slice_index coarse k ≡ slice_index coarse (slice_index fine k)
    = joined-equal coarse k (slice_index fine k) (refines k (slice_index fine k) h within (joined_label n fine part k h)) in
    omega (arith, e, part'.least (slice_index fine k) within)

pub same_partition : (n : ℕ) (a b : List ℕ) → IsPartition n a → IsPartition n b → Refines n a b → Refines n b a → a ≡ b
same_partition n a b part part' forth back =
    same_number_lists a b (part.as_long ∙ sym part'.as_long)
    (λ k h. let within : k < n = omega (arith, h, part.as_long) in
    omega (arith, lesser n a b part part' forth k within, lesser n b a part' part back k within))

-- a merge has one outcome
pub merge_unique : (terms : List Term) (old : List ℕ) (a b : ℕ) (x y : List ℕ) → IsMerge terms old a b x → IsMerge terms old a b y → x ≡ y
merge_unique terms old a b x y h k =
    same_partition (length terms) x y h.joining.partition k.joining.partition (h.least y k.joining) (k.least x h.joining)

children_unique : (terms : List Term) (labels : List ℕ) (lits : List Lit) (xs ys : List (List ℕ))
    → AllZip (λ lit child. IsMerge terms labels lit.left lit.right child) lits xs
    → AllZip (λ lit child. IsMerge terms labels lit.left lit.right child) lits ys → xs ≡ ys
children_unique terms labels [] [] [] h k = refl
children_unique terms labels [] [] (y ∷ ys) h k = absurd k
children_unique terms labels [] (x ∷ xs) ys h k = absurd h
children_unique terms labels (lit ∷ lits) [] ys h k = absurd h
children_unique terms labels (lit ∷ lits) (x ∷ xs) [] h k = absurd k
children_unique terms labels (lit ∷ lits) (x ∷ xs) (y ∷ ys) h k =
    let e : x ≡ y = merge_unique terms labels lit.left lit.right x y h.0 k.0 in
    let f : xs ≡ ys = children_unique terms labels lits xs ys h.1 k.1 in
    cc

module _ (picks : List ℕ → ℕ → Type 0) (terms : List Term) (clauses : List Clause) where
  pub leads_unique : (labels : List ℕ) (node : LogNode) (xs ys : List (List ℕ))
      → LeadsTo picks terms clauses labels node xs → LeadsTo picks terms clauses labels node ys → xs ≡ ys
  leads_unique labels node xs ys h k =
      let same : h.clause ≡ k.clause = let e : Some h.clause ≡ Some k.clause = sym h.clause_at ∙ k.clause_at in cc in
      children_unique terms labels (equations k.clause) xs ys
      (subst (λ clause. AllZip (λ lit child. IsMerge terms labels lit.left lit.right child) (equations clause) xs) same h.merged) k.merged

  -- one node on
  pub forward : (old new : List (List ℕ)) (node : LogNode) (nodes : List LogNode) (left : List (List ℕ))
      → Follows picks terms clauses node old new → Expands picks terms clauses old (node ∷ nodes) left → Expands picks terms clauses new nodes left
  forward old new node nodes left step h =
      let g : Expands picks terms clauses (step.labels ∷ step.rest) (node ∷ nodes) left
      = subst (λ branches. Expands picks terms clauses branches (node ∷ nodes) left) step.first h in
      let same : g.0 ++ step.rest ≡ new
      = ap (λ children. children ++ step.rest) (leads_unique step.labels node g.0 step.children g.1 step.leads) ∙ sym step.replaced in
      subst (λ branches. Expands picks terms clauses branches nodes left) same g.2

  pub backward : (old new : List (List ℕ)) (node : LogNode) (nodes : List LogNode) (left : List (List ℕ))
      → Follows picks terms clauses node old new → Expands picks terms clauses new nodes left → Expands picks terms clauses old (node ∷ nodes) left
  backward old new node nodes left step h =
      subst (λ branches. Expands picks terms clauses branches (node ∷ nodes) left) (sym step.first)
      (step.children, step.leads, subst (λ branches. Expands picks terms clauses branches nodes left) step.replaced h)

  pub stuck : (old : List (List ℕ)) (node : LogNode) (nodes : List LogNode) (left : List (List ℕ))
      → CannotFollow picks terms clauses node old → ¬ (Expands picks terms clauses old (node ∷ nodes) left)
  stuck [] node nodes left none h = h
  stuck (labels ∷ rest) node nodes left none h = none labels rest h.0 refl h.1
