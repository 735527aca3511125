-- A checker that follows a log node by node.
use Rattle.std.proofs.Common.{◌≡◌, ℕ, ◌<◌, ◌≤◌, ◌+◌, ◌↔◌, List, [], ◌∷◌, ◌++◌, length, get_or, drop, sym, subst}
use Rattle.std.specs.List.{AllZip}
use Rattle.std.proofs.lemmas.List.{drop_more, drop_all}
use Rattle.std.proofs.lemmas.List.Elements.{All-same, All-append, All-tail, All-cons, All-nil}
use Rattle.std.proofs.lemmas.List.FromFn.{length-range_with_len}
use Rattle.rh_classes.specs.Merge.{IsMerge}
use Rattle.rh_term.specs.declared.clause.Lit.{Lit}
use Rattle.rh_term.specs.declared.clause.Clause.{Clause}
use Rattle.rh_term.specs.declared.term.Term.{Term}
use Rattle.rh_log.specs.declared.log.LogNode.{LogNode}
use Rattle.rh_log.specs.Tree.{Expands, IsFalseAt, IsClosedTree, root}
use Rattle.rh_log.specs.Branch.{AreLong, Follows, CannotFollow}
use Rattle.rh_log.proofs.Trees.{forward, backward, stuck}

merges_long : (terms : List Term) (labels : List ℕ) (lits : List Lit) (children : List (List ℕ))
    → AllZip (λ lit child. IsMerge terms labels lit.left lit.right child) lits children → AreLong (length terms) children
merges_long terms labels [] [] h = All-nil (λ child. length child ≡ length terms)
merges_long terms labels [] (child ∷ children) h = absurd h
merges_long terms labels (lit ∷ lits) [] h = absurd h
merges_long terms labels (lit ∷ lits) (child ∷ children) h =
    All-cons (λ child. length child ≡ length terms) child children h.0.joining.partition.as_long (merges_long terms labels lits children h.1)

-- the branches after a step are as long as the terms
pub still_long : (picks : List ℕ → ℕ → Type 0) (terms : List Term) (clauses : List Clause) (node : LogNode) (old new : List (List ℕ))
    → Follows picks terms clauses node old new → AreLong (length terms) old → AreLong (length terms) new
still_long picks terms clauses node old new step long =
    let Long : List ℕ → Type 0 = λ labels. length labels ≡ length terms in
    All-same Long new (step.children ++ step.rest) step.replaced
    (All-append Long step.children step.rest (merges_long terms step.labels _ step.children step.leads.merged)
    (All-tail Long step.labels step.rest (All-same Long (step.labels ∷ step.rest) old (sym step.first) long)))

pub root_long : (terms : List Term) (branches : List (List ℕ)) → branches ≡ root terms → AreLong (length terms) branches
root_long terms branches e =
    let Long : List ℕ → Type 0 = λ labels. length labels ≡ length terms in
    All-same Long branches (root terms) e (All-cons Long _ [] (length-range_with_len 0 (length terms)) (All-nil Long))

-- the first nodes were followed from the root to the branches
pub record HasFollowed (terms : List Term) (clauses : List Clause) (nodes : List LogNode) (at : ℕ) (branches : List (List ℕ)) : Type 0 where
  pub long : AreLong (length terms) branches
  pub forth : (left : List (List ℕ)) → Expands (IsFalseAt clauses) terms clauses (root terms) nodes left
      → Expands (IsFalseAt clauses) terms clauses branches (drop at nodes) left
  pub back : (left : List (List ℕ)) → Expands (IsFalseAt clauses) terms clauses branches (drop at nodes) left
      → Expands (IsFalseAt clauses) terms clauses (root terms) nodes left

module _ (terms : List Term) (clauses : List Clause) (nodes : List LogNode) where
  pub begun : (branches : List (List ℕ)) → branches ≡ root terms → HasFollowed terms clauses nodes 0 branches
  begun branches e = record {
    long = root_long terms branches e;
    forth = λ left h. subst (λ b. Expands (IsFalseAt clauses) terms clauses b nodes left) (sym e) h;
    back = λ left h. subst (λ b. Expands (IsFalseAt clauses) terms clauses b nodes left) e h;
  }

  module _ (at : ℕ) (d : LogNode) (in_nodes : at < length nodes) (old : List (List ℕ)) (so_far : HasFollowed terms clauses nodes at old) where
    next : drop at nodes ≡ get_or nodes at d ∷ drop (at + 1) nodes
    next = drop_more nodes at d in_nodes

    pub gone_on : (new : List (List ℕ)) → Follows (IsFalseAt clauses) terms clauses (get_or nodes at d) old new → HasFollowed terms clauses nodes (at + 1) new
    gone_on new step = record {
      long = still_long (IsFalseAt clauses) terms clauses (get_or nodes at d) old new step so_far.long;
      forth = λ left h. forward (IsFalseAt clauses) terms clauses old new (get_or nodes at d) (drop (at + 1) nodes) left step
          (subst (λ rest. Expands (IsFalseAt clauses) terms clauses old rest left) next (so_far.forth left h));
      back = λ left h. so_far.back left
          (subst (λ rest. Expands (IsFalseAt clauses) terms clauses old rest left) (sym next)
          (backward (IsFalseAt clauses) terms clauses old new (get_or nodes at d) (drop (at + 1) nodes) left step h));
    }

    pub stuck_at : CannotFollow (IsFalseAt clauses) terms clauses (get_or nodes at d) old → ¬ (IsClosedTree terms clauses nodes)
    stuck_at none closed =
        stuck (IsFalseAt clauses) terms clauses old (get_or nodes at d) (drop (at + 1) nodes) [] none
        (subst (λ rest. Expands (IsFalseAt clauses) terms clauses old rest []) next (so_far.forth [] closed))

  pub ended : (at : ℕ) (branches : List (List ℕ)) → length nodes ≤ at → HasFollowed terms clauses nodes at branches
      → (branches ≡ [] ↔ IsClosedTree terms clauses nodes)
  ended at branches all so_far =
      let none : drop at nodes ≡ [] = drop_all at nodes all in (
        (λ e. so_far.back [] (subst (λ rest. Expands (IsFalseAt clauses) terms clauses branches rest []) (sym none) e)),
        (λ closed. subst (λ rest. Expands (IsFalseAt clauses) terms clauses branches rest []) none (so_far.forth [] closed)),
      )
