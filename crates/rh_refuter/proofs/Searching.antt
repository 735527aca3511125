-- What holds of the branches of a search.
use Rattle.std.proofs.Common.{◌≡◌, ℕ, suc, ◌<◌, ◌≤◌, Bool, true, false, List, [], ◌∷◌, ◌++◌, Some, length, slice_get, slice_index, arith, refl, ap, sym, subst, ◌∙◌, rules, Fits, w32, ◌^◌}
use Rattle.std.specs.Prelude.{not, ◌==◌}
use Rattle.std.specs.List.{AllZip, AllByRecursion, filter, list_all}
use Rattle.std.specs.Option.{option_map_or}
use Rattle.std.proofs.lemmas.Bool.{eqb-true, eq-eqb, and_from, not_from_false, true_from_ne_false, cond_both}
use Rattle.rh_classes.specs.Merge.{IsMerge, alone}
use Rattle.rh_classes.proofs.Alone.{alone_partition, at_alone}
use Rattle.rh_classes.proofs.Joining.{joined-equal, equal-joined}
use Rattle.rh_term.specs.declared.clause.Lit.{Lit}
use Rattle.rh_term.specs.declared.clause.Clause.{Clause}
use Rattle.rh_term.specs.declared.term.Term.{Term}
use Rattle.rh_term.specs.Clause.{is_true_clause, are_true, are_within}
use Rattle.rh_term.specs.Partition.{IsPartition, IsCongruent, IsOpen, joined, Congruent, alone as same_term, sel, upd, op, kind, una}
use Rattle.rh_term.specs.Term.{IsTermList}
use Rattle.rh_term.proofs.Congruence.{congruent_in}
use Rattle.rh_log.specs.declared.log.LogNode.{LogNode}
use Rattle.rh_log.specs.Tree.{LeadsTo, Expands, IsFalseAt, root, equations, width}
use Rattle.rh_refuter.specs.Choice.{IsChosen, HasNoFalse, Goes, Steps}
use Rattle.rh_refuter.proofs.Weight.{weight, most_equations, falls}

-- a branch of a search is a congruent partition
pub record IsBranch (terms : List Term) (labels : List ℕ) : Type 0 where
  pub partition : IsPartition (length terms) labels
  pub congruent : IsCongruent terms (joined labels)

abbrev pub AreBranches : List Term → List (List ℕ) → Type 0
AreBranches terms branches = AllByRecursion (IsBranch terms) branches

-- ---- the root

equal_parts : {t u : Term} → Congruent (λ p q. p == q) t u → t ≡ u
equal_parts same_term = refl
equal_parts (sel {s} {s'} {a} {a'} p q) = let e : s ≡ s' = eqb-true s s' p in let f : a ≡ a' = eqb-true a a' q in cc
equal_parts (upd {s} {s'} {a} {a'} {v} {v'} p q r) = let e : s ≡ s' = eqb-true s s' p in let f : a ≡ a' = eqb-true a a' q in let g : v ≡ v' = eqb-true v v' r in cc
equal_parts (op {o} {t} {t'} {u} {u'} p q) = let e : t ≡ t' = eqb-true t t' p in let f : u ≡ u' = eqb-true u u' q in cc
equal_parts (kind {t} {t'} p) = let e : t ≡ t' = eqb-true t t' p in cc
equal_parts (una {s} {s'} {a} {a'} p q) = let e : s ≡ s' = eqb-true s s' p in let f : a ≡ a' = eqb-true a a' q in cc

pub root_branch : (terms : List Term) → IsTermList terms → IsBranch terms (alone (length terms))
root_branch terms list = record {
  partition = alone_partition (length terms);
  congruent = λ i j t u at at' h.
      let n = length terms in
      let equal : t ≡ u
      = equal_parts (congruent_in terms list (joined (alone n)) (λ p q. p == q)
      (λ p q in_p in_q e. eq-eqb p q (sym (at_alone n p in_p) ∙ joined-equal (alone n) p q e ∙ at_alone n q in_q)) i j t u at at' h) in
      let places : i ≡ j = list.different i j u (at ∙ ap Some equal) at' in
      equal-joined (alone n) i j (ap (slice_index (alone n)) places);
}

-- ---- children

merged_branches : (terms : List Term) (labels : List ℕ) (lits : List Lit) (children : List (List ℕ))
    → AllZip (λ lit child. IsMerge terms labels lit.left lit.right child) lits children → AreBranches terms children
merged_branches terms labels [] [] h = tt
merged_branches terms labels [] (child ∷ children) h = absurd h
merged_branches terms labels (lit ∷ lits) [] h = absurd h
merged_branches terms labels (lit ∷ lits) (child ∷ children) h =
    (record { partition = h.0.joining.partition; congruent = h.0.joining.congruent }, merged_branches terms labels lits children h.1)

both_branches : (terms : List Term) (front behind : List (List ℕ)) → AreBranches terms front → AreBranches terms behind → AreBranches terms (front ++ behind)
both_branches terms [] behind h k = k
both_branches terms (labels ∷ front) behind h k = (h.0, both_branches terms front behind h.1 k)

pub children_branches : (terms : List Term) (labels : List ℕ) (lits : List Lit) (children rest : List (List ℕ))
    → AllZip (λ lit child. IsMerge terms labels lit.left lit.right child) lits children → AreBranches terms rest → AreBranches terms (children ++ rest)
children_branches terms labels lits children rest merged h = both_branches terms children rest (merged_branches terms labels lits children merged) h

-- ---- nodes

module _ (picks : List ℕ → ℕ → Type 0) (terms : List Term) (clauses : List Clause) where
  -- a node more
  pub one_more : (nodes : List LogNode) (branches : List (List ℕ)) (labels : List ℕ) (rest children : List (List ℕ)) (node : LogNode)
      → Expands picks terms clauses branches nodes (labels ∷ rest) → LeadsTo picks terms clauses labels node children
      → Expands picks terms clauses branches (nodes ++ node ∷ []) (children ++ rest)
  one_more [] branches labels rest children node h leads =
      subst (λ b. Expands picks terms clauses b (node ∷ []) (children ++ rest)) (sym h) (children, leads, refl)
  one_more (first ∷ nodes) [] labels rest children node h leads = h
  one_more (first ∷ nodes) (branch ∷ branches) labels rest children node h leads =
      (h.0, h.1, one_more nodes (h.0 ++ branches) labels rest children node h.2 leads)

-- what is chosen is false
pub chosen_false : (terms : List Term) (clauses : List Clause) (nodes : List LogNode) (branches left : List (List ℕ))
    → Expands (IsChosen clauses) terms clauses branches nodes left → Expands (IsFalseAt clauses) terms clauses branches nodes left
chosen_false terms clauses [] branches left h = h
chosen_false terms clauses (node ∷ nodes) [] left h = h
chosen_false terms clauses (node ∷ nodes) (labels ∷ branches) left h = (
  h.0,
  record { clause = h.1.clause; clause_at = h.1.clause_at; picked = h.1.picked.is_false; counted = h.1.counted; merged = h.1.merged },
  chosen_false terms clauses nodes (h.0 ++ branches) left h.2,
)

-- ---- the end

holds_throughout : (test : Clause → Bool) (clauses : List Clause) → ((number : ℕ) (clause : Clause) → slice_get clauses number ≡ Some clause → test clause ≡ true)
    → list_all test clauses ≡ true
holds_throughout test [] h = refl
holds_throughout test (clause ∷ clauses) h = and_from (test clause) (list_all test clauses) (h 0 clause refl) (holds_throughout test clauses (λ number c e. h (suc number) c e))

pub none_false : (clauses : List Clause) (labels : List ℕ) → HasNoFalse clauses labels → are_true (joined labels) clauses ≡ true
none_false clauses labels none =
    holds_throughout (is_true_clause (joined labels)) clauses
    (λ number clause e. true_from_ne_false (is_true_clause (joined labels) clause) (λ f.
    none number (ap (λ found. option_map_or (λ c. not (is_true_clause (joined labels) c)) found false) e ∙ not_from_false (is_true_clause (joined labels) clause) f)))

pub found_open : (terms : List Term) (clauses : List Clause) (labels : List ℕ) → IsBranch terms labels → HasNoFalse clauses labels → IsOpen terms clauses labels
found_open terms clauses labels branch none = record {
  partition = branch.partition;
  congruent = branch.congruent;
  all_true = none_false clauses labels none;
}

-- ---- one node on

module _ (terms : List Term) (clauses : List Clause) (labels : List ℕ) (rest : List (List ℕ)) (node : LogNode) (new : List (List ℕ)) (steps : Steps terms clauses labels node rest new) where
  pub steps_branches : AreBranches terms rest → AreBranches terms new
  steps_branches h = subst (AreBranches terms) (sym steps.2) (children_branches terms labels (equations steps.1.clause) steps.0 rest steps.1.merged h)

  pub steps_goes : (nodes : List LogNode) → Goes terms clauses nodes (labels ∷ rest) → Goes terms clauses (nodes ++ node ∷ []) new
  steps_goes nodes h =
      subst (Goes terms clauses (nodes ++ node ∷ [])) (sym steps.2)
      (one_more (IsChosen clauses) terms clauses nodes (root terms) labels rest steps.0 node h steps.1)

  pub steps_falls : IsPartition (length terms) labels → are_within (length terms) clauses ≡ true
      → weight (most_equations clauses) (length terms) new < weight (most_equations clauses) (length terms) (labels ∷ rest)
  steps_falls partition within =
      subst (λ branches. weight (most_equations clauses) (length terms) branches < weight (most_equations clauses) (length terms) (labels ∷ rest)) (sym steps.2)
      (falls terms clauses labels rest steps.0 node.clause steps.1.clause partition within steps.1.clause_at steps.1.picked.is_false steps.1.merged)

length-filter-le : (lits : List Lit) → length (filter (λ lit. lit.equal) lits) ≤ length lits
length-filter-le [] = omega arith
length-filter-le (lit ∷ lits) =
    cond_both lit.equal (lit ∷ filter (λ lit. lit.equal) lits) (filter (λ lit. lit.equal) lits) (λ kept. length kept ≤ suc (length lits))
    (λ e. omega (arith, length-filter-le lits)) (λ e. omega (arith, length-filter-le lits))

pub width_fits : (clause : Clause) → length clause.lits < 2 ^ 32 → Fits w32 (width clause)
width_fits clause narrow = let small : width clause < 2 ^ 32 = omega (arith, length-filter-le clause.lits, narrow) in search rules
