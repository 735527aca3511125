-- Where a tree is closed, no partition is open.
use Rattle.std.proofs.Common.{◌≡◌, ℕ, zero, suc, Bool, true, false, List, [], ◌∷◌, ◌++◌, Some, length, slice_get, sym, subst, ◌∙◌, ◌⊎◌, inl, inr}
use Rattle.std.specs.Prelude.{not, nat_lt}
use Rattle.std.specs.List.{AllZip, filter, list_any, list_all}
use Rattle.std.specs.Option.{option_map_or}
use Rattle.std.proofs.lemmas.Bool.{cases_Bool, and_parts, or_parts, or_cases, both_ways, cond-true, cond-false, not-true, not-false, ltb-true}
use Rattle.rh_classes.specs.Merge.{IsMerge, Refines}
use Rattle.rh_classes.proofs.Alone.{alone_least}
use Rattle.rh_term.specs.declared.clause.Lit.{Lit}
use Rattle.rh_term.specs.declared.clause.Clause.{Clause}
use Rattle.rh_term.specs.declared.term.Term.{Term}
use Rattle.rh_term.specs.Clause.{Sameness, is_true_lit, is_true_clause, is_within, are_within}
use Rattle.rh_term.specs.Partition.{IsOpen, joined, HasNoOpenPartition}
use Rattle.rh_log.specs.declared.log.LogNode.{LogNode}
use Rattle.rh_log.specs.Tree.{LeadsTo, Expands, IsFalseAt, IsClosedTree, root}

-- the clause at a place of a list, of which a test holds throughout
pub clause_passes : (test : Clause → Bool) (clauses : List Clause) (place : ℕ) (clause : Clause) → slice_get clauses place ≡ Some clause
    → list_all test clauses ≡ true → test clause ≡ true
clause_passes test [] place clause e h = cc
clause_passes test (x ∷ xs) zero clause e h = let same : x ≡ clause = cc in subst (λ y. test y ≡ true) same (and_parts (test x) (list_all test xs) h).0
clause_passes test (x ∷ xs) (suc place) clause e h = clause_passes test xs place clause e (and_parts (test x) (list_all test xs) h).1

-- an equation is true where its terms are one, and an inequation where they are not
pub equation_true : (same : Sameness) (lit : Lit) → lit.equal ≡ true → is_true_lit same lit ≡ same lit.left lit.right
equation_true same lit e = cond-true lit.equal (same lit.left lit.right) (not (same lit.left lit.right)) e

inequation_true : (same : Sameness) (lit : Lit) → lit.equal ≡ false → is_true_lit same lit ≡ not (same lit.left lit.right)
inequation_true same lit e = cond-false lit.equal (same lit.left lit.right) (not (same lit.left lit.right)) e

module _ (terms : List Term) (clauses : List Clause) (open' : List ℕ) (is_open : IsOpen terms clauses open') where
  -- one of the branches lies within the open partition
  abbrev pub SomeRefines : List (List ℕ) → Type 0
  SomeRefines [] = ⊥
  SomeRefines (labels ∷ branches) = Refines (length terms) labels open' ⊎ SomeRefines branches

  left_of : (front behind : List (List ℕ)) → SomeRefines front → SomeRefines (front ++ behind)
  left_of [] behind h = absurd h
  left_of (labels ∷ front) behind h = elim h [ inl r ↦ inl r | inr r ↦ inr (left_of front behind r) ]

  right_of : (front behind : List (List ℕ)) → SomeRefines behind → SomeRefines (front ++ behind)
  right_of [] behind h = h
  right_of (labels ∷ front) behind h = inr (right_of front behind h)

  module _ (labels : List ℕ) (refines : Refines (length terms) labels open') where
    abbrev Children : List Lit → List (List ℕ) → Type 0
    Children lits children = AllZip (λ lit child. IsMerge terms labels lit.left lit.right child) lits children

    merged_refines : (lit : Lit) (child : List ℕ) → IsMerge terms labels lit.left lit.right child → joined open' lit.left lit.right ≡ true
        → Refines (length terms) child open'
    merged_refines lit child merge together =
        merge.least open' (record { partition = is_open.partition; congruent = is_open.congruent; keeps = refines; joins = together })

    -- an inequation that is false in the partition is false in the open one
    still_false : (lit : Lit) → is_within (length terms) lit ≡ true → lit.equal ≡ false → is_true_lit (joined labels) lit ≡ false
        → is_true_lit (joined open') lit ≡ true → ⊥
    still_false lit within e falsehood t =
        let places = and_parts (nat_lt lit.left (length terms)) (nat_lt lit.right (length terms)) within in
        let together : joined labels lit.left lit.right ≡ true
        = not-false (joined labels lit.left lit.right) (sym (inequation_true (joined labels) lit e) ∙ falsehood) in
        let separate : joined open' lit.left lit.right ≡ false
        = not-true (joined open' lit.left lit.right) (sym (inequation_true (joined open') lit e) ∙ t) in
        both_ways (joined open' lit.left lit.right) separate
        (refines lit.left lit.right (ltb-true lit.left (length terms) places.0) (ltb-true lit.right (length terms) places.1) together)

    abbrev kept : List Lit → List Lit
    kept lits = filter (λ lit. lit.equal) lits

    with_equation : (lit : Lit) (lits : List Lit) (children : List (List ℕ)) → lit.equal ≡ true → Children (kept (lit ∷ lits)) children → Children (lit ∷ kept lits) children
    with_equation lit lits children e zip = subst (λ lits'. Children lits' children) (cond-true lit.equal (lit ∷ kept lits) (kept lits) e) zip

    without : (lit : Lit) (lits : List Lit) (children : List (List ℕ)) → lit.equal ≡ false → Children (kept (lit ∷ lits)) children → Children (kept lits) children
    without lit lits children e zip = subst (λ lits'. Children lits' children) (cond-false lit.equal (lit ∷ kept lits) (kept lits) e) zip

    -- a clause that is false in the partition and true in the open one has an equation that holds there
    some_child : (lits : List Lit) (children : List (List ℕ)) → list_all (is_within (length terms)) lits ≡ true
        → list_any (is_true_lit (joined labels)) lits ≡ false → list_any (is_true_lit (joined open')) lits ≡ true
        → Children (kept lits) children → SomeRefines children
    some_child [] children within falsehood t zip = cc
    some_child (lit ∷ lits) [] within falsehood t zip =
        let parts = and_parts (is_within (length terms) lit) (list_all (is_within (length terms)) lits) within in
        let falsity = or_parts (is_true_lit (joined labels) lit) (list_any (is_true_lit (joined labels)) lits) falsehood in
        elim (cases_Bool lit.equal) [
          | inl e ↦ with_equation lit lits [] e zip
          | inr e ↦ elim (or_cases (is_true_lit (joined open') lit) (list_any (is_true_lit (joined open')) lits) t) [
            | inl h ↦ still_false lit parts.0 e falsity.0 h
            | inr h ↦ some_child lits [] parts.1 falsity.1 h (without lit lits [] e zip)
          ]
        ]
    some_child (lit ∷ lits) (child ∷ children) within falsehood t zip =
        let parts = and_parts (is_within (length terms) lit) (list_all (is_within (length terms)) lits) within in
        let falsity = or_parts (is_true_lit (joined labels) lit) (list_any (is_true_lit (joined labels)) lits) falsehood in
        let either = or_cases (is_true_lit (joined open') lit) (list_any (is_true_lit (joined open')) lits) t in
        elim (cases_Bool lit.equal) [
          | inl e ↦
              let zip' = with_equation lit lits (child ∷ children) e zip in
              elim either [
                | inl h ↦ inl (merged_refines lit child zip'.0 (sym (equation_true (joined open') lit e) ∙ h))
                | inr h ↦ inr (some_child lits children parts.1 falsity.1 h zip'.1)
              ]
          | inr e ↦ elim either [
            | inl h ↦ absurd (still_false lit parts.0 e falsity.0 h)
            | inr h ↦ some_child lits (child ∷ children) parts.1 falsity.1 h (without lit lits (child ∷ children) e zip)
          ]
        ]

  module _ (within : are_within (length terms) clauses ≡ true) where
    -- a node leads from a partition that lies within the open one to a child that does
    some_leads : (labels : List ℕ) (node : LogNode) (children : List (List ℕ)) → LeadsTo (IsFalseAt clauses) terms clauses labels node children
        → Refines (length terms) labels open' → SomeRefines children
    some_leads labels node children leads refines =
        let clause = leads.clause in
        let falsehood : is_true_clause (joined labels) clause ≡ false
        = not-true (is_true_clause (joined labels) clause)
        (subst (λ found. option_map_or (λ c. not (is_true_clause (joined labels) c)) found false ≡ true) leads.clause_at leads.picked) in
        some_child labels refines clause.lits children
        (clause_passes (λ c. list_all (is_within (length terms)) c.lits) clauses node.clause clause leads.clause_at within) falsehood
        (clause_passes (is_true_clause (joined open')) clauses node.clause clause leads.clause_at is_open.all_true) leads.merged

    never_closed : (nodes : List LogNode) (branches : List (List ℕ)) → SomeRefines branches → ¬ (Expands (IsFalseAt clauses) terms clauses branches nodes [])
    never_closed [] branches some h = subst SomeRefines h some
    never_closed (node ∷ nodes) [] some h = some
    never_closed (node ∷ nodes) (labels ∷ branches) some h =
        never_closed nodes (h.0 ++ branches)
        (elim some [
          | inl refines ↦ left_of h.0 branches (some_leads labels node h.0 h.1 refines)
          | inr r ↦ right_of h.0 branches r
        ]) h.2

pub closed_refutes : (terms : List Term) (clauses : List Clause) (nodes : List LogNode) → are_within (length terms) clauses ≡ true
    → IsClosedTree terms clauses nodes → HasNoOpenPartition terms clauses
closed_refutes terms clauses nodes within closed labels is_open =
    never_closed terms clauses labels is_open within nodes (root terms) (inl (alone_least (length terms) labels)) closed
