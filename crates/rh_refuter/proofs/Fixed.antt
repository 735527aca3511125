-- What the search finds is fixed: at each branch one clause is chosen, and a merge has one outcome.
use Rattle.std.proofs.Common.{◌≡◌, ℕ, List, [], ◌∷◌, ◌++◌, Some, arith, refl, ap, sym, subst, ◌∙◌, inl, inr}
use Rattle.std.specs.Prelude.{slice_get}
use Rattle.std.proofs.lemmas.Bool.{cases_order}
use Rattle.rh_log.specs.declared.log.LogNode.{LogNode}
use Rattle.rh_log.specs.Tree.{LeadsTo, Expands, root, width}
use Rattle.rh_log.proofs.Trees.{leads_unique}
use Rattle.rh_term.specs.declared.clause.Clause.{Clause}
use Rattle.rh_term.specs.declared.term.Term.{Term}
use Rattle.rh_refuter.specs.declared.search.Verdict.TheVariants.{Closed, Open}
use Rattle.rh_refuter.specs.Choice.{HasNoFalse, IsChosen}
use Rattle.rh_refuter.specs.Laws.{OneVerdict}

chosen_unique : (clauses : List Clause) (labels : List ℕ) (a b : ℕ) → IsChosen clauses labels a → IsChosen clauses labels b → a ≡ b
chosen_unique clauses labels a b one other = elim (cases_order a b) [
  | inl same ↦ same
  | inr which ↦ elim which [
    | inl before ↦ absurd (omega (arith, other.first a before one.is_false, one.fewest b other.is_false))
    | inr after ↦ absurd (omega (arith, one.first b after other.is_false, other.fewest a one.is_false))
  ]
]

module _ (terms : List Term) (clauses : List Clause) where
  -- no branch is left, or no clause is false in the first
  abbrev IsEnd : List (List ℕ) → Type 0
  IsEnd [] = Unit {0}
  IsEnd (labels ∷ branches) = HasNoFalse clauses labels

  record SameEnd (nodes others : List LogNode) (left rest : List (List ℕ)) : Type 0 where
    nodes_are : nodes ≡ others
    left_is : left ≡ rest

  node_unique : (labels : List ℕ) (node other : LogNode) (xs ys : List (List ℕ)) → LeadsTo (IsChosen clauses) terms clauses labels node xs
      → LeadsTo (IsChosen clauses) terms clauses labels other ys → node ≡ other
  node_unique labels node other xs ys one two =
      let same : node.clause ≡ other.clause = chosen_unique clauses labels node.clause other.clause one.picked two.picked in
      let clause : one.clause ≡ two.clause =
      let e : Some one.clause ≡ Some two.clause = sym one.clause_at ∙ ap (slice_get clauses) same ∙ two.clause_at in cc in
      let count : node.children ≡ other.children = one.counted ∙ ap width clause ∙ sym two.counted in
      λ i. record { clause = same i; children = count i }

  one_end : (branches : List (List ℕ)) (nodes others : List LogNode) (left rest : List (List ℕ)) → Expands (IsChosen clauses) terms clauses branches nodes left
      → Expands (IsChosen clauses) terms clauses branches others rest → IsEnd left → IsEnd rest → SameEnd nodes others left rest
  one_end branches [] [] left rest one two ends stops = record { nodes_are = refl; left_is = sym one ∙ two }
  one_end [] [] (other ∷ others) left rest one two ends stops = absurd two
  one_end [] (node ∷ nodes) others left rest one two ends stops = absurd one
  one_end (labels ∷ branches) [] (other ∷ others) left rest one two ends stops =
      let none : HasNoFalse clauses labels = subst IsEnd (sym one) ends in absurd (none other.clause two.1.picked.is_false)
  one_end (labels ∷ branches) (node ∷ nodes) [] left rest one two ends stops =
      let none : HasNoFalse clauses labels = subst IsEnd (sym two) stops in absurd (none node.clause one.1.picked.is_false)
  one_end (labels ∷ branches) (node ∷ nodes) (other ∷ others) left rest one two ends stops =
      let same : node ≡ other = node_unique labels node other one.0 two.0 one.1 two.1 in
      let children : one.0 ≡ two.0 = leads_unique (IsChosen clauses) terms clauses labels other one.0 two.0
      (subst (λ (n : LogNode). LeadsTo (IsChosen clauses) terms clauses labels n one.0) same one.1) two.1 in
      let more : Expands (IsChosen clauses) terms clauses (two.0 ++ branches) nodes left
      = subst (λ (front : List (List ℕ)). Expands (IsChosen clauses) terms clauses (front ++ branches) nodes left) children one.2 in
      let end : SameEnd nodes others left rest = one_end (two.0 ++ branches) nodes others left rest more two.2 ends stops in
      record { nodes_are = λ i. same i ∷ end.nodes_are i; left_is = end.left_is }

first_is : (a b : List ℕ) (left rest : List (List ℕ)) → a ∷ left ≡ b ∷ rest → a ≡ b
first_is a b left rest e = cc

pub one_found : OneVerdict
one_found terms clauses (Closed log) (Closed other) one two =
    ap (λ (nodes : List LogNode). Closed (record { nodes = nodes })) (one_end terms clauses (root terms) log.nodes other.nodes [] [] one two tt tt).nodes_are
one_found terms clauses (Closed log) (Open labels) one two =
    let e : [] ≡ labels ∷ two.1 = (one_end terms clauses (root terms) log.nodes two.0 [] (labels ∷ two.1) one two.2 tt two.3).left_is in cc
one_found terms clauses (Open labels) (Closed log) one two =
    let e : labels ∷ one.1 ≡ [] = (one_end terms clauses (root terms) one.0 log.nodes (labels ∷ one.1) [] one.2 two one.3 tt).left_is in cc
one_found terms clauses (Open labels) (Open others) one two =
    ap (λ (all : List ℕ). Open all) (first_is labels others one.1 two.1 (one_end terms clauses (root terms) one.0 two.0 (labels ∷ one.1) (others ∷ two.1) one.2 two.2 one.3 two.3).left_is)
