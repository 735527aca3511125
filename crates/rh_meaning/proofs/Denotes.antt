-- What stands at the place of a tree stands for what the tree does, so clauses over places are true
-- where the clauses over trees are.
use Rattle.std.proofs.Common.{◌≡◌, ◌<◌, Bool, true, ◌&&◌, ◌||◌, List, [], ◌∷◌, map, length, refl, ap, ◌∙◌}
use Rattle.std.specs.Prelude.{not, if◌then◌else◌, nat_lt}
use Rattle.std.specs.List.{list_any, list_all, flat_map, AllByRecursion}
use Rattle.std.proofs.lemmas.Bool.{and_from, lt-ltb}
use Rattle.rh_list.proofs.Appended.{apart}
use Rattle.rh_term.specs.declared.term.Term.{Term}
use Rattle.rh_term.specs.declared.term.Term.TheVariants.{Num, Cst, Addr, Any, Fresh, Answer, Before, After, Start, Sel, Upd, Op as Computed, Kind, IsNum, IsPtr, Una, Yes}
use Rattle.rh_term.specs.Clause.{is_true_lit, are_true, is_within, are_within}
use Rattle.rh_term.specs.Model.{Model, AValue, AStore, AKind, AnAnswer, Denotation, alike, value_of, store_of, is_number, denotation_at, denotation_in, denotations, same_in}
use Rattle.rh_term.specs.Store.{select, update, is_unheld}
use Rattle.rh_term.specs.Term.{IsTermList, HasParts}
use Rattle.rh_term.proofs.Known.{known_at}
use Rattle.rh_il.specs.Op.{total}
use Rattle.rh_meaning.specs.Tree.{Tree, Leaf, Select, Update, Compute, KindOf, Unheld, place_of, tree_place}
use Rattle.rh_meaning.specs.Literal.{TreeLit, TreeClause, literal_trees, clause_trees}
use Rattle.rh_meaning.specs.Placed.{lit_in, clauses_in}
use Rattle.rh_meaning.specs.Denotation.{denotation, is_true_in, are_true_in}
use Rattle.rh_meaning.proofs.Places.{place_found}
use Rattle.rh_meaning.specs.Sorts.{IsIn, IsSorted}

-- a term without parts stands for the same whatever is known of others
leaf_denotes : (model : Model) (known : List Denotation) (term : Term) → HasParts [] term → denotation_in model known term ≡ denotation_in model [] term
leaf_denotes model known (Num number) h = refl
leaf_denotes model known (Cst meta) h = refl
leaf_denotes model known (Addr meta) h = refl
leaf_denotes model known Any h = refl
leaf_denotes model known Fresh h = refl
leaf_denotes model known Answer h = refl
leaf_denotes model known Before h = refl
leaf_denotes model known After h = refl
leaf_denotes model known Start h = refl
leaf_denotes model known IsNum h = refl
leaf_denotes model known IsPtr h = refl
leaf_denotes model known Yes h = refl
leaf_denotes model known (Sel store address) h = let no = h.0 in cc
leaf_denotes model known (Upd store address value) h = let no = h.0 in cc
leaf_denotes model known (Computed op left right) h = let no = h.0 in cc
leaf_denotes model known (Kind value) h = let no = h in cc
leaf_denotes model known (Una store value) h = let no = h.0 in cc

-- the leaves of a tree are terms without parts
abbrev pub HasBareLeaves : Tree → Type 0
HasBareLeaves (Leaf term) = HasParts [] term
HasBareLeaves (Select store address) = HasBareLeaves store × HasBareLeaves address
HasBareLeaves (Update store address value) = HasBareLeaves store × HasBareLeaves address × HasBareLeaves value
HasBareLeaves (Compute op left right) = HasBareLeaves left × HasBareLeaves right
HasBareLeaves (KindOf value) = HasBareLeaves value
HasBareLeaves (Unheld store value) = HasBareLeaves store × HasBareLeaves value

pub sorted_bare : (tree : Tree) → IsSorted tree → HasBareLeaves tree
sorted_bare (Leaf term) sorted = sorted.0
sorted_bare (Select store address) sorted = (sorted_bare store sorted.0, sorted_bare address sorted.1)
sorted_bare (Update store address value) sorted = (sorted_bare store sorted.0, sorted_bare address sorted.1, sorted_bare value sorted.2)
sorted_bare (Compute op left right) sorted = (sorted_bare left sorted.0, sorted_bare right sorted.1)
sorted_bare (KindOf value) sorted = sorted_bare value sorted.0
sorted_bare (Unheld store value) sorted = (sorted_bare store sorted.0, sorted_bare value sorted.1)

module _ (model : Model) (terms : List Term) (list : IsTermList terms) where
  abbrev all : List Denotation
  all = denotations model terms

  at_place : (term : Term) → place_of terms term < length terms → denotation_at all (place_of terms term) ≡ denotation_in model all term
  at_place term within = known_at model terms list (place_of terms term) term (place_found terms term within)

  pub tree_denotes : (tree : Tree) → IsIn terms tree → HasBareLeaves tree → denotation_at all (tree_place terms tree) ≡ denotation model tree
  tree_denotes (Leaf term) is_in bare = at_place term is_in ∙ leaf_denotes model all term bare
  tree_denotes (Select store address) is_in bare =
      at_place (Sel (tree_place terms store) (tree_place terms address)) is_in.2
      ∙ ap (λ s. AValue (select (store_of s) (value_of (denotation_at all (tree_place terms address))))) (tree_denotes store is_in.0 bare.0)
      ∙ ap (λ a. AValue (select (store_of (denotation model store)) (value_of a))) (tree_denotes address is_in.1 bare.1)
  tree_denotes (Update store address value) is_in bare =
      at_place (Upd (tree_place terms store) (tree_place terms address) (tree_place terms value)) is_in.3
      ∙ ap (λ s. AStore (update (store_of s) (value_of (denotation_at all (tree_place terms address))) (value_of (denotation_at all (tree_place terms value))))) (tree_denotes store is_in.0 bare.0)
      ∙ ap (λ a. AStore (update (store_of (denotation model store)) (value_of a) (value_of (denotation_at all (tree_place terms value))))) (tree_denotes address is_in.1 bare.1)
      ∙ ap (λ v. AStore (update (store_of (denotation model store)) (value_of (denotation model address)) (value_of v))) (tree_denotes value is_in.2 bare.2)
  tree_denotes (Compute op left right) is_in bare =
      at_place (Computed op (tree_place terms left) (tree_place terms right)) is_in.2
      ∙ ap (λ l. AValue (total op (value_of l) (value_of (denotation_at all (tree_place terms right))))) (tree_denotes left is_in.0 bare.0)
      ∙ ap (λ r. AValue (total op (value_of (denotation model left)) (value_of r))) (tree_denotes right is_in.1 bare.1)
  tree_denotes (KindOf value) is_in bare =
      at_place (Kind (tree_place terms value)) is_in.1 ∙ ap (λ v. AKind (is_number (value_of v))) (tree_denotes value is_in.0 bare)
  tree_denotes (Unheld store value) is_in bare =
      at_place (Una (tree_place terms store) (tree_place terms value)) is_in.2
      ∙ ap (λ s. AnAnswer (is_unheld (store_of s) (value_of (denotation_at all (tree_place terms value))))) (tree_denotes store is_in.0 bare.0)
      ∙ ap (λ v. AnAnswer (is_unheld (store_of (denotation model store)) (value_of v))) (tree_denotes value is_in.1 bare.1)

  -- a tree stands in the list, and its leaves are terms without parts
  pub record Stands (tree : Tree) : Type 0 where
    pub is_in : IsIn terms tree
    pub bare : HasBareLeaves tree

  pub lit_denotes : (lit : TreeLit) → Stands lit.left → Stands lit.right → is_true_lit (same_in model terms) (lit_in terms lit) ≡ is_true_in model lit
  lit_denotes lit left right =
      ap (λ (same : Bool). if lit.equal then same else not same)
      (ap (λ d. alike d (denotation_at all (tree_place terms lit.right))) (tree_denotes lit.left left.is_in left.bare)
      ∙ ap (alike (denotation model lit.left)) (tree_denotes lit.right right.is_in right.bare))

  pub lits_denote : (lits : List TreeLit) → AllByRecursion Stands (flat_map literal_trees lits)
      → list_any (is_true_lit (same_in model terms)) (map (lit_in terms) lits) ≡ list_any (is_true_in model) lits
  lits_denote [] stand = refl
  lits_denote (lit ∷ lits) stand =
      ap (λ b. b || list_any (is_true_lit (same_in model terms)) (map (lit_in terms) lits)) (lit_denotes lit stand.0 stand.1.0)
      ∙ ap (λ b. is_true_in model lit || b) (lits_denote lits stand.1.1)

  pub clauses_denote : (clauses : List TreeClause) → AllByRecursion Stands (flat_map clause_trees clauses)
      → are_true (same_in model terms) (clauses_in terms clauses) ≡ are_true_in model clauses
  clauses_denote [] stand = refl
  clauses_denote (clause ∷ clauses) stand =
      let parts = apart Stands (clause_trees clause) (flat_map clause_trees clauses) stand in
      ap (λ b. b && are_true (same_in model terms) (clauses_in terms clauses)) (lits_denote clause parts.0)
      ∙ ap (λ b. list_any (is_true_in model) clause && b) (clauses_denote clauses parts.1)

  -- the places are of the list
  tree_within : (tree : Tree) → Stands tree → nat_lt (tree_place terms tree) (length terms) ≡ true
  tree_within (Leaf term) stand = lt-ltb _ _ stand.is_in
  tree_within (Select store address) stand = lt-ltb _ _ stand.is_in.2
  tree_within (Update store address value) stand = lt-ltb _ _ stand.is_in.3
  tree_within (Compute op left right) stand = lt-ltb _ _ stand.is_in.2
  tree_within (KindOf value) stand = lt-ltb _ _ stand.is_in.1
  tree_within (Unheld store value) stand = lt-ltb _ _ stand.is_in.2

  pub lit_within : (lit : TreeLit) → Stands lit.left → Stands lit.right → is_within (length terms) (lit_in terms lit) ≡ true
  lit_within lit left right = and_from _ _ (tree_within lit.left left) (tree_within lit.right right)

  lits_within : (lits : List TreeLit) → AllByRecursion Stands (flat_map literal_trees lits) → list_all (is_within (length terms)) (map (lit_in terms) lits) ≡ true
  lits_within [] stand = refl
  lits_within (lit ∷ lits) stand = and_from _ _ (lit_within lit stand.0 stand.1.0) (lits_within lits stand.1.1)

  pub clauses_within : (clauses : List TreeClause) → AllByRecursion Stands (flat_map clause_trees clauses) → are_within (length terms) (clauses_in terms clauses) ≡ true
  clauses_within [] stand = refl
  clauses_within (clause ∷ clauses) stand =
      let parts = apart Stands (clause_trees clause) (flat_map clause_trees clauses) stand in
      and_from _ _ (lits_within clause parts.0) (clauses_within clauses parts.1)
