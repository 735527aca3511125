-- Where the clauses of an obligation have no open partition, the obligation holds.
use Rattle.std.proofs.Common.{◌≡◌, Bool, true, IsTrue, List, [], ◌∷◌, ◌++◌, map, length, pos, refl, sym, ◌∙◌}
use Rattle.std.specs.List.{list_all, flat_map, AllByRecursion}
use Rattle.std.proofs.lemmas.Bool.{and_from}
use Rattle.std.proofs.lemmas.List.Folds.{list_all-append}
use Rattle.rh_list.proofs.Appended.{apart}
use Rattle.rh_rule.specs.declared.rule.Form.{Form}
use Rattle.rh_rule.specs.declared.schema.Param.{Param}
use Rattle.rh_term.specs.declared.clause.Clause.{Clause}
use Rattle.rh_term.specs.declared.term.Term.{Term}
use Rattle.rh_term.specs.Clause.{is_true_clause, are_true, is_within, are_within}
use Rattle.rh_term.specs.Laws.{denial}
use Rattle.rh_term.specs.Model.{Model, IsModel, same_in}
use Rattle.rh_term.specs.Store.{nothing}
use Rattle.rh_term.specs.Partition.{HasNoOpenPartition}
use Rattle.rh_term.specs.Term.{IsTermList}
use Rattle.rh_term.proofs.Bridge.{goals_hold}
use Rattle.rh_meaning.specs.Tree.{Extends, Tree, Leaf}
use Rattle.rh_meaning.specs.Literal.{TreeLit, TreeClause, literal_trees, clause_trees}
use Rattle.rh_meaning.specs.Placed.{lit_in, clauses_in}
use Rattle.rh_meaning.specs.Denotation.{are_true_in, is_true_in}
use Rattle.rh_meaning.specs.Sorts.{IsIn, IsSorted}
use Rattle.rh_meaning.proofs.Trees.{stays_in}
use Rattle.rh_meaning.proofs.Denotes.{Stands, clauses_denote, clauses_within, lit_denotes, lit_within, sorted_bare}
use Rattle.rh_oblig.specs.TermList.{closed, first_trees, leaves_of, with_trees, term_list}
use Rattle.rh_goals.specs.Valid.{IsValid}
use Rattle.rh_oblig.proofs.Walks.{with_trees_has, closed_extends}

-- axioms over a list of terms: within the list, and true in every model
pub record AreAxioms (terms : List Term) (axioms : List Clause) : Type 0 where
  pub within : are_within (length terms) axioms ≡ true
  pub are_laws : (model : Model) → IsModel model → are_true (same_in model terms) axioms ≡ true

all_in : (base terms : List Term) (grown : Extends base terms) (trees : List Tree) → AllByRecursion (IsIn base) trees → AllByRecursion (IsIn terms) trees
all_in base terms grown [] is_in = tt
all_in base terms grown (tree ∷ trees) is_in = (stays_in base terms tree grown is_in.0, all_in base terms grown trees is_in.1)

-- the trees stand in the closed list
all_stand : (model : Model) (base terms : List Term) (list : IsTermList terms) (grown : Extends base terms) (trees : List Tree) → AllByRecursion (IsIn base) trees → AllByRecursion IsSorted trees
    → AllByRecursion (Stands model terms list) trees
all_stand model base terms list grown [] is_in sorted = tt
all_stand model base terms list grown (tree ∷ trees) is_in sorted =
    (record { is_in = stays_in base terms tree grown is_in.0; bare = sorted_bare tree sorted.0 }, all_stand model base terms list grown trees is_in.1 sorted.1)

module _ (params : List Param) (pattern : Form) (hypotheses : List TreeClause) (goal : TreeLit)
    (list : IsTermList (term_list params pattern hypotheses goal)) (sorted : AllByRecursion IsSorted (first_trees params pattern hypotheses goal)) (model : Model) where
  abbrev terms : List Term
  terms = term_list params pattern hypotheses goal

  record AllStand : Type 0 where
    in_hypotheses : AllByRecursion (Stands model terms list) (flat_map clause_trees hypotheses)
    left : Stands model terms list goal.left
    right : Stands model terms list goal.right

  all_of : AllStand
  all_of =
      let trees : List Tree = first_trees params pattern hypotheses goal in
      let base : List Term = with_trees [] trees in
      let stand : AllByRecursion (Stands model terms list) trees = all_stand model base terms list (closed_extends base) trees (with_trees_has [] trees) sorted in
      let goal_apart = apart (Stands model terms list) (map Leaf (leaves_of params pattern) ++ flat_map clause_trees hypotheses) (literal_trees goal) stand in
      record {
        in_hypotheses = (apart (Stands model terms list) (map Leaf (leaves_of params pattern)) (flat_map clause_trees hypotheses) goal_apart.0).1;
        left = goal_apart.1.0;
        right = goal_apart.1.1.0;
      }

  -- the clauses of the obligation are over its terms
  pub all_within : (axioms : List Clause) → are_within (length terms) axioms ≡ true
      → are_within (length terms) ((clauses_in terms hypotheses ++ axioms) ++ denial (lit_in terms goal) ∷ []) ≡ true
  all_within axioms within =
      let places : Clause → Bool = λ clause. list_all (is_within (length terms)) clause.lits in
      list_all-append places (clauses_in terms hypotheses ++ axioms) (denial (lit_in terms goal) ∷ [])
      ∙ and_from _ _
      (list_all-append places (clauses_in terms hypotheses) axioms ∙ and_from _ _ (clauses_within model terms list hypotheses all_of.in_hypotheses) within)
      (and_from _ true (and_from _ true (lit_within model terms list goal all_of.left all_of.right) refl) refl)

  -- where they have no open partition, the goal is true in a model of the hypotheses
  pub goal_true : (axioms : List Clause) → AreAxioms terms axioms
      → HasNoOpenPartition terms ((clauses_in terms hypotheses ++ axioms) ++ denial (lit_in terms goal) ∷ [])
      → IsModel model → IsTrue (are_true_in model hypotheses) → IsTrue (is_true_in model goal)
  goal_true axioms laws none is_model known =
      let facts_true : are_true (same_in model terms) (clauses_in terms hypotheses ++ axioms) ≡ true =
      list_all-append (is_true_clause (same_in model terms)) (clauses_in terms hypotheses) axioms
      ∙ and_from _ _ (clauses_denote model terms list hypotheses all_of.in_hypotheses ∙ known) (laws.are_laws model is_model) in
      sym (lit_denotes model terms list goal all_of.left all_of.right)
      ∙ goals_hold model terms (clauses_in terms hypotheses ++ axioms) (lit_in terms goal) list (all_within axioms laws.within) none facts_true

pub valid : (params : List Param) (pattern : Form) (hypotheses : List TreeClause) (goal : TreeLit) (axioms : List Clause)
    → IsTermList (term_list params pattern hypotheses goal) → AllByRecursion IsSorted (first_trees params pattern hypotheses goal) → AreAxioms (term_list params pattern hypotheses goal) axioms
    → HasNoOpenPartition (term_list params pattern hypotheses goal)
    ((clauses_in (term_list params pattern hypotheses goal) hypotheses ++ axioms) ++ denial (lit_in (term_list params pattern hypotheses goal) goal) ∷ [])
    → IsValid hypotheses goal
valid params pattern hypotheses goal axioms list sorted laws none = λ model is_model known.
    goal_true params pattern hypotheses goal list sorted model axioms laws none is_model known

-- ---- what the code needs to place the clauses

-- the trees of the hypotheses and of the goal stand in the list
pub trees_in : (params : List Param) (pattern : Form) (hypotheses : List TreeClause) (goal : TreeLit)
    → AllByRecursion (IsIn (term_list params pattern hypotheses goal)) (flat_map clause_trees hypotheses)
    × AllByRecursion (IsIn (term_list params pattern hypotheses goal)) (literal_trees goal)
trees_in params pattern hypotheses goal =
    let trees : List Tree = first_trees params pattern hypotheses goal in
    let base : List Term = with_trees [] trees in
    let all : AllByRecursion (IsIn (closed base)) trees = all_in base (closed base) (closed_extends base) trees (with_trees_has [] trees) in
    let parts = apart (IsIn (closed base)) (map Leaf (leaves_of params pattern) ++ flat_map clause_trees hypotheses) (literal_trees goal) all in
    ((apart (IsIn (closed base)) (map Leaf (leaves_of params pattern)) (flat_map clause_trees hypotheses) parts.0).1, parts.1)

a_model : Model
a_model = record { number = λ meta. pos 0; location = λ meta. 0; any = nothing; fresh = nothing; answer = nothing; before = []; after = []; start = [] }

pub obligation_within : (params : List Param) (pattern : Form) (hypotheses : List TreeClause) (goal : TreeLit) (axioms : List Clause)
    → IsTermList (term_list params pattern hypotheses goal) → AllByRecursion IsSorted (first_trees params pattern hypotheses goal)
    → are_within (length (term_list params pattern hypotheses goal)) axioms ≡ true
    → are_within (length (term_list params pattern hypotheses goal))
    ((clauses_in (term_list params pattern hypotheses goal) hypotheses ++ axioms) ++ denial (lit_in (term_list params pattern hypotheses goal) goal) ∷ []) ≡ true
obligation_within params pattern hypotheses goal axioms list sorted within = all_within params pattern hypotheses goal list sorted a_model axioms within
