-- How the code builds the list of terms and the clauses of an obligation.
use Rattle.std.proofs.Common.{ℕ, ◌≡◌, ◌<◌, ◌≤◌, ◌^◌, arith, ◌+◌, List, [], ◌∷◌, ◌++◌, map, length, drop, take, get_or, add-one, refl, ap, sym, subst, ◌∙◌}
use Rattle.std.specs.Prelude.{fold}
use Rattle.std.specs.List.{flat_map, AllByRecursion}
use Rattle.std.proofs.Math.Seq.{drop-cons}
use Rattle.std.proofs.lemmas.List.{map-append, take_more}
use Rattle.std.proofs.lemmas.List.Sums.{sum_by-append, sum_by-cons}
use Rattle.rh_list.proofs.Appended.{apart}
use Rattle.rh_meaning.specs.Placed.{clause_in, clauses_in}
use Rattle.rh_term.specs.declared.term.Term.{Term}
use Rattle.rh_meaning.specs.declared.literal.TreeLit.{TreeLit as BuiltLit}
use Rattle.rh_meaning.specs.declared.literal.TreeClause.{TreeClause as BuiltClause}
use Rattle.rh_meaning.proofs.Trees.{with_tree_few}
use Rattle.rh_meaning.specs.Sorts.{IsSorted, tree_size}
use Rattle.rh_meaning.specs.Literal.{clause_trees, literal_trees}
use Rattle.rh_meaning.specs.Tree.{Tree, Leaf, with_term, with_tree}
use Rattle.rh_meaning.specs.View.{clauses_of, lit_of, lits_of}
use Rattle.rh_meaning.proofs.Sorted.{leaf_parts}
use Rattle.rh_oblig.specs.TermList.{AreFit, with_trees}
use Rattle.rh_goals.specs.Few.{trees_size}
use Rattle.rh_oblig.proofs.Leaves.{IsSortedLeaf}

pub with_trees_both : (terms : List Term) (a b : List Tree) → with_trees terms (a ++ b) ≡ with_trees (with_trees terms a) b
with_trees_both terms [] b = refl
with_trees_both terms (tree ∷ a) b = with_trees_both (with_tree terms tree) a b

-- a list with trees has at most their terms more
pub with_trees_few : (terms : List Term) (trees : List Tree) → length (with_trees terms trees) ≤ length terms + trees_size trees
with_trees_few terms [] = omega arith
with_trees_few terms (tree ∷ trees) = omega (arith, with_tree_few terms tree, with_trees_few (with_tree terms tree) trees, sum_by-cons tree_size tree trees)

-- leaves are put into a list one by one
pub with_leaves : (terms leaves : List Term) → with_trees terms (map Leaf leaves) ≡ fold with_term terms leaves
with_leaves terms [] = refl
with_leaves terms (leaf ∷ leaves) = with_leaves (with_term terms leaf) leaves

pub leaves_are_fit : (terms leaves : List Term) → AllByRecursion IsSortedLeaf leaves → AreFit terms leaves
leaves_are_fit terms [] fit = tt
leaves_are_fit terms (leaf ∷ leaves) fit = (leaf_parts terms leaf fit.0.0, leaves_are_fit terms leaves fit.1)

-- the literals from a place on are one literal and the others
pub lits_cut : (lits : List BuiltLit) (i : ℕ) (d : BuiltLit) → i < length lits
    → flat_map literal_trees (lits_of (drop i lits)) ≡ literal_trees (lit_of (get_or lits i d)) ++ flat_map literal_trees (lits_of (drop (i + 1) lits))
lits_cut lits i d within =
    ap (λ rest. flat_map literal_trees (lits_of rest)) (drop-cons lits i d within)
    ∙ ap (λ n. literal_trees (lit_of (get_or lits i d)) ++ flat_map literal_trees (lits_of (drop n lits))) (sym (add-one i))

pub clauses_cut : (clauses : List BuiltClause) (i : ℕ) (d : BuiltClause) → i < length clauses
    → flat_map clause_trees (clauses_of (drop i clauses)) ≡ clause_trees (lits_of (get_or clauses i d).lits.items) ++ flat_map clause_trees (clauses_of (drop (i + 1) clauses))
clauses_cut clauses i d within =
    ap (λ rest. flat_map clause_trees (clauses_of rest)) (drop-cons clauses i d within)
    ∙ ap (λ n. clause_trees (lits_of (get_or clauses i d).lits.items) ++ flat_map clause_trees (clauses_of (drop n clauses))) (sym (add-one i))

-- one more piece of the trees is put into the list
pub record Adds (old new : List Term) (whole rest : List Tree) : Type 0 where
  pub same : with_trees new rest ≡ with_trees old whole
  pub sorted : AllByRecursion IsSorted rest
  pub room : length new + trees_size rest < 2 ^ 32

pub adds_piece : (old new : List Term) (whole piece rest : List Tree) → whole ≡ piece ++ rest → new ≡ with_trees old piece → AllByRecursion IsSorted whole
    → length old + trees_size whole < 2 ^ 32 → Adds old new whole rest
adds_piece old new whole piece rest cut is sorted room =
    record {
      same = ap (λ terms. with_trees terms rest) is ∙ sym (with_trees_both old piece rest) ∙ ap (with_trees old) (sym cut);
      sorted = (apart IsSorted piece rest (subst (AllByRecursion IsSorted) cut sorted)).1;
      room = omega (arith, ap length is, with_trees_few old piece, ap trees_size cut, sum_by-append tree_size piece rest, room);
    }

-- a piece of the trees has room where all of them have
pub piece_room : (used : ℕ) (whole piece rest : List Tree) → whole ≡ piece ++ rest → used + trees_size whole < 2 ^ 32 → used + trees_size piece < 2 ^ 32
piece_room used whole piece rest cut room = omega (arith, ap trees_size cut, sum_by-append tree_size piece rest, room)

-- one more clause is placed
pub clauses_more : (terms : List Term) (clauses : List BuiltClause) (i : ℕ) (d : BuiltClause) → i < length clauses
    → clauses_in terms (clauses_of (take (i + 1) clauses)) ≡ clauses_in terms (clauses_of (take i clauses)) ++ clause_in terms (lits_of (get_or clauses i d).lits.items) ∷ []
clauses_more terms clauses i d within =
    ap (λ front. clauses_in terms (clauses_of front)) (take_more clauses i d within)
    ∙ ap (clauses_in terms) (map-append (λ (clause : BuiltClause). lits_of clause.lits.items) (take i clauses) (get_or clauses i d ∷ []))
    ∙ map-append (clause_in terms) (clauses_of (take i clauses)) (lits_of (get_or clauses i d).lits.items ∷ [])
