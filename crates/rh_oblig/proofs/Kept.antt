-- Lists of terms stay such lists where trees of the right sorts are put into them, and no update in them
-- is over another.
use Rattle.std.proofs.Common.{ℕ, zero, suc, ◌≡◌, Bool, true, false, ◌==◌, if◌then◌else◌, List, [], ◌∷◌, ◌++◌, length, Some, refl, ap, sym, subst, ◌∙◌, inl, inr}
use Rattle.std.specs.Prelude.{slice_get}
use Rattle.std.specs.List.{AllByRecursion}
use Rattle.std.specs.Option.{option_map_or}
use Rattle.std.proofs.lemmas.Bool.{eqb-true}
use Rattle.rh_term.specs.declared.term.Term.{Term}
use Rattle.rh_term.specs.declared.term.Term.TheVariants.{Sel, Upd, Op as Computed, Kind, Una}
use Rattle.rh_term.specs.Term.{is_at, is_store_term, HasNumber, HasParts, IsTermList}
use Rattle.rh_term.proofs.Listed.{grown, last_or_before}
use Rattle.rh_meaning.specs.Sorts.{IsIn, IsSorted, is_leaf}
use Rattle.rh_meaning.specs.Tree.{Tree, Leaf, Select, Update, Compute, KindOf, Unheld, place_of, tree_place, with_term, with_tree}
use Rattle.rh_meaning.proofs.Places.{place_found}
use Rattle.rh_meaning.proofs.Sorted.{absent, leaf_parts, parts_here, parts_longer, store_at_place, value_at_place}
use Rattle.rh_meaning.proofs.Trees.{stays_in, with_tree_has}
use Rattle.rh_oblig.specs.TermList.{with_trees}

abbrev pub is_update : Term → Bool
is_update (Upd store address value) = true
is_update _ = false

-- an update stands at the place
abbrev pub is_update_at : List Term → ℕ → Bool
is_update_at terms place = is_at is_update terms place

-- the term is no update of an update
abbrev pub IsFlat : List Term → Term → Type 0
IsFlat terms (Upd store address value) = is_update_at terms store ≡ false
IsFlat terms _ = Unit {0}

-- a term that the list may take
pub record IsFit (terms : List Term) (term : Term) : Type 0 where
  pub parts : HasParts terms term
  pub number : HasNumber term
  pub flat : IsFlat terms term

-- a list of terms in which no update is over another
pub record IsKept (terms : List Term) : Type 0 where
  pub list : IsTermList terms
  pub flat : (place : ℕ) (term : Term) → slice_get terms place ≡ Some term → IsFlat terms term

-- ---- what stands at a part of a term stays where the list grows

pub get_same : (test : Term → Bool) (terms more : List Term) (place : ℕ) → is_at test terms place ≡ true → slice_get (terms ++ more) place ≡ slice_get terms place
get_same test [] more place there = cc
get_same test (listed ∷ terms) more zero there = refl
get_same test (listed ∷ terms) more (suc place) there = get_same test terms more place there

pub update_same : (test : Term → Bool) (terms more : List Term) (place : ℕ) → is_at test terms place ≡ true → is_update_at (terms ++ more) place ≡ is_update_at terms place
update_same test terms more place there = ap (λ found. option_map_or is_update found false) (get_same test terms more place there)

flat_longer : (terms more : List Term) (term : Term) → HasParts terms term → IsFlat terms term → IsFlat (terms ++ more) term
flat_longer terms more (Upd store address value) parts flat = update_same is_store_term terms more store parts.0 ∙ flat
flat_longer terms more _ parts flat = flat

pub fit_longer : (terms more : List Term) (term : Term) → IsFit terms term → IsFit (terms ++ more) term
fit_longer terms more term fit = record { parts = parts_longer terms more term fit.parts; number = fit.number; flat = flat_longer terms more term fit.parts fit.flat }

-- ---- one term more

kept_longer : (terms : List Term) (term : Term) → IsKept terms → IsFit terms term → place_of terms term ≡ length terms → IsKept (terms ++ term ∷ [])
kept_longer terms term kept fit here = record {
  list = grown terms term kept.list fit.parts fit.number (absent terms term here);
  flat = λ place listed stands.
      elim (last_or_before terms term place listed stands) [
        | inl old ↦ flat_longer terms (term ∷ []) listed (parts_here terms place listed kept.list old.1) (kept.flat place listed old.1)
        | inr new ↦ subst (IsFlat (terms ++ term ∷ [])) (sym new.1) (flat_longer terms (term ∷ []) term fit.parts fit.flat)
      ];
}

kept_cases : (test : Bool) (terms : List Term) (term : Term) → (place_of terms term == length terms) ≡ test → IsKept terms → IsFit terms term
    → IsKept (if test then terms ++ term ∷ [] else terms)
kept_cases true terms term is kept fit = kept_longer terms term kept fit (eqb-true (place_of terms term) (length terms) is)
kept_cases false terms term is kept fit = kept

pub kept_more : (terms : List Term) (term : Term) → IsKept terms → IsFit terms term → IsKept (with_term terms term)
kept_more terms term kept fit = kept_cases (place_of terms term == length terms) terms term refl kept fit

-- ---- trees

pub none_kept : IsKept []
none_kept = record {
  list = record { different = λ i j term a b. cc; parts = λ i term a. cc; numbers = λ i term a. cc };
  flat = λ place term stands. cc;
}

leaf_flat : (terms : List Term) (term : Term) → HasParts [] term → IsFlat terms term
leaf_flat terms (Upd store address value) parts = let none = parts.0 in cc
leaf_flat terms _ parts = tt

leaf_is : (term : Term) → HasParts [] term → is_update term ≡ false
leaf_is (Upd store address value) parts = let none = parts.0 in cc
leaf_is _ parts = refl

-- a store without parts is no update
store_flat : (terms : List Term) (store : Tree) → IsIn terms store → IsSorted store → is_leaf store ≡ true → is_update_at terms (tree_place terms store) ≡ false
store_flat terms (Leaf term) is_in sorted leaf = ap (λ found. option_map_or is_update found false) (place_found terms term is_in) ∙ leaf_is term sorted.0
store_flat terms (Select store address) is_in sorted leaf = cc
store_flat terms (Update store address value) is_in sorted leaf = cc
store_flat terms (Compute op left right) is_in sorted leaf = cc
store_flat terms (KindOf value) is_in sorted leaf = cc
store_flat terms (Unheld store value) is_in sorted leaf = cc

-- a tree stays in the list where another is put into it
stays : (terms : List Term) (tree other : Tree) → IsIn terms tree → IsIn (with_tree terms other) tree
stays terms tree other is_in = stays_in terms (with_tree terms other) tree (with_tree_has terms other).grown is_in

pub kept_tree : (terms : List Term) (tree : Tree) → IsKept terms → IsSorted tree → IsKept (with_tree terms tree)
kept_tree terms (Leaf term) kept sorted =
    kept_more terms term kept (record { parts = leaf_parts terms term sorted.0; number = sorted.1; flat = leaf_flat terms term sorted.0 })
kept_tree terms (Select store address) kept sorted =
    let stored : List Term = with_tree terms store in
    let parts : List Term = with_tree stored address in
    let store_in : IsIn parts store = stays stored store address (with_tree_has terms store).is_in in
    kept_more parts (Sel (tree_place parts store) (tree_place parts address)) (kept_tree stored address (kept_tree terms store kept sorted.0) sorted.1) (record {
      parts = (store_at_place parts store store_in sorted.2, value_at_place parts address (with_tree_has stored address).is_in sorted.3);
      number = tt;
      flat = tt;
    })
kept_tree terms (Update store address value) kept sorted =
    let stored : List Term = with_tree terms store in
    let addressed : List Term = with_tree stored address in
    let parts : List Term = with_tree addressed value in
    let store_in : IsIn parts store = stays addressed store value (stays stored store address (with_tree_has terms store).is_in) in
    let address_in : IsIn parts address = stays addressed address value (with_tree_has stored address).is_in in
    kept_more parts (Upd (tree_place parts store) (tree_place parts address) (tree_place parts value))
    (kept_tree addressed value (kept_tree stored address (kept_tree terms store kept sorted.0) sorted.1) sorted.2) (record {
      parts = (store_at_place parts store store_in sorted.3, value_at_place parts address address_in sorted.4, value_at_place parts value (with_tree_has addressed value).is_in sorted.5);
      number = tt;
      flat = store_flat parts store store_in sorted.0 sorted.6;
    })
kept_tree terms (Compute op left right) kept sorted =
    let lefts : List Term = with_tree terms left in
    let parts : List Term = with_tree lefts right in
    let left_in : IsIn parts left = stays lefts left right (with_tree_has terms left).is_in in
    kept_more parts (Computed op (tree_place parts left) (tree_place parts right)) (kept_tree lefts right (kept_tree terms left kept sorted.0) sorted.1) (record {
      parts = (value_at_place parts left left_in sorted.2, value_at_place parts right (with_tree_has lefts right).is_in sorted.3);
      number = tt;
      flat = tt;
    })
kept_tree terms (KindOf value) kept sorted =
    let parts : List Term = with_tree terms value in
    kept_more parts (Kind (tree_place parts value)) (kept_tree terms value kept sorted.0) (record {
      parts = value_at_place parts value (with_tree_has terms value).is_in sorted.1;
      number = tt;
      flat = tt;
    })
kept_tree terms (Unheld store value) kept sorted =
    let stored : List Term = with_tree terms store in
    let parts : List Term = with_tree stored value in
    let store_in : IsIn parts store = stays stored store value (with_tree_has terms store).is_in in
    kept_more parts (Una (tree_place parts store) (tree_place parts value)) (kept_tree stored value (kept_tree terms store kept sorted.0) sorted.1) (record {
      parts = (store_at_place parts store store_in sorted.2, value_at_place parts value (with_tree_has stored value).is_in sorted.3);
      number = tt;
      flat = tt;
    })

pub kept_trees : (terms : List Term) (trees : List Tree) → IsKept terms → AllByRecursion IsSorted trees → IsKept (with_trees terms trees)
kept_trees terms [] kept sorted = kept
kept_trees terms (tree ∷ trees) kept sorted = kept_trees (with_tree terms tree) trees (kept_tree terms tree kept sorted.0) sorted.1
