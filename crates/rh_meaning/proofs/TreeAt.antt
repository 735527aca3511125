-- The tree at a place of a list of terms stands there.
use Rattle.std.proofs.Common.{ℕ, zero, suc, ◌≡◌, ◌<◌, true, List, [], length, take, Some, ap, subst, ◌∙◌, arith}
use Rattle.std.specs.Prelude.{slice_get, slice_index_or}
use Rattle.std.proofs.lemmas.Option.{slice_get-get_or}
use Rattle.std.proofs.lemmas.List.{length-take}
use Rattle.rh_term.specs.declared.term.Term.{Term}
use Rattle.rh_term.specs.declared.term.Term.TheVariants.{Num, Cst, Addr, Any, Fresh, Answer, Before, After, Start, Sel, Upd, Op as Computed, Kind, IsNum, IsPtr, Una, Yes}
use Rattle.rh_term.specs.Term.{IsTermList, HasParts, is_store_at, is_store_term, is_value_at, is_value_term}
use Rattle.rh_term.proofs.Known.{part_within}
use Rattle.rh_meaning.specs.Atoms.{StandsAt, tree_at, tree_of_term, tree_within}
use Rattle.rh_meaning.specs.Tree.{Tree, Leaf, place_of, tree_place}
use Rattle.rh_meaning.proofs.Denotes.{HasBareLeaves}
use Rattle.rh_meaning.proofs.Places.{place_found, place_most}
use Rattle.rh_meaning.proofs.Sorted.{absent}

-- a tree stands at a place, and its leaves have no parts
pub record IsTreeAt (terms : List Term) (place : ℕ) (tree : Tree) : Type 0 where
  pub stands : StandsAt terms place tree
  pub bare : HasBareLeaves tree

module _ (terms : List Term) (list : IsTermList terms) where
  -- a term has one place
  term_place : (place : ℕ) (term : Term) → slice_get terms place ≡ Some term → (place ≡ place_of terms term) × (place_of terms term < length terms)
  term_place place term stands =
      let most = place_most terms term in
      let here : place_of terms term ≡ length terms → ⊥ = λ end. absent terms term end place stands in
      let within : place_of terms term < length terms = omega (arith, most, here) in
      (list.different place (place_of terms term) term stands (place_found terms term within), within)

  head_place : (place : ℕ) (term same : Term) → slice_get terms place ≡ Some term → term ≡ same → (place ≡ place_of terms same) × (place_of terms same < length terms)
  head_place place term same stands is = subst (λ (t : Term). (place ≡ place_of terms t) × (place_of terms t < length terms)) is (term_place place term stands)

  leaf_at : (place : ℕ) (term : Term) → slice_get terms place ≡ Some term → HasParts [] term → IsTreeAt terms place (Leaf term)
  leaf_at place term stands bare = let at = term_place place term stands in record { stands = record { is_in = at.1; here = at.0 }; bare = bare }

  module _ (place : ℕ) (part : ℕ → Tree) (before : (p : ℕ) → p < place → IsTreeAt terms p (part p)) where
    store_part : (p : ℕ) → is_store_at (take place terms) p ≡ true → IsTreeAt terms p (part p)
    store_part p is = before p (omega (arith, part_within is_store_term (take place terms) p is, length-take place terms))

    value_part : (p : ℕ) → is_value_at (take place terms) p ≡ true → IsTreeAt terms p (part p)
    value_part p is = before p (omega (arith, part_within is_value_term (take place terms) p is, length-take place terms))

    of_term : (term : Term) → slice_get terms place ≡ Some term → HasParts (take place terms) term → IsTreeAt terms place (tree_of_term part term)
    of_term (Num number) stands parts = leaf_at place (Num number) stands tt
    of_term (Cst meta) stands parts = leaf_at place (Cst meta) stands tt
    of_term (Addr meta) stands parts = leaf_at place (Addr meta) stands tt
    of_term Any stands parts = leaf_at place Any stands tt
    of_term Fresh stands parts = leaf_at place Fresh stands tt
    of_term Answer stands parts = leaf_at place Answer stands tt
    of_term Before stands parts = leaf_at place Before stands tt
    of_term After stands parts = leaf_at place After stands tt
    of_term Start stands parts = leaf_at place Start stands tt
    of_term IsNum stands parts = leaf_at place IsNum stands tt
    of_term IsPtr stands parts = leaf_at place IsPtr stands tt
    of_term Yes stands parts = leaf_at place Yes stands tt
    of_term (Sel store address) stands parts =
        let one = store_part store parts.0 in
        let two = value_part address parts.1 in
        let head = head_place place (Sel store address) _ stands (ap (λ p. Sel p address) one.stands.here ∙ ap (λ q. Sel (tree_place terms (part store)) q) two.stands.here) in
        record { stands = record { is_in = (one.stands.is_in, two.stands.is_in, head.1); here = head.0 }; bare = (one.bare, two.bare) }
    of_term (Una store value) stands parts =
        let one = store_part store parts.0 in
        let two = value_part value parts.1 in
        let head = head_place place (Una store value) _ stands (ap (λ p. Una p value) one.stands.here ∙ ap (λ q. Una (tree_place terms (part store)) q) two.stands.here) in
        record { stands = record { is_in = (one.stands.is_in, two.stands.is_in, head.1); here = head.0 }; bare = (one.bare, two.bare) }
    of_term (Computed op left right) stands parts =
        let one = value_part left parts.0 in
        let two = value_part right parts.1 in
        let head = head_place place (Computed op left right) _ stands (ap (λ p. Computed op p right) one.stands.here ∙ ap (λ q. Computed op (tree_place terms (part left)) q) two.stands.here) in
        record { stands = record { is_in = (one.stands.is_in, two.stands.is_in, head.1); here = head.0 }; bare = (one.bare, two.bare) }
    of_term (Kind value) stands parts =
        let one = value_part value parts in
        let head = head_place place (Kind value) _ stands (ap Kind one.stands.here) in
        record { stands = record { is_in = (one.stands.is_in, head.1); here = head.0 }; bare = one.bare }
    of_term (Upd store address value) stands parts =
        let one = store_part store parts.0 in
        let two = value_part address parts.1 in
        let three = value_part value parts.2 in
        let head = head_place place (Upd store address value) _ stands
        (ap (λ p. Upd p address value) one.stands.here
        ∙ ap (λ q. Upd (tree_place terms (part store)) q value) two.stands.here
        ∙ ap (λ r. Upd (tree_place terms (part store)) (tree_place terms (part address)) r) three.stands.here) in
        record { stands = record { is_in = (one.stands.is_in, two.stands.is_in, three.stands.is_in, head.1); here = head.0 }; bare = (one.bare, two.bare, three.bare) }

  within_at : (depth place : ℕ) → place < depth → place < length terms → IsTreeAt terms place (tree_within terms depth place)
  within_at zero place deep within = absurd (omega (arith, deep))
  within_at (suc depth) place deep within =
      let term : Term = slice_index_or terms place Yes in
      let stands : slice_get terms place ≡ Some term = slice_get-get_or terms place Yes within in
      of_term place (tree_within terms depth) (λ p before. within_at depth p (omega (arith, deep, before)) (omega (arith, within, before))) term stands (list.parts place term stands)

  pub tree_at_place : (place : ℕ) → place < length terms → IsTreeAt terms place (tree_at terms place)
  tree_at_place place within = within_at (suc place) place (omega arith) within

  -- the tree of a store
  pub store_tree_at : (place : ℕ) → is_store_at terms place ≡ true → IsTreeAt terms place (tree_at terms place)
  store_tree_at place is = tree_at_place place (part_within is_store_term terms place is)
