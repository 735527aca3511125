-- What stands where in a list of terms, and that it stands within the list.
use Rattle.std.proofs.Common.{◌≡◌, ℕ, zero, suc, ◌<◌, Bool, true, IsTrue, List, [], ◌∷◌, Option, Some, None, length, take, slice_get, refl, ap, subst, ◌∙◌}
use Rattle.std.specs.Option.{option_and_then}
use Rattle.std.proofs.lemmas.Option.{slice_get_within}
use Rattle.rh_term.specs.declared.term.Term.{Term}
use Rattle.rh_term.specs.declared.term.Term.TheVariants.{Upd}
use Rattle.rh_term.specs.Place.{place_in}
use Rattle.rh_term.specs.Term.{IsTermList, HasParts, is_at, is_value_term, is_store_term}
use Rattle.rh_term.proofs.Placed.{place_stands}
use Rattle.rh_axioms.specs.Parts.{as_upd}
use Rattle.rh_axioms.proofs.Inverse.{upd_of}

-- a term that passes the test stands at the place
pub record Stands (test : Term → Bool) (terms : List Term) (place : ℕ) : Type 0 where
  pub term : Term
  pub there : slice_get terms place ≡ Some term
  pub passes : test term ≡ true

later : (test : Term → Bool) (first : Term) (terms : List Term) (place : ℕ) → Stands test terms place → Stands test (first ∷ terms) (suc place)
later test first terms place h = record { term = h.term; there = h.there; passes = h.passes }

pub in_front : (test : Term → Bool) (k : ℕ) (terms : List Term) (place : ℕ) → is_at test (take k terms) place ≡ true → Stands test terms place
in_front test zero terms place e = cc
in_front test (suc k) [] place e = cc
in_front test (suc k) (first ∷ terms) zero e = record { term = first; there = refl; passes = e }
in_front test (suc k) (first ∷ terms) (suc place) e = later test first terms place (in_front test k terms place e)

module _ (terms : List Term) (list : IsTermList terms) where
  pub value_there : (k place : ℕ) → IsTrue (is_at is_value_term (take k terms) place) → place < length terms
  value_there k place e = let h = in_front is_value_term k terms place e in slice_get_within terms place h.term h.there

  pub store_there : (k place : ℕ) → IsTrue (is_at is_store_term (take k terms) place) → place < length terms
  store_there k place e = let h = in_front is_store_term k terms place e in slice_get_within terms place h.term h.there

  pub parts_at : (k : ℕ) (term pattern : Term) → slice_get terms k ≡ Some term → term ≡ pattern → HasParts (take k terms) pattern
  parts_at k term pattern there e = subst (HasParts (take k terms)) e (list.parts k term there)

  pub found_there : (term : Term) (place : ℕ) → place_in terms term ≡ Some place → place < length terms
  found_there term place e = slice_get_within terms place term (place_stands terms term place e)

-- the write that stands at a place
pub record Written (terms : List Term) (place : ℕ) (write : ℕ × ℕ × ℕ) : Type 0 where
  pub there : slice_get terms place ≡ Some (Upd write.0 write.1 write.2)

pub written : (terms : List Term) (place : ℕ) (write : ℕ × ℕ × ℕ) (found : Option Term) → slice_get terms place ≡ found
    → option_and_then as_upd found ≡ Some write → Written terms place write
written terms place write None h e = cc
written terms place write (Some term) h e = record { there = h ∙ ap Some (upd_of term write e) }
