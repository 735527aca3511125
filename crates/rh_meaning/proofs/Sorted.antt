-- Trees of the right sorts keep lists of terms as they have to be.
use Rattle.std.proofs.Common.{ℕ, zero, suc, ◌≡◌, ◌<◌, ◌≤◌, Bool, true, false, ◌==◌, if◌then◌else◌, List, [], ◌∷◌, ◌++◌, length, take, drop, Option, Some, None, refl, ap, sym, subst, ◌∙◌, arith, inl, inr, ◌⊎◌}
use Rattle.std.proofs.lemmas.List.{take-append-drop}
use Rattle.std.specs.Prelude.{slice_get}
use Rattle.std.specs.Option.{option_map_or}
use Rattle.std.proofs.lemmas.Bool.{eqb-true, eqb-false}
use Rattle.rh_term.specs.declared.term.Term.{Term}
use Rattle.rh_term.specs.declared.term.Term.TheVariants.{Num, Cst, Addr, Any, Fresh, Answer, Before, After, Start, Sel, Upd, Op as Computed, Kind, IsNum, IsPtr, Una, Yes}
use Rattle.rh_term.specs.Term.{is_value_term, is_store_term, is_at, is_value_at, is_store_at, HasParts, IsTermList, IsAdded}
use Rattle.rh_term.proofs.Listed.{grown}
use Rattle.rh_meaning.specs.Sorts.{IsIn, is_value_tree, is_store_tree}
use Rattle.rh_meaning.specs.Tree.{Extends, Tree, Leaf, Select, Update, Compute, KindOf, Unheld, place_of, tree_place, with_term}
use Rattle.rh_term.specs.Place.{same_term}
use Rattle.rh_meaning.proofs.Places.{place_found, place_most}
use Rattle.rh_term.proofs.Placed.{same_term-refl}

-- what a tree in a list is the head of stands at its place
pub at_place : (test : Term → Bool) (terms : List Term) (place : ℕ) (term : Term) → slice_get terms place ≡ Some term → test term ≡ true → is_at test terms place ≡ true
at_place test terms place term stands passes = ap (λ o. option_map_or test o false) stands ∙ passes

pub value_at_place : (terms : List Term) (tree : Tree) → IsIn terms tree → is_value_tree tree ≡ true → is_value_at terms (tree_place terms tree) ≡ true
value_at_place terms (Leaf term) is_in v = at_place is_value_term terms _ term (place_found terms term is_in) v
value_at_place terms (Select store address) is_in v = at_place is_value_term terms _ _ (place_found terms _ is_in.2) refl
value_at_place terms (Compute op left right) is_in v = at_place is_value_term terms _ _ (place_found terms _ is_in.2) refl
value_at_place terms (Update store address value) is_in v = cc
value_at_place terms (KindOf value) is_in v = cc
value_at_place terms (Unheld store value) is_in v = cc

pub store_at_place : (terms : List Term) (tree : Tree) → IsIn terms tree → is_store_tree tree ≡ true → is_store_at terms (tree_place terms tree) ≡ true
store_at_place terms (Leaf term) is_in v = at_place is_store_term terms _ term (place_found terms term is_in) v
store_at_place terms (Update store address value) is_in v = at_place is_store_term terms _ _ (place_found terms _ is_in.3) refl
store_at_place terms (Select store address) is_in v = cc
store_at_place terms (Compute op left right) is_in v = cc
store_at_place terms (KindOf value) is_in v = cc
store_at_place terms (Unheld store value) is_in v = cc

-- a term without parts has them in every list
pub leaf_parts : (terms : List Term) (term : Term) → HasParts [] term → HasParts terms term
leaf_parts terms (Num number) h = tt
leaf_parts terms (Cst meta) h = tt
leaf_parts terms (Addr meta) h = tt
leaf_parts terms Any h = tt
leaf_parts terms Fresh h = tt
leaf_parts terms Answer h = tt
leaf_parts terms Before h = tt
leaf_parts terms After h = tt
leaf_parts terms Start h = tt
leaf_parts terms IsNum h = tt
leaf_parts terms IsPtr h = tt
leaf_parts terms Yes h = tt
leaf_parts terms (Sel store address) h = let no = h.0 in cc
leaf_parts terms (Upd store address value) h = let no = h.0 in cc
leaf_parts terms (Computed op left right) h = let no = h.0 in cc
leaf_parts terms (Kind value) h = let no = h in cc
leaf_parts terms (Una store value) h = let no = h.0 in cc

-- a term that stands in the list has a place in it
step_absent : (test : Bool) (p : ℕ) (terms : List Term) (listed term : Term) (place : ℕ) → (listed ≡ term → test ≡ true)
    → (slice_get terms place ≡ Some term → p ≡ length terms → ⊥) → slice_get terms place ≡ Some term → (if test then 0 else suc p) ≡ suc (length terms) → ⊥
step_absent true p terms listed term place same below stands e = omega arith
step_absent false p terms listed term place same below stands e = below stands (omega arith)

step_first : (test : Bool) (p n : ℕ) (listed term : Term) → (listed ≡ term → test ≡ true) → Some listed ≡ Some term → (if test then 0 else suc p) ≡ suc n → ⊥
step_first true p n listed term same stands e = omega arith
step_first false p n listed term same stands e = let listed_is : listed ≡ term = cc in let yes = same listed_is in cc

pub absent : (terms : List Term) (term : Term) → place_of terms term ≡ length terms → (place : ℕ) → slice_get terms place ≡ Some term → ⊥
absent [] term e place stands = cc
absent (listed ∷ terms) term e zero stands =
    step_first (same_term listed term) (place_of terms term) (length terms) listed term (λ same. subst (λ (t : Term). same_term listed t ≡ true) same (same_term-refl listed)) stands e
absent (listed ∷ terms) term e (suc place) stands =
    step_absent (same_term listed term) (place_of terms term) terms listed term place (λ same. subst (λ (t : Term). same_term listed t ≡ true) same (same_term-refl listed))
    (λ s p. absent terms term p place s) stands e

-- ---- parts that stand in a list stand in a longer one

get_longer : (terms more : List Term) (place : ℕ) (term : Term) → slice_get terms place ≡ Some term → slice_get (terms ++ more) place ≡ Some term
get_longer [] more place term e = cc
get_longer (listed ∷ terms) more zero term e = e
get_longer (listed ∷ terms) more (suc place) term e = get_longer terms more place term e

at_longer_cases : (test : Term → Bool) (o p : Option Term) → ((term : Term) → o ≡ Some term → p ≡ Some term) → option_map_or test o false ≡ true → option_map_or test p false ≡ true
at_longer_cases test None p keeps h = cc
at_longer_cases test (Some term) p keeps h = ap (λ o. option_map_or test o false) (keeps term refl) ∙ h

pub at_longer : (test : Term → Bool) (terms more : List Term) (place : ℕ) → is_at test terms place ≡ true → is_at test (terms ++ more) place ≡ true
at_longer test terms more place h = at_longer_cases test (slice_get terms place) (slice_get (terms ++ more) place) (get_longer terms more place) h

pub parts_longer : (terms more : List Term) (term : Term) → HasParts terms term → HasParts (terms ++ more) term
parts_longer terms more (Sel store address) h = (at_longer is_store_term terms more store h.0, at_longer is_value_term terms more address h.1)
parts_longer terms more (Upd store address value) h =
    (at_longer is_store_term terms more store h.0, at_longer is_value_term terms more address h.1, at_longer is_value_term terms more value h.2)
parts_longer terms more (Computed op left right) h = (at_longer is_value_term terms more left h.0, at_longer is_value_term terms more right h.1)
parts_longer terms more (Kind value) h = at_longer is_value_term terms more value h
parts_longer terms more (Una store value) h = (at_longer is_store_term terms more store h.0, at_longer is_value_term terms more value h.1)
parts_longer terms more (Num number) h = tt
parts_longer terms more (Cst meta) h = tt
parts_longer terms more (Addr meta) h = tt
parts_longer terms more Any h = tt
parts_longer terms more Fresh h = tt
parts_longer terms more Answer h = tt
parts_longer terms more Before h = tt
parts_longer terms more After h = tt
parts_longer terms more Start h = tt
parts_longer terms more IsNum h = tt
parts_longer terms more IsPtr h = tt
parts_longer terms more Yes h = tt

pub parts_in : (old new : List Term) (term : Term) → Extends old new → HasParts old term → HasParts new term
parts_in old new term grown parts = subst (λ (terms : List Term). HasParts terms term) (sym grown.is) (parts_longer old grown.more term parts)

-- the parts of a term that stands in a list of terms stand there
pub parts_here : (terms : List Term) (place : ℕ) (term : Term) → IsTermList terms → slice_get terms place ≡ Some term → HasParts terms term
parts_here terms place term list stands =
    subst (λ (t : List Term). HasParts t term) (take-append-drop place terms) (parts_longer (take place terms) (drop place terms) term (list.parts place term stands))

-- ---- one more term, as the list of the code takes it

-- a number is below another or not
below_or_not : (a b : ℕ) → (a < b) ⊎ (b ≤ a)
below_or_not zero zero = inr (omega arith)
below_or_not zero (suc b) = inl (omega arith)
below_or_not (suc a) zero = inr (omega arith)
below_or_not (suc a) (suc b) = elim (below_or_not a b) [ inl h ↦ inl (omega arith) | inr h ↦ inr (omega arith) ]

added_cases : (test : Bool) (old new : List Term) (term : Term) (place : ℕ) → (place_of old term == length old) ≡ test → IsTermList new → IsAdded old new term place
    → new ≡ (if test then old ++ term ∷ [] else old)
added_cases true old new term place e list is_added =
    elim (below_or_not place (length old)) [
      | inl before ↦ absurd (absent old term (eqb-true (place_of old term) (length old) e) place (subst (λ (t : List Term). slice_get t place ≡ Some term) (is_added.was_there before) is_added.stands))
      | inr after ↦ is_added.was_new after
    ]
added_cases false old new term place e list is_added =
    elim (below_or_not place (length old)) [
      | inl before ↦ is_added.was_there before
      | inr after ↦
          let most = place_most old term in
          let ne = eqb-false (place_of old term) (length old) e in
          let within : place_of old term < length old = omega arith in
          let stands : slice_get new (place_of old term) ≡ Some term =
          subst (λ (t : List Term). slice_get t (place_of old term) ≡ Some term) (sym (is_added.was_new after)) (get_longer old (term ∷ []) (place_of old term) term (place_found old term within)) in
          let one : place_of old term ≡ place = list.different (place_of old term) place term stands is_added.stands in
          absurd (omega arith)
    ]

pub added_term : (old new : List Term) (term : Term) (place : ℕ) → IsTermList new → IsAdded old new term place → new ≡ with_term old term
added_term old new term place list is_added = added_cases (place_of old term == length old) old new term place refl list is_added
