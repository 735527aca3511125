-- Places of terms in lists that grow at their ends.
use Rattle.std.proofs.Common.{suc, ℕ, ◌+◌, length-append, ◌≡◌, ◌<◌, ◌≤◌, Bool, true, false, ◌==◌, if◌then◌else◌, List, [], ◌∷◌, ◌++◌, length, Some, refl, ap, sym, subst, ◌∙◌, arith, append_assoc, append-nil}
use Rattle.std.specs.Prelude.{slice_get}
use Rattle.std.proofs.lemmas.Bool.{eqb-false}
use Rattle.rh_term.specs.declared.term.Term.{Term}
use Rattle.rh_term.specs.Place.{same_term}
use Rattle.rh_term.proofs.Placed.{same_term-true, same_term-refl}
use Rattle.rh_meaning.specs.Tree.{Extends, place_of, with_term}

pub extends_itself : (terms : List Term) → Extends terms terms
extends_itself terms = record { more = []; is = sym (append-nil terms) }

pub extends_further : {a b c : List Term} → Extends a b → Extends b c → Extends a c
extends_further {a} first second = record { more = first.more ++ second.more; is = second.is ∙ ap (λ terms. terms ++ second.more) first.is ∙ append_assoc a first.more second.more }

-- a term that stands in a list is found there
step_found : (test : Bool) (terms : List Term) (listed term : Term) → (test ≡ true → listed ≡ term)
    → (place_of terms term < length terms → slice_get terms (place_of terms term) ≡ Some term)
    → (if test then 0 else suc (place_of terms term)) < suc (length terms)
    → slice_get (listed ∷ terms) (if test then 0 else suc (place_of terms term)) ≡ Some term
step_found true terms listed term is found within = ap Some (is refl)
step_found false terms listed term is found within = found (omega arith)

pub place_found : (terms : List Term) (term : Term) → place_of terms term < length terms → slice_get terms (place_of terms term) ≡ Some term
place_found [] term within = absurd (omega arith)
place_found (listed ∷ terms) term within = step_found (same_term listed term) terms listed term (same_term-true listed term) (place_found terms term) within

-- and at the same place in a longer one
step_longer : (test : Bool) (p q n : ℕ) → (p < n → q ≡ p) → (if test then 0 else suc p) < suc n → (if test then 0 else suc q) ≡ (if test then 0 else suc p)
step_longer true p q n same within = refl
step_longer false p q n same within = ap suc (same (omega arith))

pub place_longer : (terms more : List Term) (term : Term) → place_of terms term < length terms → place_of (terms ++ more) term ≡ place_of terms term
place_longer [] more term within = absurd (omega arith)
place_longer (listed ∷ terms) more term within = step_longer (same_term listed term) (place_of terms term) (place_of (terms ++ more) term) (length terms) (place_longer terms more term) within

step_most : (test : Bool) (p n : ℕ) → p ≤ n → (if test then 0 else suc p) ≤ suc n
step_most true p n most = omega arith
step_most false p n most = omega arith

pub place_most : (terms : List Term) (term : Term) → place_of terms term ≤ length terms
place_most [] term = omega arith
place_most (listed ∷ terms) term = step_most (same_term listed term) (place_of terms term) (length terms) (place_most terms term)

-- a term that was put at the end is found
step_last : (test : Bool) (p n : ℕ) → p < n → (if test then 0 else suc p) < suc n
step_last true p n last = omega arith
step_last false p n last = omega arith

pub place_last : (terms : List Term) (term : Term) → place_of (terms ++ term ∷ []) term < length (terms ++ term ∷ [])
place_last [] term = subst (λ (test : Bool). (if test then 0 else 1) < 1) (sym (same_term-refl term)) (omega arith)
place_last (listed ∷ terms) term = step_last (same_term listed term) (place_of (terms ++ term ∷ []) term) (length (terms ++ term ∷ [])) (place_last terms term)

-- a list with a term has it, and is the old one with at most the term behind it
with_cases : (test : Bool) (terms : List Term) (term : Term) → (test ≡ false → place_of terms term < length terms)
    → Extends terms (if test then terms ++ term ∷ [] else terms)
    × (place_of (if test then terms ++ term ∷ [] else terms) term < length (if test then terms ++ term ∷ [] else terms))
with_cases true terms term there = (record { more = term ∷ []; is = refl }, place_last terms term)
with_cases false terms term there = (extends_itself terms, there refl)

few_cases : (test : Bool) (terms : List Term) (term : Term) → length (if test then terms ++ term ∷ [] else terms) ≤ length terms + 1
few_cases true terms term = omega (arith, length-append terms (term ∷ []))
few_cases false terms term = omega arith

pub with_term_few : (terms : List Term) (term : Term) → length (with_term terms term) ≤ length terms + 1
with_term_few terms term = few_cases (place_of terms term == length terms) terms term

pub with_term_has : (terms : List Term) (term : Term) → Extends terms (with_term terms term) × (place_of (with_term terms term) term < length (with_term terms term))
with_term_has terms term = with_cases (place_of terms term == length terms) terms term
    (λ e. let most = place_most terms term in let ne = eqb-false (place_of terms term) (length terms) e in omega arith)
