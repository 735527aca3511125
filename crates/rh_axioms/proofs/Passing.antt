-- What passes a test: each clause of a list, of what there may be, and of each term.
use Rattle.std.proofs.Common.{◌≡◌, ℕ, suc, ◌+◌, Bool, true, List, [], ◌∷◌, ◌++◌, Option, Some, None, slice_get, refl, subst, arith, ◌∙◌}
use Rattle.std.specs.List.{list_all, flat_map}
use Rattle.std.specs.Option.{option_and_then}
use Rattle.std.proofs.lemmas.Bool.{and_from}
use Rattle.std.proofs.lemmas.List.Folds.{list_all-append}
use Rattle.rh_term.specs.declared.clause.Clause.{Clause}
use Rattle.rh_term.specs.declared.term.Term.{Term}
use Rattle.rh_axioms.specs.declared.instance.Instance.{Instance}
use Rattle.rh_axioms.specs.Instance.{clause_of, clauses_of}
use Rattle.rh_axioms.specs.Rows.{each_from, each, of_some}

module _ (test : Clause → Bool) where
  abbrev pub AllPass : List Clause → Type 0
  AllPass clauses = list_all test clauses ≡ true

  abbrev pub Passes : Option Instance → Type 0
  Passes instance = AllPass (clauses_of instance)

  pub both_pass : (front behind : List Clause) → AllPass front → AllPass behind → AllPass (front ++ behind)
  both_pass front behind h k = list_all-append test front behind ∙ and_from (list_all test front) (list_all test behind) h k

  pub one_passes : (instance : Instance) → test (clause_of instance) ≡ true → Passes (Some instance)
  one_passes instance h = and_from (test (clause_of instance)) true h refl

  pub through : {A : Type 0} (found : Option A) (make : A → Option Instance) → ((a : A) → found ≡ Some a → Passes (make a)) → Passes (option_and_then make found)
  through None make h = refl
  through (Some a) make h = h a refl

  pub of_some_pass : {A : Type 0} (found : Option A) (make : A → List Clause) → ((a : A) → found ≡ Some a → AllPass (make a)) → AllPass (of_some found make)
  of_some_pass None make h = refl
  of_some_pass (Some a) make h = h a refl

  each_from_pass : (terms : List Term) (at : ℕ) (make : ℕ → Term → List Clause)
      → ((i : ℕ) (term : Term) → slice_get terms i ≡ Some term → AllPass (make (at + i) term)) → AllPass (each_from at terms make)
  each_from_pass [] at make h = refl
  each_from_pass (term ∷ terms) at make h =
      both_pass (make at term) (each_from (at + 1) terms make)
      (let e : at + 0 ≡ at = omega arith in subst (λ x. AllPass (make x term)) e (h 0 term refl))
      (each_from_pass terms (at + 1) make (λ i other there.
      let e : at + suc i ≡ at + 1 + i = omega arith in subst (λ x. AllPass (make x other)) e (h (suc i) other there)))

  pub each_pass : (terms : List Term) (make : ℕ → Term → List Clause) → ((i : ℕ) (term : Term) → slice_get terms i ≡ Some term → AllPass (make i term))
      → AllPass (each terms make)
  each_pass terms make h =
      each_from_pass terms 0 make (λ i term there. let e : i ≡ 0 + i = omega arith in subst (λ x. AllPass (make x term)) e (h i term there))

  pub flat_map_pass : {A : Type 0} (make : A → List Clause) (xs : List A) → ((x : A) → AllPass (make x)) → AllPass (flat_map make xs)
  flat_map_pass make [] h = refl
  flat_map_pass make (x ∷ xs) h = both_pass (make x) (flat_map make xs) (h x) (flat_map_pass make xs h)
