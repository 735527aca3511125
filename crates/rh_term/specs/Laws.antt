-- What open partitions say of models.
use Rattle.std.specs.Prelude.{◌≡◌, ℕ, zero, suc, ◌+◌, Bool, List, [], ◌∷◌, ◌++◌, Some, map, IsTrue, length, slice_get, if◌then◌else◌}
use Rattle.std.specs.List.{range_with_len}
use Rattle.rh_term.specs.declared.clause.Lit.{Lit}
use Rattle.rh_term.specs.declared.clause.Clause.{Clause}
use Rattle.rh_term.specs.declared.term.Term.{Term}
use Rattle.rh_term.specs.Clause.{Sameness, is_true_lit, are_true, opposite, are_within}
use Rattle.rh_term.specs.Model.{Model, denotations, denotation_at, denotation_in, same_in}
use Rattle.rh_term.specs.Partition.{IsOpen, HasNoOpenPartition}
use Rattle.rh_term.specs.Term.{IsTermList}

-- the least of n places, the first of which is given, that passes the test, or the place after them
abbrev pub least : (ℕ → Bool) → ℕ → ℕ → ℕ
least test first zero = first
least test first (suc n) = if test first then first else least test (first + 1) n

-- for each of n places the least that is one with it
abbrev pub labels_of : Sameness → ℕ → List ℕ
labels_of same n = map (λ i. least (λ j. same j i) 0 i) (range_with_len 0 n)

-- the labels of a model: for each term the least place of a term that stands for the same
abbrev pub labels_in : Model → List Term → List ℕ
labels_in model terms = labels_of (same_in model terms) (length terms)

-- the clause that says the opposite of a goal
abbrev pub denial : Lit → Clause
denial goal = record { lits = opposite goal ∷ [] }

-- in a list of terms each stands for what its parts make of it
abbrev pub PartsDecide : Type 0
PartsDecide =
    (model : Model) (terms : List Term) → IsTermList terms → (place : ℕ) (term : Term) → slice_get terms place ≡ Some term
    → denotation_at (denotations model terms) place ≡ denotation_in model (denotations model terms) term

-- a model in which each clause is true gives an open partition
abbrev pub ModelsAreOpen : Type 0
ModelsAreOpen =
    (model : Model) (terms : List Term) (clauses : List Clause) → IsTermList terms
    → IsTrue (are_within (length terms) clauses) → IsTrue (are_true (same_in model terms) clauses)
    → IsOpen terms clauses (labels_in model terms)

-- where no partition is open, the goal is true in each model in which the other clauses are
abbrev pub GoalsHold : Type 0
GoalsHold =
    (model : Model) (terms : List Term) (known : List Clause) (goal : Lit) → IsTermList terms
    → IsTrue (are_within (length terms) (known ++ denial goal ∷ [])) → HasNoOpenPartition terms (known ++ denial goal ∷ [])
    → IsTrue (are_true (same_in model terms) known) → IsTrue (is_true_lit (same_in model terms) goal)
