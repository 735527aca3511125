-- Instances as clauses.
use Rattle.std.specs.Prelude.{ℕ, true, false, List, [], ◌∷◌, Option, Some, None}
use Rattle.rh_axioms.specs.declared.instance.Instance.{Instance}
use Rattle.rh_axioms.specs.declared.instance.Instance.TheVariants.{One, Two, Three}
use Rattle.rh_term.specs.declared.clause.Lit.{Lit}
use Rattle.rh_term.specs.declared.clause.Clause.{Clause}

abbrev pub equal : ℕ → ℕ → Lit
equal left right = record { left = left; right = right; equal = true }

abbrev pub differ : ℕ → ℕ → Lit
differ left right = record { left = left; right = right; equal = false }

abbrev pub lits_of : Instance → List Lit
lits_of (One a) = a ∷ []
lits_of (Two a b) = a ∷ b ∷ []
lits_of (Three a b c) = a ∷ b ∷ c ∷ []

abbrev pub clause_of : Instance → Clause
clause_of instance = record { lits = lits_of instance }

-- the clause, where there is an instance
abbrev pub clauses_of : Option Instance → List Clause
clauses_of None = []
clauses_of (Some instance) = clause_of instance ∷ []
