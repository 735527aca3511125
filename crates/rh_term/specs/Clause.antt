-- Literals and clauses, where a relation says which terms are one.
use Rattle.std.specs.Prelude.{ℕ, Bool, not, ◌&&◌, nat_lt, List, if◌then◌else◌}
use Rattle.std.specs.List.{list_any, list_all}
use Rattle.rh_term.specs.declared.clause.Lit.{Lit}
use Rattle.rh_term.specs.declared.clause.Clause.{Clause}

-- which terms, by their places, are one
abbrev pub Sameness : Type 0
Sameness = ℕ → ℕ → Bool

-- an equation is true of terms that are one, and its opposite of terms that are not
abbrev pub is_true_lit : Sameness → Lit → Bool
is_true_lit same lit = if lit.equal then same lit.left lit.right else not (same lit.left lit.right)

-- a clause is true where one of its literals is
abbrev pub is_true_clause : Sameness → Clause → Bool
is_true_clause same clause = list_any (is_true_lit same) clause.lits

-- each of the clauses is true
abbrev pub are_true : Sameness → List Clause → Bool
are_true same clauses = list_all (is_true_clause same) clauses

-- the opposite of a literal
abbrev pub opposite : Lit → Lit
opposite lit = record lit { equal = not lit.equal }

-- each literal names two of n terms
abbrev pub is_within : ℕ → Lit → Bool
is_within n lit = nat_lt lit.left n && nat_lt lit.right n

abbrev pub are_within : ℕ → List Clause → Bool
are_within n clauses = list_all (λ clause. list_all (is_within n) clause.lits) clauses
