-- Literals and clauses over trees, with the places of the trees in a list of terms.
use Rattle.std.specs.Prelude.{List, map}
use Rattle.rh_term.specs.declared.clause.Clause.{Clause}
use Rattle.rh_term.specs.declared.clause.Lit.{Lit}
use Rattle.rh_term.specs.declared.term.Term.{Term}
use Rattle.rh_meaning.specs.Literal.{TreeLit, TreeClause}
use Rattle.rh_meaning.specs.Tree.{tree_place}

-- a literal over trees, with their places in a list of terms
abbrev pub lit_in : List Term → TreeLit → Lit
lit_in terms lit = record { left = tree_place terms lit.left; right = tree_place terms lit.right; equal = lit.equal }

abbrev pub clause_in : List Term → TreeClause → Clause
clause_in terms clause = record { lits = map (lit_in terms) clause }

abbrev pub clauses_in : List Term → List TreeClause → List Clause
clauses_in terms clauses = map (clause_in terms) clauses
