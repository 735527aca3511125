-- What the search finds is fixed.
use Rattle.std.specs.Prelude.{◌≡◌, List}
use Rattle.rh_term.specs.declared.clause.Clause.{Clause}
use Rattle.rh_term.specs.declared.term.Term.{Term}
use Rattle.rh_refuter.specs.declared.search.Verdict.{Verdict}
use Rattle.rh_refuter.specs.Choice.{IsFound}

-- two verdicts that the search finds over the same terms and clauses are equal
abbrev pub OneVerdict : Type 0
OneVerdict = (terms : List Term) (clauses : List Clause) (one other : Verdict) → IsFound terms clauses one → IsFound terms clauses other → one ≡ other
