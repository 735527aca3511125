-- The clauses of an obligation are over its list of terms.
use Rattle.std.proofs.Common.{◌≡◌, true, List, length, sym, subst}
use Rattle.std.specs.List.{flat_map, AllByRecursion}
use Rattle.rh_axioms.specs.Rows.{all_schemas}
use Rattle.rh_axioms.proofs.Within.{instances_fit}
use Rattle.rh_meaning.specs.Literal.{TreeLit, TreeClause, clause_trees, literal_trees}
use Rattle.rh_meaning.specs.Sorts.{IsSorted}
use Rattle.rh_oblig.specs.Obligation.{obligation_clauses}
use Rattle.rh_oblig.specs.TermList.{term_list}
use Rattle.rh_oblig.proofs.Bridge.{obligation_within}
use Rattle.rh_oblig.proofs.Leaves.{trees_sorted}
use Rattle.rh_rule.specs.declared.rule.Form.{Form}
use Rattle.rh_rule.specs.declared.schema.Param.{Param}
use Rattle.rh_term.specs.declared.term.Term.{Term}
use Rattle.rh_term.specs.Clause.{are_within}
use Rattle.rh_term.specs.Term.{IsTermList}

listed_fit : (params : List Param) (pattern : Form) (hypotheses : List TreeClause) (goal : TreeLit)
    → AllByRecursion IsSorted (flat_map clause_trees hypotheses) → AllByRecursion IsSorted (literal_trees goal) → IsTermList (term_list params pattern hypotheses goal)
    → are_within (length (term_list params pattern hypotheses goal)) (obligation_clauses (term_list params pattern hypotheses goal) hypotheses goal) ≡ true
listed_fit params pattern hypotheses goal known denied list =
    obligation_within params pattern hypotheses goal _ list (trees_sorted params pattern hypotheses goal known denied)
    (instances_fit (term_list params pattern hypotheses goal) list all_schemas)

pub clauses_fit : (terms : List Term) (params : List Param) (pattern : Form) (hypotheses : List TreeClause) (goal : TreeLit) → terms ≡ term_list params pattern hypotheses goal
    → AllByRecursion IsSorted (flat_map clause_trees hypotheses) → AllByRecursion IsSorted (literal_trees goal) → IsTermList terms
    → are_within (length terms) (obligation_clauses terms hypotheses goal) ≡ true
clauses_fit terms params pattern hypotheses goal is known denied list =
    subst (λ listed. are_within (length listed) (obligation_clauses listed hypotheses goal) ≡ true) (sym is)
    (listed_fit params pattern hypotheses goal known denied (subst IsTermList is list))
