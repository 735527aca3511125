-- Clauses over a list of terms, and the clauses of an obligation.
use Rattle.std.specs.Prelude.{ℕ, ◌<◌, ◌^◌, nat_lt, List, [], ◌∷◌, ◌++◌, Option, map, find, length}
use Rattle.rh_term.specs.declared.obligation.Obligation.{Obligation}
use Rattle.rh_term.specs.declared.clause.Clause.{Clause}
use Rattle.rh_term.specs.declared.term.Term.{Term}
use Rattle.std.specs.List.{All}
use Rattle.rh_axioms.specs.Rows.{all_schemas, instances_of}
use Rattle.rh_rule.specs.declared.rule.Rule.{Rule}
use Rattle.rh_rule.specs.declared.schema.Schema.{Schema}
use Rattle.rh_term.specs.Laws.{denial}
use Rattle.rh_term.specs.Partition.{HasNoOpenPartition}
use Rattle.rh_meaning.specs.Literal.{TreeLit, TreeClause}
use Rattle.rh_meaning.specs.Placed.{clauses_in, lit_in}
use Rattle.rh_goals.specs.Goals.{goals}
use Rattle.rh_goals.specs.Hypotheses.{hypotheses}
use Rattle.rh_oblig.specs.TermList.{term_list}

-- what an obligation over a list of terms takes for granted: the hypotheses, and all instances of the
-- clause schemas
abbrev pub known_clauses : List Term → List TreeClause → List Clause
known_clauses terms hypotheses = clauses_in terms hypotheses ++ instances_of all_schemas terms

-- the clauses of an obligation: those, and the denied goal
abbrev pub obligation_clauses : List Term → List TreeClause → TreeLit → List Clause
obligation_clauses terms hypotheses goal = known_clauses terms hypotheses ++ denial (lit_in terms goal) ∷ []

-- the list of terms of a goal of a rule
abbrev pub terms_of : List Schema → Rule → TreeLit → List Term
terms_of schemas rule goal = term_list rule.params rule.pattern (hypotheses schemas rule) goal

abbrev pub clauses_for : List Schema → Rule → TreeLit → List Clause
clauses_for schemas rule goal = obligation_clauses (terms_of schemas rule goal) (hypotheses schemas rule) goal

-- the obligation of a goal has no open partition
abbrev pub IsShown : List Schema → Rule → TreeLit → Type 0
IsShown schemas rule goal = HasNoOpenPartition (terms_of schemas rule goal) (clauses_for schemas rule goal)

-- the rule is proved where none of its obligations has an open partition
abbrev pub IsAdmitted : List Schema → Rule → Type 0
IsAdmitted schemas rule = All (IsShown schemas rule) (goals schemas rule)

-- the obligations of a rule, one for each goal in order: its list of terms and its clauses
abbrev pub obligations_of : List Schema → Rule → List (List Term × List Clause)
obligations_of schemas rule = map (λ goal. (terms_of schemas rule goal, clauses_for schemas rule goal)) (goals schemas rule)

-- fewer than 2^32 clauses, each of fewer than 2^32 literals
pub record AreSmallClauses (clauses : List Clause) : Type 0 where
  pub few : length clauses < 2 ^ 32
  pub narrow : All (λ (clause : Clause). length clause.lits < 2 ^ 32) clauses

abbrev pub IsSmall : Obligation → Type 0
IsSmall obligation = AreSmallClauses obligation.clauses

-- the obligations that the code made
abbrev pub parts_of : List Obligation → List (List Term × List Clause)
parts_of obligations = map (λ obligation. (obligation.terms, obligation.clauses)) obligations

-- the number of terms of the first of the goals with more than 512
abbrev pub first_excess : List Schema → Rule → List TreeLit → Option ℕ
first_excess schemas rule goals = find (nat_lt 512) (map (λ goal. length (terms_of schemas rule goal)) goals)

-- the number of terms of the first obligation of the rule with more than 512
abbrev pub excess : List Schema → Rule → Option ℕ
excess schemas rule = first_excess schemas rule (goals schemas rule)
