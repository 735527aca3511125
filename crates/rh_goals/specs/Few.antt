-- How many hypotheses and terms there are at most.
use Rattle.std.specs.Prelude.{ℕ, ◌≤◌, List, length}
use Rattle.std.specs.List.{AllByRecursion, sum_by}
use Rattle.rh_meaning.specs.Literal.{TreeClause}
use Rattle.rh_meaning.specs.Sorts.{tree_size}
use Rattle.rh_meaning.specs.Tree.{Tree}

-- hypotheses of a rule: so few of them, and so short
pub record AreFewClauses (clauses : List TreeClause) : Type 0 where
  pub few : length clauses ≤ 100
  pub short : AllByRecursion (λ (clause : TreeClause). length clause ≤ 3) clauses

-- how many terms trees have at most
abbrev pub trees_size : List Tree → ℕ
trees_size trees = sum_by tree_size trees
