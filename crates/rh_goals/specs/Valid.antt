-- When an obligation holds.
use Rattle.std.specs.Prelude.{IsTrue, List}
use Rattle.std.specs.List.{All}
use Rattle.rh_rule.specs.declared.rule.Rule.{Rule}
use Rattle.rh_rule.specs.declared.schema.Schema.{Schema}
use Rattle.rh_term.specs.Model.{Model, IsModel}
use Rattle.rh_meaning.specs.Denotation.{are_true_in, is_true_in}
use Rattle.rh_meaning.specs.Literal.{TreeLit, TreeClause}
use Rattle.rh_goals.specs.Hypotheses.{hypotheses}
use Rattle.rh_goals.specs.Goals.{goals}

-- the goal is true in every model of the hypotheses
abbrev pub IsValid : List TreeClause → TreeLit → Type 0
IsValid hypotheses goal = (model : Model) → IsModel model → IsTrue (are_true_in model hypotheses) → IsTrue (is_true_in model goal)

-- each obligation of the rule holds
abbrev pub IsSound : List Schema → Rule → Type 0
IsSound schemas rule = All (IsValid (hypotheses schemas rule)) (goals schemas rule)
