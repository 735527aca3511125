-- What is ruled of a rule.
use Rattle.std.specs.Prelude.{◌≡◌, ℕ, ◌<◌, List, Some, slice_get}
use Rattle.rh_rule.specs.declared.rule.Rule.{Rule}
use Rattle.rh_rule.specs.declared.rule.Ruling.{Ruling}
use Rattle.rh_rule.specs.declared.rule.Ruling.TheVariants.{Admitted, Refused}
use Rattle.rh_rule.specs.declared.schema.Schema.{Schema}
use Rattle.rh_term.specs.Partition.{IsOpen}
use Rattle.rh_meaning.specs.Literal.{TreeLit}
use Rattle.rh_goals.specs.Goals.{goals}
use Rattle.rh_oblig.specs.Obligation.{IsAdmitted, IsShown, clauses_for, terms_of}

-- the obligation of a goal has an open partition
abbrev pub HasOpen : List Schema → Rule → TreeLit → Type 0
HasOpen schemas rule goal = (labels : List ℕ) × IsOpen (terms_of schemas rule goal) (clauses_for schemas rule goal) labels

-- the obligation of the goal with this number has an open partition, and none before it has
pub record IsFirstOpen (schemas : List Schema) (rule : Rule) (number : ℕ) : Type 0 where
  pub goal : TreeLit
  pub stands : slice_get (goals schemas rule) number ≡ Some goal
  pub is_open : HasOpen schemas rule goal
  pub first : (earlier : ℕ) (before : TreeLit) → earlier < number → slice_get (goals schemas rule) earlier ≡ Some before → IsShown schemas rule before

-- a rule is admitted where none of its obligations has an open partition, and else refused at the first
-- that has one
abbrev pub IsRuling : List Schema → Rule → Ruling → Type 0
IsRuling schemas rule Admitted = IsAdmitted schemas rule
IsRuling schemas rule (Refused obligation) = IsFirstOpen schemas rule obligation
