-- Which facts hold where a frame stands.
use Rattle.std.specs.Prelude.{ℕ, ◌≡◌, ◌+◌, ◌≤◌, IsTrue, Bool, false, List, Some, length, slice_get}
use Rattle.std.specs.Option.{option_map_or}
use Rattle.rh_list.specs.Each.{Each}
use Rattle.rh_il.specs.declared.program.Edge.{Edge}
use Rattle.rh_il.specs.declared.program.Proc.{Proc}
use Rattle.rh_il.specs.declared.program.Stmt.{Stmt}
use Rattle.rh_il.specs.declared.value.Value.{Value}
use Rattle.rh_il.specs.Checks.{IsProgram}
use Rattle.rh_il.specs.Flow.{edge_target}
use Rattle.rh_il.specs.Numbers.{HasNumbers}
use Rattle.rh_rule.specs.declared.rule.Rule.{Rule}
use Rattle.rh_rule.specs.declared.rule.Ruling.{Ruling}
use Rattle.rh_rule.specs.declared.rule.Ruling.TheVariants.{Admitted}
use Rattle.rh_rule.specs.declared.schema.Schema.{Schema}
use Rattle.rh_rule.specs.RuleFiles.{Rules, IsRuleFile}
use Rattle.rh_domain.specs.Facts.{Known}
use Rattle.rh_domain.specs.declared.fact.GroundFact.{GroundFact}
use Rattle.rh_ground.specs.Rows.{IsSupported}
use Rattle.rh_il_step.specs.State.{IsHeld, cell}
use Rattle.rh_meaning.specs.Holds.{holds_over}
use Rattle.rh_goals.specs.Valid.{IsSound}

-- the rules that are ruled admitted are sound
abbrev pub AreSound : List Schema → List Rule → List Ruling → Type 0
AreSound schemas rules rulings =
    (number : ℕ) (rule : Rule) → slice_get rules number ≡ Some rule → slice_get rulings number ≡ Some Admitted → IsSound schemas rule

-- a rule file of which the admitted rules are sound, a program, and a set of facts that these rules support
pub record IsProvedSet (file : Rules) (rulings : List Ruling) (procs : List Proc) (known : Known) : Type 0 where
  pub rules : IsRuleFile file
  pub sound : AreSound file.schemas file.rules rulings
  pub program : IsProgram procs
  pub numbers : Each HasNumbers procs
  pub supported : IsSupported file.rules rulings procs known

-- so many variables at a base lie in the store, and each pointer in it names a cell
pub record IsSafe (width base : ℕ) (cells : List Value) : Type 0 where
  pub inside : base + width ≤ length cells
  pub held : (location : ℕ) → IsHeld (length cells) (cell cells location)

-- the fact holds for the variables at a base over these cells
abbrev pub fact_holds : List Schema → ℕ → List Value → GroundFact → Bool
fact_holds schemas base cells fact = option_map_or (λ schema. holds_over base cells schema fact.args) (slice_get schemas fact.schema) false

-- each fact that is known on an edge of a procedure holds
abbrev pub FactsHold : List Schema → Known → ℕ → Edge → ℕ → List Value → Type 0
FactsHold schemas known place edge base cells =
    (fact : GroundFact) → IsTrue (known (record { proc = place; edge = edge; fact = fact })) → IsTrue (fact_holds schemas base cells fact)

-- variables at a base, in a procedure with a number, where an edge enters a statement: they lie in the store, and
-- the facts that are known on the edge hold
pub record Stands (schemas : List Schema) (known : Known) (procs : List Proc) (place : ℕ) (edge : Edge) (base : ℕ) (cells : List Value) (proc : Proc) (number : ℕ) (stmt : Stmt) : Type 0 where
  pub proc_at : slice_get procs place ≡ Some proc
  pub enters : edge_target proc edge ≡ Some number
  pub stmt_at : slice_get proc.body number ≡ Some stmt
  pub safe : IsSafe (length proc.vars) base cells
  pub facts : FactsHold schemas known place edge base cells
