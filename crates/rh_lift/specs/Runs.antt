-- Whole runs: the known facts hold in every state that reaches their edge, and the rewritten program makes the steps of
-- the program.
use Rattle.std.specs.Prelude.{ℕ, ℤ, ◌≡◌, ◌≢◌, Bool, false, IsTrue, List, slice_get}
use Rattle.std.specs.Option.{option_map_or}
use Rattle.rh_il.specs.declared.program.Proc.{Proc}
use Rattle.rh_il.specs.declared.value.Value.{Value}
use Rattle.rh_il.specs.Value.{IsNumber}
use Rattle.rh_rule.specs.declared.rule.Ruling.{Ruling}
use Rattle.rh_rule.specs.declared.schema.Schema.{Schema}
use Rattle.rh_rule.specs.RuleFiles.{Rules}
use Rattle.rh_domain.specs.Facts.{Known}
use Rattle.rh_domain.specs.declared.fact.FactAt.{FactAt}
use Rattle.rh_domain.specs.declared.fact.GroundFact.{GroundFact}
use Rattle.rh_il_step.specs.Run.{Returns, IsReached, Reaches}
use Rattle.rh_il_step.specs.State.{State}
use Rattle.rh_il_step.specs.Step.{Stuck, step}
use Rattle.rh_transform.specs.Rewritten.{rewritten}
use Rattle.rh_meaning.specs.Holds.{holds}
use Rattle.rh_lift.specs.Standing.{IsProvedSet}

-- the fact holds in the state, over the variables of its top frame
abbrev pub fact_holds_in : List Schema → State → GroundFact → Bool
fact_holds_in schemas state fact = option_map_or (λ schema. holds schema fact.args state) (slice_get schemas fact.schema) false

-- each known fact holds in every reached state of the program that reaches its edge
abbrev pub FactsHoldInRuns : Type 0
FactsHoldInRuns =
    (file : Rules) (rulings : List Ruling) (procs : List Proc) (known : Known) (state : State) (fact : FactAt)
    → IsProvedSet file rulings procs known → IsReached procs state → Reaches state fact.proc fact.edge → IsTrue (known fact)
    → IsTrue (fact_holds_in file.schemas state fact.fact)

-- from each reached state from which the program steps, the rewritten program makes the same step to the same state, or
-- returns the same value
abbrev pub StepsKept : Type 0
StepsKept =
    (file : Rules) (rulings : List Ruling) (procs : List Proc) (known : Known) (state : State)
    → IsProvedSet file rulings procs known → IsReached procs state → step procs state ≢ Stuck
    → step (rewritten known file.rules rulings procs) state ≡ step procs state

-- where a program returns a value within so many steps, the rewritten program returns it within as many
abbrev pub ReturnsKept : Type 0
ReturnsKept =
    (file : Rules) (rulings : List Ruling) (procs : List Proc) (known : Known) (arg : ℤ) (value : Value) (bound : ℕ)
    → IsProvedSet file rulings procs known → IsNumber arg
    → Returns procs arg value bound → Returns (rewritten known file.rules rulings procs) arg value bound
