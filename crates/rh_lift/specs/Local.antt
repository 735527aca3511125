-- What sound rules say of one step: the facts that are known on the edges hold after it if they held before it, and
-- the statement that takes the place of another makes the same step.
use Rattle.std.specs.Prelude.{ℕ, ◌≡◌, ◌≢◌, ◌+◌, ◌<◌, ◌≤◌, pos, Bool, true, false, List, ◌∷◌, Some, length, slice_get, slice_set}
use Rattle.rh_il.specs.declared.program.Base.{Base}
use Rattle.rh_il.specs.declared.program.Edge.{Edge}
use Rattle.rh_il.specs.declared.program.Node.TheVariants.{Entry, At}
use Rattle.rh_il.specs.declared.program.Proc.{Proc}
use Rattle.rh_il.specs.declared.program.Slot.{Slot}
use Rattle.rh_il.specs.declared.program.Slot.TheVariants.{Out}
use Rattle.rh_il.specs.declared.program.Stmt.{Stmt}
use Rattle.rh_il.specs.declared.program.Stmt.TheVariants.{Call, Return}
use Rattle.rh_il.specs.declared.value.Value.{Value}
use Rattle.rh_il.specs.declared.value.Value.TheVariants.{Num, Ptr}
use Rattle.rh_rule.specs.declared.rule.Ruling.{Ruling}
use Rattle.rh_rule.specs.RuleFiles.{Rules}
use Rattle.rh_domain.specs.Facts.{Known}
use Rattle.rh_term.specs.Store.{is_unheld}
use Rattle.rh_il_step.specs.declared.frame.Frame.{Frame}
use Rattle.rh_il_step.specs.State.{IsHeld, cell}
use Rattle.rh_il_step.specs.Step.{Went, Stuck, executed, past}
use Rattle.rh_transform.specs.Rewritten.{rewritten_statement}
use Rattle.rh_lift.specs.Standing.{FactsHold, IsProvedSet, IsSafe, Stands}

-- the statement neither calls nor returns
abbrev pub stays : Stmt → Bool
stays (Call to callee arg) = false
stays (Return value) = false
stays _ = true

-- a step that neither calls nor returns: the facts on the edge by which it leaves hold
abbrev pub StepsKeepFacts : Type 0
StepsKeepFacts =
    (file : Rules) (rulings : List Ruling) (procs : List Proc) (known : Known) (top : Frame) (below : List Frame) (cells : List Value)
    (proc : Proc) (number : ℕ) (stmt : Stmt) (slot : Slot) (new : List Value)
    → IsProvedSet file rulings procs known → Stands file.schemas known procs top.proc top.edge top.base cells proc number stmt → stays stmt ≡ true
    → executed procs top below cells number stmt ≡ Went (record { frames = past top number slot ∷ below; cells = new })
    → FactsHold file.schemas known top.proc (record { node = At number; slot = slot }) top.base new

-- a procedure begins: no cell points to its variables, and its locals are 0
abbrev pub EntriesHaveFacts : Type 0
EntriesHaveFacts =
    (file : Rules) (rulings : List Ruling) (procs : List Proc) (known : Known) (place : ℕ) (proc : Proc) (base : ℕ) (cells : List Value)
    → IsProvedSet file rulings procs known → slice_get procs place ≡ Some proc → IsSafe (length proc.vars) base cells
    → ((variable : ℕ) → variable < length proc.vars → is_unheld cells (Ptr (base + variable)) ≡ true)
    → ((variable : ℕ) → 0 < variable → variable < length proc.vars → cell cells (base + variable) ≡ Num (pos 0))
    → FactsHold file.schemas known place (record { node = Entry; slot = Out }) base cells

-- what a call leaves of the variables at a base to which no cell pointed when it was made: their values, and that no
-- cell points to them, nor does the answer
abbrev pub LeavesVariables : ℕ → ℕ → List Value → List Value → Value → Type 0
LeavesVariables width base kept cells answer =
    (variable : ℕ) → variable < width → is_unheld kept (Ptr (base + variable)) ≡ true
    → (cell cells (base + variable) ≡ cell kept (base + variable)) × (is_unheld cells (Ptr (base + variable)) ≡ true) × (answer ≢ Ptr (base + variable))

-- a call returns: `kept` is the store as it was made, `cells` the one as it returns
abbrev pub CallsKeepFacts : Type 0
CallsKeepFacts =
    (file : Rules) (rulings : List Ruling) (procs : List Proc) (known : Known) (place : ℕ) (edge : Edge) (base : ℕ) (kept cells : List Value)
    (proc : Proc) (number to callee : ℕ) (arg : Base) (answer : Value)
    → IsProvedSet file rulings procs known → Stands file.schemas known procs place edge base kept proc number (Call to callee arg)
    → length kept ≤ length cells → ((location : ℕ) → IsHeld (length cells) (cell cells location)) → IsHeld (length cells) answer
    → LeavesVariables (length proc.vars) base kept cells answer
    → FactsHold file.schemas known place (record { node = At number; slot = Out }) base (slice_set cells (base + to) answer)

-- the statement that takes the place of another makes the same step, wherever that one steps
abbrev pub RewritingSteps : Type 0
RewritingSteps =
    (file : Rules) (rulings : List Ruling) (procs : List Proc) (known : Known) (top : Frame) (below : List Frame) (cells : List Value)
    (proc : Proc) (number : ℕ) (stmt : Stmt)
    → IsProvedSet file rulings procs known → Stands file.schemas known procs top.proc top.edge top.base cells proc number stmt
    → executed procs top below cells number stmt ≢ Stuck
    → executed procs top below cells number (rewritten_statement known file.rules rulings top.proc proc number stmt) ≡ executed procs top below cells number stmt

-- and what takes the place of a call is a call of the same procedure with the same destination
abbrev pub RewritingKeepsCalls : Type 0
RewritingKeepsCalls =
    (file : Rules) (rulings : List Ruling) (procs : List Proc) (known : Known) (place : ℕ) (edge : Edge) (base : ℕ) (cells : List Value)
    (proc : Proc) (number to callee : ℕ) (arg : Base)
    → IsProvedSet file rulings procs known → Stands file.schemas known procs place edge base cells proc number (Call to callee arg)
    → (new : Base) × (rewritten_statement known file.rules rulings place proc number (Call to callee arg) ≡ Call to callee new)
