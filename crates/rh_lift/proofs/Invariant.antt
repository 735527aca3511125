-- What each state of a run keeps: the known facts hold where its top frame stands, and the frames below it are at their calls.
use Rattle.std.proofs.Common.{ℕ, zero, suc, ℤ, pos, ◌≡◌, ◌+◌, ◌-◌, ◌<◌, ◌≤◌, true, List, [], ◌∷◌, ◌++◌, length, Some, None, slice_set, replicate, refl, ap, sym, ◌∙◌, subst, arith}
use Rattle.std.specs.List.{AllByRecursion}
use Rattle.std.specs.Option.{option_and_then}
use Rattle.std.specs.Prelude.{slice_get}
use Rattle.std.proofs.lemmas.Bool.{both_ways}
use Rattle.std.proofs.lemmas.List.{get_or-append-add}
use Rattle.rh_il.specs.declared.program.Base.{Base}
use Rattle.rh_il.specs.declared.program.Base.TheVariants.{Var, Num as Literal}
use Rattle.rh_il.specs.declared.program.Node.TheVariants.{At}
use Rattle.rh_il.specs.declared.program.Proc.{Proc}
use Rattle.rh_il.specs.declared.program.Slot.TheVariants.{Out}
use Rattle.rh_il.specs.declared.program.Stmt.{Stmt}
use Rattle.rh_il.specs.declared.program.Stmt.TheVariants.{Call, Return}
use Rattle.rh_il.specs.declared.value.Value.{Value}
use Rattle.rh_il.specs.declared.value.Value.TheVariants.{Num, Ptr}
use Rattle.rh_il.specs.Numbers.{base_numbers}
use Rattle.rh_il.specs.Value.{IsNumber}
use Rattle.rh_il_step.specs.declared.frame.Frame.{Frame}
use Rattle.rh_il_step.specs.Run.{main_number, next, run, start}
use Rattle.rh_il_step.specs.State.{State, AreStacked, IsHeld, IsStateOf, cell, statement_at, width_of}
use Rattle.rh_il_step.specs.Step.{Outcome, Went, Returned, Stuck, base_value, calls, ends_call, entered, executed, fresh_cells, returns, step, step_from}
use Rattle.rh_il_step.proofs.Held.{AreHeld, are_held, zero_held}
use Rattle.rh_il_step.proofs.Kept.{executed_keeps, fresh_are, some_at, steps_keep, width_is}
use Rattle.rh_il_step.proofs.Naming.{called_is_there}
use Rattle.rh_il_step.proofs.Standing.{stands, stands_at}
use Rattle.rh_il_step.proofs.Started.{main_there, start_is}
use Rattle.rh_rule.specs.declared.rule.Ruling.{Ruling}
use Rattle.rh_rule.specs.declared.schema.Schema.{Schema}
use Rattle.rh_rule.specs.RuleFiles.{Rules}
use Rattle.rh_domain.specs.Facts.{Known}
use Rattle.rh_term.proofs.Stores.{value_eq-same}
use Rattle.rh_lift.specs.Local.{LeavesVariables, stays}
use Rattle.rh_lift.proofs.Facts.{calls_keep_facts, entries_have_facts, steps_keep_facts}
use Rattle.rh_lift.specs.Standing.{FactsHold, IsProvedSet, IsSafe, Stands}
use Rattle.rh_lift.proofs.Footprints.{IsApart, IsUnheld, KeepsBelow, apart_past, base_apart, keeps_append, keeps_lower, keeps_set, stays_on, unheld_append, unheld_first, unheld_past, unheld_zeros}
use Rattle.rh_lift.proofs.Suspended.{AreSuspended, IsSuspended, suspended_kept}

-- the facts that are known on the edge that the frame took last hold
abbrev pub FactsAt : List Schema → Known → Frame → List Value → Type 0
FactsAt schemas known frame cells = FactsHold schemas known frame.proc frame.edge frame.base cells

-- the frame enters that statement of that procedure, and they hold
abbrev pub StandsAt : List Schema → Known → List Proc → Frame → List Value → Proc → ℕ → Stmt → Type 0
StandsAt schemas known procs frame cells proc number stmt = Stands schemas known procs frame.proc frame.edge frame.base cells proc number stmt

-- the facts that are known on the edge of the top frame hold, and the frames below it are at their calls
abbrev pub FramesInvariant : List Schema → Known → List Proc → List Frame → List Value → Type 0
FramesInvariant schemas known procs [] cells = Unit {0}
FramesInvariant schemas known procs (top ∷ below) cells = FactsAt schemas known top cells × AreSuspended schemas known procs cells below

-- what each state of a run keeps
pub record Invariant (schemas : List Schema) (known : Known) (procs : List Proc) (state : State) : Type 0 where
  pub is_state : IsStateOf procs state
  pub frames : FramesInvariant schemas known procs state.frames state.cells

zeros_read : (count at : ℕ) → cell (replicate count (Num (pos 0))) at ≡ Num (pos 0)
zeros_read zero at = refl
zeros_read (suc count) zero = refl
zeros_read (suc count) (suc at) = zeros_read count at

first_then_zeros : (value : Value) (count at : ℕ) → 0 < at → cell (value ∷ replicate count (Num (pos 0))) at ≡ Num (pos 0)
first_then_zeros value count zero some = absurd (omega (arith, some))
first_then_zeros value count (suc at) some = zeros_read count at

operand_held : (cells : List Value) (base : ℕ) (operand : Base) → AreHeld (length cells) cells → AllByRecursion IsNumber (base_numbers operand) → IsHeld (length cells) (base_value cells base operand)
operand_held cells base (Var x) held fits = held (base + x)
operand_held cells base (Literal c) held fits = fits.0

pub next_went : (outcome : Outcome) (state : State) → next outcome ≡ Some state → outcome ≡ Went state
next_went (Went new) state is = cc
next_went (Returned value) state is = cc
next_went Stuck state is = cc

module _ (file : Rules) (rulings : List Ruling) (procs : List Proc) (known : Known) (proved : IsProvedSet file rulings procs known) where
  -- the variables of the top frame of a state lie in the store
  pub top_safe : (top : Frame) (below : List Frame) (cells : List Value) (proc : Proc) → IsStateOf procs (record { frames = top ∷ below; cells = cells }) → slice_get procs top.proc ≡ Some proc
      → IsSafe (length proc.vars) top.base cells
  top_safe top below cells proc state at =
      let width : width_of procs top ≡ length proc.vars = width_is procs proved.program proved.numbers top proc at in
      record { inside = omega (arith, width, state.stacked.0); held = are_held (length cells) cells state.held }

  pub top_stands : (top : Frame) (below : List Frame) (cells : List Value) (number : ℕ) (stmt : Stmt) → IsStateOf procs (record { frames = top ∷ below; cells = cells }) → FactsAt file.schemas known top cells
      → statement_at procs top ≡ Some (number, stmt) → (proc : Proc) × StandsAt file.schemas known procs top cells proc number stmt
  top_stands top below cells number stmt state facts is =
      let at = stands procs top number stmt is in (
        at.0,
        record {
          proc_at = at.1.proc_at;
          enters = at.1.enters;
          stmt_at = at.1.stmt_at;
          safe = top_safe top below cells at.0 state at.1.proc_at;
          facts = facts;
        },
      )

  -- a frame below the top one is at its call
  pub caller_at : (cells : List Value) (caller : Frame) (suspended : IsSuspended file.schemas known procs cells caller)
      → statement_at procs caller ≡ Some (suspended.number, Call suspended.to suspended.callee suspended.arg)
  caller_at cells caller suspended =
      stands_at procs caller suspended.proc suspended.number (Call suspended.to suspended.callee suspended.arg)
      (record { proc_at = suspended.stands.proc_at; enters = suspended.stands.enters; stmt_at = suspended.stands.stmt_at })

  -- the variables of a procedure that begins point only to where its argument does
  fresh_unheld : (callee : ℕ) (code : Proc) (value : Value) (location : ℕ) → slice_get procs callee ≡ Some code → IsApart location value → IsUnheld (fresh_cells procs callee value) location
  fresh_unheld callee code value location at apart =
      subst (λ cells. IsUnheld cells location) (sym (fresh_are procs proved.program proved.numbers callee code value at))
      (unheld_first value (replicate (length code.vars - 1) (Num (pos 0))) location apart (unheld_zeros (length code.vars - 1) location))

  abbrev Keeps : Outcome → Type 0
  Keeps outcome = (next : State) → outcome ≡ Went next → FramesInvariant file.schemas known procs next.frames next.cells

  went : (state : State) → FramesInvariant file.schemas known procs state.frames state.cells → Keeps (Went state)
  went state fine next told = let same : state ≡ next = cc in subst (λ (s : State). FramesInvariant file.schemas known procs s.frames s.cells) same fine

  -- ---- a procedure begins

  entry_facts : (callee : ℕ) (code : Proc) (value : Value) (cells : List Value) → slice_get procs callee ≡ Some code → AreHeld (length cells) cells → IsHeld (length cells) value
      → IsSafe (length code.vars) (length cells) (cells ++ fresh_cells procs callee value) → FactsAt file.schemas known (entered callee (length cells)) (cells ++ fresh_cells procs callee value)
  entry_facts callee code value cells at held value_held safe =
      let fresh : List Value = fresh_cells procs callee value in
      let are : fresh ≡ value ∷ replicate (length code.vars - 1) (Num (pos 0)) = fresh_are procs proved.program proved.numbers callee code value at in
      let unheld : (location : ℕ) → length cells ≤ location → IsUnheld (cells ++ fresh) location = λ location past.
      unheld_append cells fresh location (unheld_past (length cells) location cells held past)
      (fresh_unheld callee code value location at (apart_past (length cells) location value value_held past)) in
      let zeros : (variable : ℕ) → 0 < variable → cell (cells ++ fresh) (length cells + variable) ≡ Num (pos 0) = λ variable local.
      get_or-append-add cells fresh variable (Num (pos 0)) ∙ ap (λ f. cell f variable) are ∙ first_then_zeros value (length code.vars - 1) variable local in
      entries_have_facts file rulings procs known callee code (length cells) (cells ++ fresh) proved at safe
      (λ variable inside. unheld (length cells + variable) (omega arith))
      (λ variable local inside. zeros variable local)

  start_facts : (arg : ℤ) → IsNumber arg → FactsAt file.schemas known (entered (main_number procs) 0) (fresh_cells procs (main_number procs) (Num arg))
  start_facts arg fits =
      let main = main_there procs proved.program in
      entry_facts (main_number procs) main.0 (Num arg) [] main.1 (λ k. zero_held 0) fits
      (top_safe (entered (main_number procs) 0) [] (fresh_cells procs (main_number procs) (Num arg)) main.0 (start_is procs proved.program proved.numbers arg fits) main.1)

  -- ---- the steps

  module _ (top : Frame) (below : List Frame) (cells : List Value) (number : ℕ) (state : IsStateOf procs (record { frames = top ∷ below; cells = cells }))
      (facts : FactsAt file.schemas known top cells) (suspended : AreSuspended file.schemas known procs cells below) where
    plain_step : (proc : Proc) (stmt : Stmt) → stays stmt ≡ true → StandsAt file.schemas known procs top cells proc number stmt → Keeps (executed procs top below cells number stmt)
    plain_step proc stmt plain at next told =
        let inside : top.base ≤ length cells = omega (arith, at.safe.inside) in
        let on = stays_on top below number cells procs stmt plain inside next told in
        let new : FactsAt file.schemas known (record top { edge = record { node = At number; slot = on.slot } }) on.new =
        steps_keep_facts file rulings procs known top below cells proc number stmt on.slot on.new proved at plain (told ∙ ap Went on.next_is) in
        subst (λ (s : State). FramesInvariant file.schemas known procs s.frames s.cells) (sym on.next_is)
        (new, suspended_kept file.schemas known procs proved.program proved.numbers below top.base cells on.new state.stacked.1 on.keeps suspended)

    call_step : (proc : Proc) (to callee : ℕ) (arg : Base) → statement_at procs top ≡ Some (number, Call to callee arg) → StandsAt file.schemas known procs top cells proc number (Call to callee arg)
        → Keeps (calls procs top below cells callee (base_value cells top.base arg))
    call_step proc to callee arg is at =
        let value : Value = base_value cells top.base arg in
        let fresh : List Value = fresh_cells procs callee value in
        let found = some_at procs callee (called_is_there procs proved.program top number to callee arg is) in
        let code : Proc = found.0 in
        let value_held : IsHeld (length cells) value = operand_held cells top.base arg at.safe.held (proved.numbers top.proc proc at.proc_at number (Call to callee arg) at.stmt_at) in
        let after : IsStateOf procs (record { frames = entered callee (length cells) ∷ top ∷ below; cells = cells ++ fresh }) =
        executed_keeps procs proved.program proved.numbers top below cells number (Call to callee arg) state is _ refl in
        let safe : IsSafe (length code.vars) (length cells) (cells ++ fresh) = top_safe (entered callee (length cells)) (top ∷ below) (cells ++ fresh) code after found.1 in
        let keeps : KeepsBelow (length cells) cells (cells ++ fresh) =
        keeps_append (length cells) cells fresh (omega arith)
        (λ location low unheld. fresh_unheld callee code value location found.1 (base_apart top.base cells arg location unheld)) in
        let caller : IsSuspended file.schemas known procs (cells ++ fresh) top = record {
          kept = cells;
          proc = proc;
          number = number;
          to = to;
          callee = callee;
          arg = arg;
          stands = at;
          longer = keeps.longer;
          keeps = λ variable inside unheld.
              let low : top.base + variable < length cells = omega (arith, inside, at.safe.inside) in
              (keeps.same (top.base + variable) low unheld, keeps.unheld (top.base + variable) low unheld);
        } in
        let lower : top.base ≤ length cells = omega (arith, at.safe.inside) in
        went _ (
          entry_facts callee code value cells found.1 at.safe.held value_held safe,
          (caller, suspended_kept file.schemas known procs proved.program proved.numbers below top.base cells (cells ++ fresh) state.stacked.1 (keeps_lower top.base (length cells) cells (cells ++ fresh) lower keeps) suspended),
        )

    return_to : (caller : Frame) (frames : List Frame) (value : Value) → AreStacked procs (caller ∷ frames) top.base → IsHeld (length cells) value
        → ((location : ℕ) → IsUnheld cells location → IsApart location value) → AreSuspended file.schemas known procs cells (caller ∷ frames) → Keeps (returns procs (caller ∷ frames) cells value)
    return_to caller frames value stacked value_held apart below_is next told =
        let here : IsSuspended file.schemas known procs cells caller = below_is.0 in
        let is : returns procs (caller ∷ frames) cells value ≡ ends_call caller frames here.number cells value (Call here.to here.callee here.arg) =
        ap (λ o. elim o as (λ _. Outcome) [ None ↦ Stuck | Some at ↦ ends_call caller frames at.0 cells value at.1 ]) (caller_at cells caller here) in
        let new : List Value = slice_set cells (caller.base + here.to) value in
        let leaves : LeavesVariables (length here.proc.vars) caller.base here.kept cells value = λ variable inside unheld.
        let old = here.keeps variable inside unheld in
        (old.0, old.1, λ same. both_ways _ (apart (caller.base + variable) old.1) (value_eq-same value (Ptr (caller.base + variable)) same)) in
        let facts_after : FactsAt file.schemas known (record caller { edge = record { node = At here.number; slot = Out } }) new =
        calls_keep_facts file rulings procs known caller.proc caller.edge caller.base here.kept cells here.proc here.number here.to here.callee here.arg value
        proved here.stands here.longer (are_held (length cells) cells state.held) value_held leaves in
        let keeps : KeepsBelow caller.base cells new =
        keeps_set caller.base cells (caller.base + here.to) value (λ location low unheld same. omega (arith, low, same)) (λ location low unheld. apart location unheld) in
        went _ (facts_after, suspended_kept file.schemas known procs proved.program proved.numbers frames caller.base cells new stacked.1 keeps below_is.1) next (sym is ∙ told)

    return_step : (value : Value) → IsHeld (length cells) value → ((location : ℕ) → IsUnheld cells location → IsApart location value)
        → (frames : List Frame) → AreStacked procs frames top.base → AreSuspended file.schemas known procs cells frames → Keeps (returns procs frames cells value)
    return_step value value_held apart [] stacked below_is next told = cc
    return_step value value_held apart (caller ∷ frames) stacked below_is next told = return_to caller frames value stacked value_held apart below_is next told

    executed_step : (stmt : Stmt) → statement_at procs top ≡ Some (number, stmt) → (proc : Proc) → StandsAt file.schemas known procs top cells proc number stmt → Keeps (executed procs top below cells number stmt)
    executed_step (Call to callee arg) is proc at = call_step proc to callee arg is at
    executed_step (Return value) is proc at =
        return_step (base_value cells top.base value)
        (operand_held cells top.base value at.safe.held (proved.numbers top.proc proc at.proc_at number (Return value) at.stmt_at))
        (λ location unheld. base_apart top.base cells value location unheld) below state.stacked.1 suspended
    executed_step stmt is proc at = plain_step proc stmt refl at

  -- ---- runs

  from_frames : (frames : List Frame) (cells : List Value) → IsStateOf procs (record { frames = frames; cells = cells }) → FramesInvariant file.schemas known procs frames cells → Keeps (step_from procs frames cells)
  from_frames [] cells state fine next told = cc
  from_frames (top ∷ below) cells state fine next told =
      elim (statement_at procs top) as (λ o. statement_at procs top ≡ o → Keeps (elim o as (λ _. Outcome) [ None ↦ Stuck | Some at ↦ executed procs top below cells at.0 at.1 ])) [
        | None ↦ λ is after gone. cc
        | Some at ↦ λ is.
            let here = top_stands top below cells at.0 at.1 state fine.0 is in
            executed_step top below cells at.0 state fine.0 fine.1 at.1 is here.0 here.1
      ] refl next told

  step_keeps_invariant : (state next : State) → Invariant file.schemas known procs state → step procs state ≡ Went next → Invariant file.schemas known procs next
  step_keeps_invariant state next fine told = record {
    is_state = steps_keep procs proved.program proved.numbers state next fine.is_state told;
    frames = from_frames state.frames state.cells fine.is_state fine.frames next told;
  }

  -- the facts that are known hold in each state of a run
  pub run_keeps : (arg : ℤ) → IsNumber arg → (steps : ℕ) (state : State) → run procs arg steps ≡ Some state → Invariant file.schemas known procs state
  run_keeps arg fits zero state is =
      let same : start procs arg ≡ state = cc in
      subst (Invariant file.schemas known procs) same
      (record { is_state = start_is procs proved.program proved.numbers arg fits; frames = (start_facts arg fits, tt) })
  run_keeps arg fits (suc steps) state is =
      elim (run procs arg steps) as (λ o. run procs arg steps ≡ o → option_and_then (λ s. next (step procs s)) o ≡ Some state → Invariant file.schemas known procs state) [
        | None ↦ λ at told. cc
        | Some before ↦ λ at told. step_keeps_invariant before state (run_keeps arg fits steps before at) (next_went (step procs before) state told)
      ] refl is
