-- Every step leads from a state of the program to a state of the program.
use Rattle.std.proofs.Common.{ℕ, zero, suc, ℤ, pos, ◌≡◌, ◌+◌, ◌-◌, ◌<◌, ◌≤◌, if◌then◌else◌, true, List, [], ◌∷◌, ◌++◌, length, Option, Some, None, slice_set, refl, ap, sym, ◌∙◌, subst, arith, rules}
use Rattle.std.specs.List.{All, AllByRecursion}
use Rattle.std.specs.Option.{option_and_then, option_map_or}
use Rattle.std.specs.Ordering.{int_eq}
use Rattle.std.specs.Prelude.{IsSome, nat_lt, replicate, slice_get, ◌&&◌}
use Rattle.std.proofs.Math.ListN.{length-set, length-append, length-replicate}
use Rattle.std.proofs.lemmas.Bool.{and_parts, ltb-true, leb-true}
use Rattle.rh_list.specs.Each.{Each}
use Rattle.rh_il.specs.declared.program.Base.{Base}
use Rattle.rh_il.specs.declared.program.Base.TheVariants.{Var, Num as Literal}
use Rattle.rh_il.specs.declared.program.Proc.{Proc}
use Rattle.rh_il.specs.declared.program.Slot.{Slot}
use Rattle.rh_il.specs.declared.program.Slot.TheVariants.{Out, Then, Else}
use Rattle.rh_il.specs.declared.program.Stmt.{Stmt}
use Rattle.rh_il.specs.declared.program.Stmt.TheVariants.{Skip, Copy, Address, Load, Compute, Write, New, Call, Goto, If, Return}
use Rattle.rh_il.specs.declared.value.Value.{Value}
use Rattle.rh_il.specs.declared.value.Value.TheVariants.{Num, Ptr}
use Rattle.rh_il.specs.Checks.{IsProgram, has_numbers}
use Rattle.rh_il.specs.Flow.{slot_target}
use Rattle.rh_il.specs.Numbers.{HasNumbers, base_numbers, operand_numbers}
use Rattle.rh_il.specs.Op.{apply}
use Rattle.rh_il.specs.Value.{IsNumber}
use Rattle.rh_il.proofs.Passed.{passed, passes, proc_passed}
use Rattle.rh_il.proofs.ProcChecks.{checks_passed, stmt_in_range}
use Rattle.rh_il_step.specs.declared.frame.Frame.{Frame}
use Rattle.rh_il_step.specs.State.{State, AreCalled, AreStacked, IsCalling, IsHeld, IsStateOf, cell, statement_at, width_of}
use Rattle.rh_il_step.specs.Step.{Outcome, Went, Returned, Stuck, base_value, branches, computes, ends_call, entered, executed, fresh_cells, goes_on, loads, past, returns, sets, step, step_from, writes}
use Rattle.rh_il_step.proofs.Held.{AreHeld, all_held, are_held, computed_held, held_append, held_first, held_more, held_set, zero_held, zeros_held}
use Rattle.rh_il_step.proofs.Standing.{Stands, enters_some, first_statement, stands, way_out}

-- ---- frames

all_rest : {X : Type 0} (P : X → Type 0) (x : X) (xs : List X) → All P (x ∷ xs) → All P xs
all_rest P x xs all k d below = all (suc k) d (omega (arith, below))

pub all_with : {X : Type 0} (P : X → Type 0) (x : X) (xs : List X) → P x → All P xs → All P (x ∷ xs)
all_with P x xs here rest zero d below = here
all_with P x xs here rest (suc k) d below = rest k d (omega (arith, below))

stacked_higher : (procs : List Proc) (frames : List Frame) (low high : ℕ) → low ≤ high → AreStacked procs frames low → AreStacked procs frames high
stacked_higher procs [] low high le stacked = tt
stacked_higher procs (frame ∷ frames) low high le stacked = (omega (arith, le, stacked.0), stacked.1)

-- a frame that has gone on is a frame of the same procedure at the same base
called_past : (procs : List Proc) (top : Frame) (below : List Frame) (number : ℕ) (slot : Slot) → AreCalled procs (top ∷ below) → AreCalled procs (past top number slot ∷ below)
called_past procs top [] number slot called = tt
called_past procs top (caller ∷ below) number slot called = (called.0, called.1)

called_below : (procs : List Proc) (top : Frame) (below : List Frame) → AreCalled procs (top ∷ below) → AreCalled procs below
called_below procs top [] called = tt
called_below procs top (caller ∷ below) called = called.1

pub some_at : {X : Type 0} (xs : List X) (k : ℕ) → k < length xs → (x : X) × (slice_get xs k ≡ Some x)
some_at [] k below = absurd (omega (arith, below))
some_at (x ∷ xs) zero below = (x, refl)
some_at (x ∷ xs) (suc k) below = some_at xs k (omega (arith, below))

-- a state in parts: the top frame and what is below it
pub record IsParted (procs : List Proc) (top : Frame) (below : List Frame) (cells : List Value) : Type 0 where
  pub edges : All (λ frame. IsSome (statement_at procs frame)) below
  pub top_stacked : top.base + width_of procs top ≤ length cells
  pub below_stacked : AreStacked procs below top.base
  pub called : AreCalled procs (top ∷ below)
  pub held : AreHeld (length cells) cells

module _ (procs : List Proc) (program : IsProgram procs) (numbers : Each HasNumbers procs) where
  abbrev Keeps : Outcome → Type 0
  Keeps outcome = (next : State) → outcome ≡ Went next → IsStateOf procs next

  went : (state : State) → IsStateOf procs state → Keeps (Went state)
  went state fine next is = let same : state ≡ next = cc in subst (IsStateOf procs) same fine

  -- the top frame goes on, over a store that is at least as long
  went_on : (top : Frame) (below : List Frame) (cells : List Value) (number : ℕ) (stmt : Stmt) (slot : Slot) (n : ℕ) (proc : Proc) (new : List Value)
      → IsParted procs top below cells → Stands procs top proc number stmt → slot_target stmt number slot ≡ Some n
      → length cells ≤ length new → AreHeld (length new) new
      → IsStateOf procs (record { frames = past top number slot ∷ below; cells = new })
  went_on top below cells number stmt slot n proc new parted at out longer held =
      let enters = ap (option_and_then (λ s. slot_target s number slot)) at.stmt_at ∙ out in
      let here : IsSome (statement_at procs (past top number slot)) =
      enters_some procs (past top number slot) proc n at.proc_at enters (way_out procs program top.proc proc at.proc_at number stmt slot n at.stmt_at out) in
      record {
        running = omega arith;
        edges = all_with (λ frame. IsSome (statement_at procs frame)) (past top number slot) below here parted.edges;
        stacked = (omega (arith, longer, parted.top_stacked), parted.below_stacked);
        called = called_past procs top below number slot parted.called;
        held = all_held (length new) new held;
      }

  -- the same, at the slot `out`, with a variable or a cell set
  set_on : (top : Frame) (below : List Frame) (cells : List Value) (number : ℕ) (stmt : Stmt) (n : ℕ) (proc : Proc) (at : ℕ) (value : Value)
      → IsParted procs top below cells → Stands procs top proc number stmt → slot_target stmt number Out ≡ Some n → IsHeld (length cells) value
      → Keeps (goes_on top below number (slice_set cells at value))
  set_on top below cells number stmt n proc at value parted stands out held =
      let size : length (slice_set cells at value) ≡ length cells = length-set cells at value in
      went _ (went_on top below cells number stmt Out n proc (slice_set cells at value) parted stands out (omega (arith, size))
      (subst (λ k. AreHeld k (slice_set cells at value)) (sym size) (held_set (length cells) cells at value held parted.held)))

  pub width_is : (frame : Frame) (proc : Proc) → slice_get procs frame.proc ≡ Some proc → width_of procs frame ≡ length proc.vars
  width_is frame proc at = ap (λ o. option_map_or (λ (p : Proc). length p.vars) o 0) at

  -- a procedure has a variable
  pub some_vars : (place : ℕ) (proc : Proc) → slice_get procs place ≡ Some proc → 1 ≤ length proc.vars
  some_vars place proc at =
      let known = checks_passed (length procs) place proc (proc_passed procs place proc (passed procs program.passes) at) in
      leb-true 1 (length proc.vars) (and_parts _ _ (passes _ _ _ _ known.vars)).0

  base_held : (cells : List Value) (base : ℕ) (operand : Base) → AreHeld (length cells) cells → AllByRecursion IsNumber (base_numbers operand) → IsHeld (length cells) (base_value cells base operand)
  base_held cells base (Var x) held fits = held (base + x)
  base_held cells base (Literal c) held fits = fits.0

  -- ---- calls and returns

  pub fresh_are : (callee : ℕ) (proc : Proc) (arg : Value) → slice_get procs callee ≡ Some proc → fresh_cells procs callee arg ≡ arg ∷ replicate (length proc.vars - 1) (Num (pos 0))
  fresh_are callee proc arg at =
      ap (λ o. elim o as (λ _. List Value) [ None ↦ [] | Some p ↦ arg ∷ replicate (length p.vars - 1) (Num (pos 0)) ]) at

  call_keeps : (top : Frame) (below : List Frame) (cells : List Value) (number to callee : ℕ) (arg : Base) (proc : Proc) (value : Value)
      → IsParted procs top below cells → IsSome (statement_at procs top) → statement_at procs top ≡ Some (number, Call to callee arg) → callee < length procs → IsHeld (length cells) value
      → IsStateOf procs (record { frames = entered callee (length cells) ∷ top ∷ below; cells = cells ++ fresh_cells procs callee value })
  call_keeps top below cells number to callee arg proc value parted here at_call below_procs held =
      let found = some_at procs callee below_procs in
      let code : Proc = found.0 in
      let new : Frame = entered callee (length cells) in
      let all : List Value = cells ++ fresh_cells procs callee value in
      let fresh_size : length (fresh_cells procs callee value) ≡ length code.vars =
      ap length (fresh_are callee code value found.1) ∙ more (length code.vars) (some_vars callee code found.1) in
      let size : length all ≡ length cells + length (fresh_cells procs callee value) = length-append cells (fresh_cells procs callee value) in
      let width : width_of procs new ≡ length code.vars = width_is new code found.1 in
      let longer : length cells ≤ length all = omega (arith, size) in
      let fresh_held : AreHeld (length all) (fresh_cells procs callee value) =
      subst (AreHeld (length all)) (sym (fresh_are callee code value found.1))
      (held_first (length all) value (replicate (length code.vars - 1) (Num (pos 0))) (held_more (length cells) (length all) value longer held) (zeros_held (length all) (length code.vars - 1))) in
      record {
        running = omega arith;
        edges = all_with (λ frame. IsSome (statement_at procs frame)) new (top ∷ below)
            (enters_some procs new code 0 found.1 refl (first_statement procs program callee code found.1))
            (all_with (λ frame. IsSome (statement_at procs frame)) top below here parted.edges);
        stacked = (omega (arith, size, fresh_size, width), (parted.top_stacked, parted.below_stacked));
        called = (record { number = number; to = to; arg = arg; at_call = at_call }, parted.called);
        held = all_held (length all) all
            (held_append (length all) cells (fresh_cells procs callee value) (λ k. held_more (length cells) (length all) (cell cells k) longer (parted.held k)) fresh_held);
      }
    where
      more : (n : ℕ) → 1 ≤ n → length (value ∷ replicate (n - 1) (Num (pos 0))) ≡ n
      more n some = let rest : length (replicate (n - 1) (Num (pos 0))) ≡ n - 1 = length-replicate (n - 1) (Num (pos 0)) in omega (arith, rest, some)

  ended_keeps : (caller : Frame) (below : List Frame) (cells : List Value) (number : ℕ) (stmt : Stmt) (value : Value)
      → IsParted procs caller below cells → statement_at procs caller ≡ Some (number, stmt) → IsHeld (length cells) value
      → Keeps (ends_call caller below number cells value stmt)
  ended_keeps caller below cells number (Call to callee arg) value parted is held next told =
      let at = stands procs caller number (Call to callee arg) is in
      set_on caller below cells number (Call to callee arg) (number + 1) at.0 (caller.base + to) value parted at.1 refl held next told
  ended_keeps caller below cells number stmt value parted is held next told = cc

  -- the state without its top frame
  without_top : (top caller : Frame) (below : List Frame) (cells : List Value) → IsParted procs top (caller ∷ below) cells → IsParted procs caller below cells
  without_top top caller below cells parted = record {
    edges = all_rest (λ frame. IsSome (statement_at procs frame)) caller below parted.edges;
    top_stacked = omega (arith, parted.below_stacked.0, parted.top_stacked);
    below_stacked = parted.below_stacked.1;
    called = called_below procs top (caller ∷ below) parted.called;
    held = parted.held;
  }

  return_keeps : (top : Frame) (below : List Frame) (cells : List Value) (value : Value) → IsParted procs top below cells → IsHeld (length cells) value → Keeps (returns procs below cells value)
  return_keeps top [] cells value parted held next told = cc
  return_keeps top (caller ∷ below) cells value parted held next told =
      elim (statement_at procs caller) as (λ o. statement_at procs caller ≡ o → Keeps (elim o as (λ _. Outcome) [ None ↦ Stuck | Some at ↦ ends_call caller below at.0 cells value at.1 ])) [
        | None ↦ λ is after gone. cc
        | Some at ↦ λ is. ended_keeps caller below cells at.0 at.1 value (without_top top caller below cells parted) is held
      ] refl next told

  -- ---- the statements

  module _ (top : Frame) (below : List Frame) (cells : List Value) (number : ℕ) (proc : Proc) (parted : IsParted procs top below cells) where
    loaded : (stmt : Stmt) (to : ℕ) (address : Value) → Stands procs top proc number stmt → slot_target stmt number Out ≡ Some (number + 1) → Keeps (loads top below number cells to address)
    loaded stmt to (Num a) at out next told = cc
    loaded stmt to (Ptr location) at out next told = set_on top below cells number stmt (number + 1) proc (top.base + to) (cell cells location) parted at out (parted.held location) next told

    computed : (stmt : Stmt) (to : ℕ) (value : Option Value) → Stands procs top proc number stmt → slot_target stmt number Out ≡ Some (number + 1)
        → ((v : Value) → value ≡ Some v → IsHeld (length cells) v) → Keeps (computes top below number cells to value)
    computed stmt to None at out held next told = cc
    computed stmt to (Some value) at out held next told = set_on top below cells number stmt (number + 1) proc (top.base + to) value parted at out (held value refl) next told

    written : (stmt : Stmt) (address value : Value) → Stands procs top proc number stmt → slot_target stmt number Out ≡ Some (number + 1) → IsHeld (length cells) value
        → Keeps (writes top below number cells address value)
    written stmt (Num a) value at out held next told = cc
    written stmt (Ptr location) value at out held next told = set_on top below cells number stmt (number + 1) proc location value parted at out held next told

    branched : (cond : Base) (taken other : ℕ) (condition : Value) → Stands procs top proc number (If cond taken other) → Keeps (branches top below number cells condition)
    branched cond taken other (Ptr location) at next told = cc
    branched cond taken other (Num condition) at next told =
        elim (int_eq condition (pos 0)) as (λ b. Keeps (Went (record { frames = past top number (if b then Else else Then) ∷ below; cells = cells }))) [
          | true ↦ went _ (went_on top below cells number (If cond taken other) Else other proc cells parted at refl (omega arith) parted.held)
          | _ ↦ went _ (went_on top below cells number (If cond taken other) Then taken proc cells parted at refl (omega arith) parted.held)
        ] next told

    stays : (stmt : Stmt) (n : ℕ) → Stands procs top proc number stmt → slot_target stmt number Out ≡ Some n → Keeps (goes_on top below number cells)
    stays stmt n at out = went _ (went_on top below cells number stmt Out n proc cells parted at out (omega arith) parted.held)

    renewed : (to : ℕ) → Stands procs top proc number (New to) → Keeps (executed procs top below cells number (New to))
    renewed to at =
        let longer : List Value = cells ++ Num (pos 0) ∷ [] in
        let size : length longer ≡ length cells + 1 = length-append cells (Num (pos 0) ∷ []) in
        let new : List Value = slice_set longer (top.base + to) (Ptr (length cells)) in
        let same : length new ≡ length longer = length-set longer (top.base + to) (Ptr (length cells)) in
        let grown : AreHeld (length longer) longer =
        held_append (length longer) cells (Num (pos 0) ∷ []) (λ k. held_more (length cells) (length longer) (cell cells k) (omega (arith, size)) (parted.held k))
        (held_first (length longer) (Num (pos 0)) [] (zero_held (length longer)) (λ k. zero_held (length longer))) in
        went _ (went_on top below cells number (New to) Out (number + 1) proc new parted at refl (omega (arith, size, same))
        (subst (λ k. AreHeld k new) (sym same) (held_set (length longer) longer (top.base + to) (Ptr (length cells)) (omega (arith, size)) grown)))

    keeps : (stmt : Stmt) → statement_at procs top ≡ Some (number, stmt) → IsSome (statement_at procs top) → Stands procs top proc number stmt
        → AllByRecursion IsNumber (operand_numbers stmt) → has_numbers (length procs) (length proc.vars) stmt ≡ true
        → Keeps (executed procs top below cells number stmt)
    keeps Skip is here at fits ranged = stays Skip (number + 1) at refl
    keeps (Goto to) is here at fits ranged = stays (Goto to) to at refl
    keeps (Copy to from) is here at fits ranged =
        set_on top below cells number (Copy to from) (number + 1) proc (top.base + to) (base_value cells top.base from) parted at refl (base_held cells top.base from parted.held fits)
    keeps (Address to of) is here at fits ranged =
        let inside : of < length proc.vars = ltb-true of (length proc.vars) (and_parts (nat_lt to (length proc.vars)) (nat_lt of (length proc.vars)) ranged).1 in
        let width : width_of procs top ≡ length proc.vars = width_is top proc at.proc_at in
        set_on top below cells number (Address to of) (number + 1) proc (top.base + to) (Ptr (top.base + of)) parted at refl (omega (arith, inside, width, parted.top_stacked))
    keeps (Load to from) is here at fits ranged = loaded (Load to from) to (cell cells (top.base + from)) at refl
    keeps (Compute to op left right) is here at fits ranged =
        computed (Compute to op left right) to (apply op (base_value cells top.base left) (base_value cells top.base right)) at refl
        (λ v told. computed_held (length cells) op (base_value cells top.base left) (base_value cells top.base right) v told)
    keeps (Write to from) is here at fits ranged =
        written (Write to from) (cell cells (top.base + to)) (base_value cells top.base from) at refl (base_held cells top.base from parted.held fits)
    keeps (New to) is here at fits ranged = renewed to at
    keeps (If cond taken other) is here at fits ranged = branched cond taken other (base_value cells top.base cond) at
    keeps (Call to callee arg) is here at fits ranged =
        let rest = (and_parts (nat_lt to (length proc.vars)) (nat_lt callee (length procs) && _) ranged).1 in
        let known : callee < length procs = ltb-true callee (length procs) (and_parts (nat_lt callee (length procs)) _ rest).0 in
        went _ (call_keeps top below cells number to callee arg proc (base_value cells top.base arg) parted here is known (base_held cells top.base arg parted.held fits))
    keeps (Return value) is here at fits ranged = return_keeps top below cells (base_value cells top.base value) parted (base_held cells top.base value parted.held fits)

  from_top : (top : Frame) (below : List Frame) (cells : List Value) → IsStateOf procs (record { frames = top ∷ below; cells = cells }) → Keeps (step_from procs (top ∷ below) cells)
  from_top top below cells state =
      let here : IsSome (statement_at procs top) = state.edges 0 top (omega arith) in
      let parted : IsParted procs top below cells = record {
        edges = all_rest (λ frame. IsSome (statement_at procs frame)) top below state.edges;
        top_stacked = state.stacked.0;
        below_stacked = state.stacked.1;
        called = state.called;
        held = are_held (length cells) cells state.held;
      } in
      elim (statement_at procs top) as (λ o. statement_at procs top ≡ o → Keeps (elim o as (λ _. Outcome) [ None ↦ Stuck | Some at ↦ executed procs top below cells at.0 at.1 ])) [
        | None ↦ λ is next told. cc
        | Some at ↦ λ is.
            let stood = stands procs top at.0 at.1 is in
            keeps top below cells at.0 stood.0 parted at.1 is here stood.1
            (numbers top.proc stood.0 stood.1.proc_at at.0 at.1 stood.1.stmt_at)
            (stmt_in_range procs top.proc stood.0 at.0 at.1 program stood.1.proc_at stood.1.stmt_at)
      ] refl

  from_frames : (frames : List Frame) (cells : List Value) → IsStateOf procs (record { frames = frames; cells = cells }) → Keeps (step_from procs frames cells)
  from_frames [] cells state next told = cc
  from_frames (top ∷ below) cells state next told = from_top top below cells state next told

  -- a step leads to a state of the program
  pub steps_keep : (state next : State) → IsStateOf procs state → step procs state ≡ Went next → IsStateOf procs next
  steps_keep state next is told = from_frames state.frames state.cells is next told

  -- the same of the statement that the top frame is at
  pub executed_keeps : (top : Frame) (below : List Frame) (cells : List Value) (number : ℕ) (stmt : Stmt) → IsStateOf procs (record { frames = top ∷ below; cells = cells })
      → statement_at procs top ≡ Some (number, stmt) → (next : State) → executed procs top below cells number stmt ≡ Went next → IsStateOf procs next
  executed_keeps top below cells number stmt state at next told =
      from_top top below cells state next
      (ap (λ o. elim o as (λ _. Outcome) [ None ↦ Stuck | Some here ↦ executed procs top below cells here.0 here.1 ]) at ∙ told)
