-- The rewritten program makes the steps of the program.
use Rattle.std.proofs.Common.{ℕ, ℤ, pos, ◌≡◌, ◌≢◌, ◌+◌, ◌-◌, Bool, not, cond, List, [], ◌∷◌, ◌++◌, map, length, Option, Some, None, replicate, refl, ap, sym, ◌∙◌, codes, unwrap_or, nat_lt}
use Rattle.std.specs.List.{enumerate_from, position_or_len}
use Rattle.std.specs.Option.{option_map, option_and_then}
use Rattle.std.specs.Prelude.{slice_get}
use Rattle.std.specs.Str.{bytes_eq}
use Rattle.rh_il.specs.declared.program.Proc.{Proc}
use Rattle.rh_il.specs.declared.program.Stmt.{Stmt}
use Rattle.rh_il.specs.declared.program.Stmt.TheVariants.{Call, Return}
use Rattle.rh_il.specs.declared.value.Value.{Value}
use Rattle.rh_il.specs.declared.value.Value.TheVariants.{Num}
use Rattle.rh_il.specs.Checks.{is_called}
use Rattle.rh_il.specs.Flow.{edge_target}
use Rattle.rh_il_step.specs.declared.frame.Frame.{Frame}
use Rattle.rh_il_step.specs.Run.{main_number, start}
use Rattle.rh_il_step.specs.State.{State, IsStateOf, statement_at}
use Rattle.rh_il_step.specs.Step.{Outcome, Went, Stuck, base_value, ends_call, entered, executed, fresh_cells, returns, step, step_from}
use Rattle.rh_rule.specs.declared.rule.Ruling.{Ruling}
use Rattle.rh_rule.specs.RuleFiles.{Rules}
use Rattle.rh_domain.specs.Facts.{Known}
use Rattle.rh_ground.proofs.Members.{read_all_numbered}
use Rattle.rh_transform.specs.Rewritten.{rewritten_statement, rewritten_body, rewritten_proc, rewritten}
use Rattle.rh_transform.proofs.Numbered.{changed_size}
use Rattle.rh_transform.proofs.Shaped.{body_at, target_same}
use Rattle.rh_lift.proofs.Rewriting.{rewriting_keeps_calls, rewriting_steps}
use Rattle.rh_lift.specs.Standing.{IsProvedSet}
use Rattle.rh_lift.proofs.Invariant.{FramesInvariant, FactsAt, Invariant, caller_at, top_stands}
use Rattle.rh_lift.proofs.Suspended.{AreSuspended, IsSuspended}

-- ---- main

names_kept : (test : List ℕ → Bool) (change : ℕ → Proc → Proc) (from : ℕ) (procs : List Proc) → ((k : ℕ) (proc : Proc) → (change k proc).name ≡ proc.name)
    → position_or_len (λ proc. test proc.name) (map (λ at. change at.0 at.1) (enumerate_from from procs)) ≡ position_or_len (λ proc. test proc.name) procs
names_kept test change from [] kept = refl
names_kept test change from (proc ∷ procs) kept =
    ap (λ name. cond (not (test name)) (1 + position_or_len (λ proc. test proc.name) (map (λ at. change at.0 at.1) (enumerate_from (from + 1) procs))) 0) (kept from proc)
    ∙ ap (λ n. cond (not (test proc.name)) (1 + n) 0) (names_kept test change (from + 1) procs kept)

-- the item that an option leads to, with its number
abbrev numbered : List Stmt → Option ℕ → Option (ℕ × Stmt)
numbered body at = option_and_then (λ n. option_map (λ stmt. (n, stmt)) (slice_get body n)) at

module _ (file : Rules) (rulings : List Ruling) (procs : List Proc) (known : Known) (proved : IsProvedSet file rulings procs known) where
  abbrev pub after : List Proc
  after = rewritten known file.rules rulings procs

  proc_after : (place : ℕ) → slice_get after place ≡ option_map (rewritten_proc known file.rules rulings place) (slice_get procs place)
  proc_after place = read_all_numbered (rewritten_proc known file.rules rulings) procs place

  main_same : main_number after ≡ main_number procs
  main_same =
      let places = names_kept (bytes_eq (codes "main")) (rewritten_proc known file.rules rulings) 0 procs (λ k proc. refl) in
      ap (λ n. unwrap_or (cond (nat_lt n (length after)) (Some n) None) 0) places
      ∙ ap (λ size. unwrap_or (cond (nat_lt (position_or_len (is_called (codes "main")) procs) size) (Some (position_or_len (is_called (codes "main")) procs)) None) 0)
      (changed_size (rewritten_proc known file.rules rulings) 0 procs)

  fresh_same : (callee : ℕ) (value : Value) → fresh_cells after callee value ≡ fresh_cells procs callee value
  fresh_same callee value =
      let cells_of : Option Proc → List Value = λ o. elim o as (λ _. List Value) [ None ↦ [] | Some proc ↦ value ∷ replicate (length proc.vars - 1) (Num (pos 0)) ] in
      ap cells_of (proc_after callee)
      ∙ elim (slice_get procs callee) as (λ o. cells_of (option_map (rewritten_proc known file.rules rulings callee) o) ≡ cells_of o) [ None ↦ refl | Some proc ↦ refl ]

  -- both begin in the same state
  pub start_same : (arg : ℤ) → start after arg ≡ start procs arg
  start_same arg =
      ap (λ main. record { frames = entered main 0 ∷ []; cells = fresh_cells after main (Num arg) }) main_same
      ∙ ap (λ cells. record { frames = entered (main_number procs) 0 ∷ []; cells = cells }) (fresh_same (main_number procs) (Num arg))

  abbrev replaced : ℕ → Proc → ℕ × Stmt → ℕ × Stmt
  replaced place proc at = (at.0, rewritten_statement known file.rules rulings place proc at.0 at.1)

  numbered_after : (place : ℕ) (proc : Proc) (at : Option ℕ) → numbered (rewritten_body known file.rules rulings place proc) at ≡ option_map (replaced place proc) (numbered proc.body at)
  numbered_after place proc None = refl
  numbered_after place proc (Some n) =
      ap (option_map (λ s. (n, s))) (body_at file proved.rules rulings known place proc n)
      ∙ elim (slice_get proc.body n) as (λ o. option_map (λ s. (n, s)) (option_map (rewritten_statement known file.rules rulings place proc n) o) ≡ option_map (replaced place proc) (option_map (λ s. (n, s)) o))
      [ None ↦ refl | Some s ↦ refl ]

  -- a frame is at the statement that takes the place of the one that it is at in the program
  statement_after : (frame : Frame) (proc : Proc) → slice_get procs frame.proc ≡ Some proc → statement_at after frame ≡ option_map (replaced frame.proc proc) (statement_at procs frame)
  statement_after frame proc read =
      let within : Proc → Option (ℕ × Stmt) = λ p. numbered p.body (edge_target p frame.edge) in
      let there : slice_get after frame.proc ≡ Some (rewritten_proc known file.rules rulings frame.proc proc) = proc_after frame.proc ∙ ap (option_map (rewritten_proc known file.rules rulings frame.proc)) read in
      ap (option_and_then within) there
      ∙ ap (numbered (rewritten_body known file.rules rulings frame.proc proc)) (target_same file proved.rules rulings known frame.proc proc frame.edge.node frame.edge.slot)
      ∙ numbered_after frame.proc proc (edge_target proc frame.edge)
      ∙ sym (ap (λ o. option_map (replaced frame.proc proc) (option_and_then within o)) read)

  -- a return gives the caller its value: what takes the place of a call has the same destination
  returns_same : (frames : List Frame) (cells : List Value) (value : Value) → AreSuspended file.schemas known procs cells frames → returns after frames cells value ≡ returns procs frames cells value
  returns_same [] cells value suspended = refl
  returns_same (caller ∷ frames) cells value suspended =
      let here : IsSuspended file.schemas known procs cells caller = suspended.0 in
      let at_call = caller_at file rulings procs known proved cells caller here in
      let call = rewriting_keeps_calls file rulings procs known caller.proc caller.edge caller.base here.kept here.proc here.number here.to here.callee here.arg proved here.stands in
      let ends : Option (ℕ × Stmt) → Outcome = λ o. elim o as (λ _. Outcome) [ None ↦ Stuck | Some at ↦ ends_call caller frames at.0 cells value at.1 ] in
      ap ends (statement_after caller here.proc here.stands.proc_at)
      ∙ ap (λ o. ends (option_map (replaced caller.proc here.proc) o)) at_call
      ∙ ap (λ s. ends_call caller frames here.number cells value s) call.1
      ∙ sym (ap ends at_call)

  -- a statement makes the same step in both programs
  executed_same : (top : Frame) (below : List Frame) (cells : List Value) (number : ℕ) (stmt : Stmt) → AreSuspended file.schemas known procs cells below
      → executed after top below cells number stmt ≡ executed procs top below cells number stmt
  executed_same top below cells number (Call to callee arg) suspended =
      ap (λ fresh. Went (record { frames = entered callee (length cells) ∷ top ∷ below; cells = cells ++ fresh })) (fresh_same callee (base_value cells top.base arg))
  executed_same top below cells number (Return value) suspended = returns_same below cells (base_value cells top.base value) suspended
  executed_same top below cells number stmt suspended = refl

  -- what the statement does that a frame is at
  abbrev executed_at : List Proc → Frame → List Frame → List Value → Option (ℕ × Stmt) → Outcome
  executed_at program top below cells at = elim at as (λ _. Outcome) [ None ↦ Stuck | Some at ↦ executed program top below cells at.0 at.1 ]

  same_at : (top : Frame) (below : List Frame) (cells : List Value) (at : Option (ℕ × Stmt)) → IsStateOf procs (record { frames = top ∷ below; cells = cells })
      → FactsAt file.schemas known top cells → AreSuspended file.schemas known procs cells below
      → statement_at procs top ≡ at → executed_at procs top below cells at ≢ Stuck
      → executed_at after top below cells (statement_at after top) ≡ executed_at procs top below cells at
  same_at top below cells None state facts suspended is moves = absurd (moves refl)
  same_at top below cells (Some (number, stmt)) state facts suspended is moves =
      let here = top_stands file rulings procs known proved top below cells number stmt state facts is in
      let new : Stmt = rewritten_statement known file.rules rulings top.proc here.0 number stmt in
      ap (executed_at after top below cells) (statement_after top here.0 here.1.proc_at)
      ∙ ap (λ o. executed_at after top below cells (option_map (replaced top.proc here.0) o)) is
      ∙ executed_same top below cells number new suspended
      ∙ rewriting_steps file rulings procs known top below cells here.0 number stmt proved here.1 moves

  from_frames : (frames : List Frame) (cells : List Value) → IsStateOf procs (record { frames = frames; cells = cells }) → FramesInvariant file.schemas known procs frames cells
      → step_from procs frames cells ≢ Stuck → step_from after frames cells ≡ step_from procs frames cells
  from_frames [] cells state fine moves = refl
  from_frames (top ∷ below) cells state fine moves = same_at top below cells (statement_at procs top) state fine.0 fine.1 refl moves

  -- wherever the program steps, the rewritten program makes the same step
  pub step_same : (state : State) → Invariant file.schemas known procs state → step procs state ≢ Stuck → step after state ≡ step procs state
  step_same state fine moves = from_frames state.frames state.cells fine.is_state fine.frames moves
