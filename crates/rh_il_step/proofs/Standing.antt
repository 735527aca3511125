-- A frame at a statement, and where its ways out lead.
use Rattle.std.proofs.Common.{ℕ, zero, suc, ◌≡◌, ◌+◌, ◌-◌, ◌<◌, ◌≤◌, Bool, true, false, List, [], ◌∷◌, length, Option, Some, None, refl, ap, sym, ◌∙◌, subst, arith}
use Rattle.std.specs.Option.{option_and_then, option_map, option_map_or}
use Rattle.std.specs.Prelude.{IsSome, nat_lt, slice_get, is_some, nat_le, ◌&&◌}
use Rattle.std.proofs.lemmas.Bool.{false≢true, ltb-false, ltb-true, and_parts}
use Rattle.std.proofs.lemmas.Option.{option_and_then_some, same_Some, slice_get_within, slice_get-get_or, some_pair_parts}
use Rattle.rh_il.specs.declared.program.Node.TheVariants.{Entry, At}
use Rattle.rh_il.specs.declared.program.Proc.{Proc}
use Rattle.rh_il.specs.declared.program.Slot.{Slot}
use Rattle.rh_il.specs.declared.program.Slot.TheVariants.{Out, Then, Else}
use Rattle.rh_il.specs.declared.program.Stmt.{Stmt}
use Rattle.rh_il.specs.declared.program.Stmt.TheVariants.{Skip, Copy, Address, Load, Compute, Write, New, Call, Goto, If, Return}
use Rattle.rh_il.specs.Checks.{IsProgram, has_targets, is_closed, is_jump}
use Rattle.rh_il.specs.Flow.{edge_target, slot_target}
use Rattle.rh_il.proofs.Passed.{none_parts, passed, passes, proc_passed}
use Rattle.rh_il.proofs.ProcChecks.{ChecksPassed, checks_passed, stmt_passed}
use Rattle.rh_il_step.specs.declared.frame.Frame.{Frame}
use Rattle.rh_il_step.specs.State.{statement_at}
use Rattle.rh_il_step.specs.Step.{entered, past}

-- the frame is at that statement of that procedure
pub record Stands (procs : List Proc) (frame : Frame) (proc : Proc) (number : ℕ) (stmt : Stmt) : Type 0 where
  pub proc_at : slice_get procs frame.proc ≡ Some proc
  pub enters : edge_target proc frame.edge ≡ Some number
  pub stmt_at : slice_get proc.body number ≡ Some stmt

-- the statement of a number, with the number
abbrev numbered : Proc → ℕ → Option (ℕ × Stmt)
numbered proc number = option_map (λ stmt. (number, stmt)) (slice_get proc.body number)

numbered_parts : (proc : Proc) (n number : ℕ) (stmt : Stmt) → numbered proc n ≡ Some (number, stmt) → (n ≡ number) × (slice_get proc.body number ≡ Some stmt)
numbered_parts proc n number stmt is =
    let paired : Option Stmt → Option (ℕ × Stmt) = λ o. option_map {U = ℕ × Stmt} (λ s. (n, s)) o in
    elim (slice_get proc.body n) as (λ o. slice_get proc.body n ≡ o → paired o ≡ Some (number, stmt) → (n ≡ number) × (slice_get proc.body number ≡ Some stmt)) [
      | None ↦ λ read told. let none : ◌≡◌ {A = Option (ℕ × Stmt)} None (Some (number, stmt)) = told in cc
      | Some s ↦ λ read told.
          let parts = some_pair_parts n number s stmt told in
          (parts.0, subst (λ k. slice_get proc.body k ≡ Some stmt) parts.0 (read ∙ ap Some parts.1))
    ] refl is

module _ (procs : List Proc) (frame : Frame) where
  pub stands : (number : ℕ) (stmt : Stmt) → statement_at procs frame ≡ Some (number, stmt) → (proc : Proc) × Stands procs frame proc number stmt
  stands number stmt is =
      option_and_then_some (λ proc. option_and_then (numbered proc) (edge_target proc frame.edge)) (slice_get procs frame.proc) (number, stmt) is
      (λ proc proc_at rest. option_and_then_some (numbered proc) (edge_target proc frame.edge) (number, stmt) rest
      (λ n enters here.
      let parts = numbered_parts proc n number stmt here in
      (proc, record { proc_at = proc_at; enters = enters ∙ ap Some parts.0; stmt_at = parts.1 })))

  pub stands_at : (proc : Proc) (number : ℕ) (stmt : Stmt) → Stands procs frame proc number stmt → statement_at procs frame ≡ Some (number, stmt)
  stands_at proc number stmt at =
      ap (option_and_then (λ (p : Proc). option_and_then (numbered p) (edge_target p frame.edge))) at.proc_at
      ∙ ap (option_and_then (numbered proc)) at.enters
      ∙ ap (option_map (λ s. (number, s))) at.stmt_at

-- a frame whose edge enters one of the statements of its procedure is at a statement
pub enters_some : (procs : List Proc) (frame : Frame) (proc : Proc) (number : ℕ) → slice_get procs frame.proc ≡ Some proc → edge_target proc frame.edge ≡ Some number → number < length proc.body
    → IsSome (statement_at procs frame)
enters_some procs frame proc number proc_at enters below =
    let at = slice_get_some proc.body number below in
    ap is_some (stands_at procs frame proc number at.0 (record { proc_at = proc_at; enters = enters; stmt_at = at.1 }))
  where
    slice_get_some : (xs : List Stmt) (k : ℕ) → k < length xs → (x : Stmt) × (slice_get xs k ≡ Some x)
    slice_get_some [] k below = absurd (omega (arith, below))
    slice_get_some (x ∷ xs) zero below = (x, refl)
    slice_get_some (x ∷ xs) (suc k) below = slice_get_some xs k (omega (arith, below))

-- ---- the statements of a program lead to statements

module _ (procs : List Proc) (program : IsProgram procs) (place : ℕ) (proc : Proc) (proc_at : slice_get procs place ≡ Some proc) where
  checks : ChecksPassed (length procs) place proc
  checks = checks_passed (length procs) place proc (proc_passed procs place proc (passed procs program.passes) proc_at)

  targets : (number : ℕ) (stmt : Stmt) → slice_get proc.body number ≡ Some stmt → has_targets (length proc.body) stmt ≡ true
  targets number stmt at = passes _ _ _ _ (none_parts _ _ (stmt_passed (length procs) place proc number stmt checks at)).1

  closed : is_closed proc.body ≡ true
  closed = passes _ _ _ _ checks.closed

  -- a statement that is no jump is not the last
  pub another_after : (number : ℕ) (stmt : Stmt) → slice_get proc.body number ≡ Some stmt → is_jump stmt ≡ false → number + 1 < length proc.body
  another_after number stmt at plain =
      let below : number < length proc.body = slice_get_within proc.body number stmt at in
      elim (nat_lt (number + 1) (length proc.body)) as (λ b. nat_lt (number + 1) (length proc.body) ≡ b → number + 1 < length proc.body) [
        | true ↦ λ is. ltb-true (number + 1) (length proc.body) is
        | false ↦ λ is.
            let last : length proc.body - 1 ≡ number = omega (arith, below, ltb-false (number + 1) (length proc.body) is) in
            let jump : option_map_or is_jump (slice_get proc.body number) false ≡ true = ap (λ k. option_map_or is_jump (slice_get proc.body k) false) (sym last) ∙ closed in
            absurd (false≢true (sym plain ∙ sym (ap (λ o. option_map_or is_jump o false) at) ∙ jump))
      ] refl

  below : (to n : ℕ) → ◌≡◌ {A = Option ℕ} (Some to) (Some n) → nat_lt to (length proc.body) ≡ true → n < length proc.body
  below to n same is = subst (λ k. k < length proc.body) (same_Some to n same) (ltb-true to (length proc.body) is)

  next : (number : ℕ) (stmt : Stmt) (n : ℕ) → slice_get proc.body number ≡ Some stmt → is_jump stmt ≡ false → ◌≡◌ {A = Option ℕ} (Some (number + 1)) (Some n) → n < length proc.body
  next number stmt n at plain same = subst (λ k. k < length proc.body) (same_Some (number + 1) n same) (another_after number stmt at plain)

  pub first_statement : 0 < length proc.body
  first_statement = some proc.body closed
    where
      some : (body : List Stmt) → is_closed body ≡ true → 0 < length body
      some [] is = absurd (false≢true is)
      some (stmt ∷ body) is = omega arith

  -- a way out of a statement leads to a statement
  pub way_out : (number : ℕ) (stmt : Stmt) (slot : Slot) (n : ℕ) → slice_get proc.body number ≡ Some stmt → slot_target stmt number slot ≡ Some n → n < length proc.body
  way_out number Skip Out n at is = next number Skip n at refl is
  way_out number (Copy to from) Out n at is = next number (Copy to from) n at refl is
  way_out number (Address to of) Out n at is = next number (Address to of) n at refl is
  way_out number (Load to from) Out n at is = next number (Load to from) n at refl is
  way_out number (Compute to op left right) Out n at is = next number (Compute to op left right) n at refl is
  way_out number (Write to from) Out n at is = next number (Write to from) n at refl is
  way_out number (New to) Out n at is = next number (New to) n at refl is
  way_out number (Call to callee arg) Out n at is = next number (Call to callee arg) n at refl is
  way_out number (Goto to) Out n at is = below to n is (targets number (Goto to) at)
  way_out number (If cond taken other) Then n at is =
      below taken n is (and_parts (nat_lt taken (length proc.body)) (nat_lt other (length proc.body)) (targets number (If cond taken other) at)).0
  way_out number (If cond taken other) Else n at is =
      below other n is (and_parts (nat_lt taken (length proc.body)) (nat_lt other (length proc.body)) (targets number (If cond taken other) at)).1
  way_out number stmt slot n at is = cc
