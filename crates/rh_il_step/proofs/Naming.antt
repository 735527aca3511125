-- The procedures and variables that the statements of a program name are there.
use Rattle.std.proofs.Common.{ℕ, ◌≡◌, ◌<◌, List, length, Some, ap, sym, subst}
use Rattle.std.specs.Option.{option_map_or}
use Rattle.std.specs.Prelude.{nat_lt, slice_get, ◌&&◌}
use Rattle.std.proofs.lemmas.Bool.{and_parts, ltb-true}
use Rattle.rh_il.specs.declared.program.Base.{Base}
use Rattle.rh_il.specs.declared.program.Proc.{Proc}
use Rattle.rh_il.specs.declared.program.Stmt.TheVariants.{Address, Call}
use Rattle.rh_il.specs.Checks.{IsProgram}
use Rattle.rh_il.proofs.ProcChecks.{stmt_in_range}
use Rattle.rh_il_step.specs.declared.frame.Frame.{Frame}
use Rattle.rh_il_step.specs.State.{statement_at, width_of}
use Rattle.rh_il_step.proofs.Standing.{stands}

module _ (procs : List Proc) (program : IsProgram procs) (frame : Frame) where
  pub called_is_there : (number to callee : ℕ) (arg : Base) → statement_at procs frame ≡ Some (number, Call to callee arg) → callee < length procs
  called_is_there number to callee arg is =
      let at = stands procs frame number (Call to callee arg) is in
      let ranged = stmt_in_range procs frame.proc at.0 number (Call to callee arg) program at.1.proc_at at.1.stmt_at in
      let rest = (and_parts (nat_lt to (length at.0.vars)) (nat_lt callee (length procs) && _) ranged).1 in
      ltb-true callee (length procs) (and_parts (nat_lt callee (length procs)) _ rest).0

  pub pointed_is_own : (number to of : ℕ) → statement_at procs frame ≡ Some (number, Address to of) → of < width_of procs frame
  pointed_is_own number to of is =
      let at = stands procs frame number (Address to of) is in
      let ranged = stmt_in_range procs frame.proc at.0 number (Address to of) program at.1.proc_at at.1.stmt_at in
      let width : width_of procs frame ≡ length at.0.vars = ap (λ o. option_map_or (λ (p : Proc). length p.vars) o 0) at.1.proc_at in
      subst (λ n. of < n) (sym width) (ltb-true of (length at.0.vars) (and_parts (nat_lt to (length at.0.vars)) (nat_lt of (length at.0.vars)) ranged).1)
