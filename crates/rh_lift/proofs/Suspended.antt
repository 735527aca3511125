-- Frames below the top one: each is at its call, over the store that there was when the call was made.
use Rattle.std.proofs.Common.{ℕ, ◌≡◌, ◌+◌, ◌<◌, ◌≤◌, List, [], ◌∷◌, length, ◌∙◌, arith}
use Rattle.std.specs.List.{AllByRecursion}
use Rattle.rh_list.specs.Each.{Each}
use Rattle.rh_il.specs.declared.program.Base.{Base}
use Rattle.rh_il.specs.declared.program.Proc.{Proc}
use Rattle.rh_il.specs.declared.program.Stmt.TheVariants.{Call}
use Rattle.rh_il.specs.declared.value.Value.{Value}
use Rattle.rh_il.specs.Checks.{IsProgram}
use Rattle.rh_il.specs.Numbers.{HasNumbers}
use Rattle.rh_rule.specs.declared.schema.Schema.{Schema}
use Rattle.rh_domain.specs.Facts.{Known}
use Rattle.rh_il_step.specs.declared.frame.Frame.{Frame}
use Rattle.rh_il_step.specs.State.{AreStacked, cell, width_of}
use Rattle.rh_il_step.proofs.Kept.{width_is}
use Rattle.rh_lift.specs.Standing.{Stands}
use Rattle.rh_lift.proofs.Footprints.{IsUnheld, KeepsBelow, keeps_lower}

-- each variable to which no cell of the old store points has its value in the new one, and no cell of that points to it
abbrev pub KeepsVariables : ℕ → ℕ → List Value → List Value → Type 0
KeepsVariables width base kept cells =
    (variable : ℕ) → variable < width → IsUnheld kept (base + variable) → (cell cells (base + variable) ≡ cell kept (base + variable)) × IsUnheld cells (base + variable)

-- the frame is at a call over the store that there was when it called, and the present store keeps its variables
pub record IsSuspended (schemas : List Schema) (known : Known) (procs : List Proc) (cells : List Value) (frame : Frame) : Type 0 where
  pub kept : List Value
  pub proc : Proc
  pub number : ℕ
  pub to : ℕ
  pub callee : ℕ
  pub arg : Base
  pub stands : Stands schemas known procs frame.proc frame.edge frame.base kept proc number (Call to callee arg)
  pub longer : length kept ≤ length cells
  pub keeps : KeepsVariables (length proc.vars) frame.base kept cells

abbrev pub AreSuspended : List Schema → Known → List Proc → List Value → List Frame → Type 0
AreSuspended schemas known procs cells frames = AllByRecursion (IsSuspended schemas known procs cells) frames

module _ (schemas : List Schema) (known : Known) (procs : List Proc) (program : IsProgram procs) (numbers : Each HasNumbers procs) where
  one_kept : (frame : Frame) (limit : ℕ) (cells new : List Value) → frame.base + width_of procs frame ≤ limit → KeepsBelow limit cells new
      → IsSuspended schemas known procs cells frame → IsSuspended schemas known procs new frame
  one_kept frame limit cells new stacked keeps suspended =
      let width : width_of procs frame ≡ length suspended.proc.vars = width_is procs program numbers frame suspended.proc suspended.stands.proc_at in
      record {
        kept = suspended.kept;
        proc = suspended.proc;
        number = suspended.number;
        to = suspended.to;
        callee = suspended.callee;
        arg = suspended.arg;
        stands = suspended.stands;
        longer = omega (arith, suspended.longer, keeps.longer);
        keeps = λ variable inside unheld.
            let below : frame.base + variable < limit = omega (arith, stacked, width, inside) in
            let old = suspended.keeps variable inside unheld in
            (keeps.same (frame.base + variable) below old.1 ∙ old.0, keeps.unheld (frame.base + variable) below old.1);
      }

  -- what leaves the cells below the top frame as they are keeps each frame there
  pub suspended_kept : (frames : List Frame) (limit : ℕ) (cells new : List Value) → AreStacked procs frames limit → KeepsBelow limit cells new
      → AreSuspended schemas known procs cells frames → AreSuspended schemas known procs new frames
  suspended_kept [] limit cells new stacked keeps suspended = tt
  suspended_kept (frame ∷ frames) limit cells new stacked keeps suspended =
      let lower : frame.base ≤ limit = omega (arith, stacked.0) in (
        one_kept frame limit cells new stacked.0 keeps suspended.0,
        suspended_kept frames frame.base cells new stacked.1 (keeps_lower frame.base limit cells new lower keeps) suspended.1,
      )
