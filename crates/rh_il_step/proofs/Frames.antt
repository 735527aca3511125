-- Frames in a vector, the running procedure last.
use Rattle.std.proofs.Common.{ℕ, suc, ◌≡◌, ◌+◌, List, [], ◌∷◌, ◌++◌, length, get_or, reverse, slice_set, refl, ap, sym, ◌∙◌, subst, arith}
use Rattle.std.proofs.lemmas.List.{get_or_at, length-append, length-reverse, reverse-append, reverse-reverse, set_at}
use Rattle.rh_il.specs.declared.program.Slot.{Slot}
use Rattle.rh_il_step.specs.declared.frame.Frame.{Frame}
use Rattle.rh_il_step.specs.Step.{gone, past}

-- the running procedure leaves a statement where the last frame does
pub gone_reversed : (frames : List Frame) (at number : ℕ) (slot : Slot) (top : Frame) → at + 1 ≡ length frames → top ≡ get_or frames at top
    → reverse (slice_set frames at (past top number slot)) ≡ gone (reverse frames) number slot
gone_reversed frames at number slot top last read =
    elim (reverse frames) as (λ r. reverse frames ≡ r → reverse (slice_set frames at (past top number slot)) ≡ gone r number slot) [
      | [] ↦ λ none. let size : length frames ≡ 0 = sym (length-reverse frames) ∙ ap length none in absurd (omega arith)
      | x ∷ below ↦ λ is.
          let parts : frames ≡ reverse below ++ x ∷ [] = sym (reverse-reverse frames) ∙ ap reverse is ∙ reverse-append (x ∷ []) below in
          let size : length frames ≡ length (reverse below) + 1 = ap length parts ∙ length-append (reverse below) (x ∷ []) in
          let place : length (reverse below) ≡ at = omega arith in
          let same : top ≡ x = read ∙ ap (λ fs. get_or fs at top) parts ∙ get_or_at (reverse below) x [] top at place in
          ap (λ fs. reverse (slice_set fs at (past top number slot))) parts
          ∙ ap reverse (set_at (reverse below) x [] (past top number slot) at place)
          ∙ reverse-append (reverse below) (past top number slot ∷ [])
          ∙ ap (λ fs. past top number slot ∷ fs) (reverse-reverse below)
          ∙ ap (λ f. past f number slot ∷ below) same
    ] refl
