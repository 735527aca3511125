-- One more statement, or one more procedure, and those that are left.
use Rattle.std.proofs.Common.{◌≡◌, ℕ, suc, ◌+◌, List, [], ◌∷◌, ◌++◌, append_assoc, append-nil, ap, sym, ◌∙◌}
use Rattle.rh_il.specs.declared.program.Proc.{Proc}
use Rattle.rh_il.specs.declared.program.Stmt.{Stmt}
use Rattle.rh_gen.specs.Generated.{made, made_proc, procs_from, state_after, stmts_from}

-- a list is joined to what is left, the first of which is put at its end
shifted : {X : Type 0} (out after rest whole : List X) (x : X) → after ≡ out ++ x ∷ [] → out ++ x ∷ rest ≡ whole → after ++ rest ≡ whole
shifted out after rest whole x one so_far = ap (λ a. a ++ rest) one ∙ append_assoc out (x ∷ []) rest ∙ so_far

module _ (procs number count left state later : ℕ) (more : left ≡ suc count) where
  pub stmt_more : (out after whole : List Stmt) → later ≡ (made procs number state).1 → after ≡ out ++ (made procs number state).0 ∷ [] → out ++ stmts_from procs number left state ≡ whole
      → after ++ stmts_from procs (number + 1) count later ≡ whole
  unfolding stmts_from
  stmt_more out after whole is one so_far =
      ap (λ s. after ++ stmts_from procs (number + 1) count s) is
      ∙ shifted out after (stmts_from procs (number + 1) count (made procs number state).1) whole (made procs number state).0 one (ap (λ n. out ++ stmts_from procs number n state) (sym more) ∙ so_far)

  pub state_more : (whole : ℕ) → later ≡ (made procs number state).1 → state_after procs number left state ≡ whole → state_after procs (number + 1) count later ≡ whole
  unfolding state_after
  state_more whole is so_far = ap (state_after procs (number + 1) count) is ∙ ap (λ n. state_after procs number n state) (sym more) ∙ so_far

  pub proc_more : (out after whole : List Proc) → later ≡ state_after procs 0 39 state → after ≡ out ++ made_proc procs number state ∷ [] → out ++ procs_from procs number left state ≡ whole
      → after ++ procs_from procs (number + 1) count later ≡ whole
  unfolding procs_from
  proc_more out after whole is one so_far =
      ap (λ s. after ++ procs_from procs (number + 1) count s) is
      ∙ shifted out after (procs_from procs (number + 1) count (state_after procs 0 39 state)) whole (made_proc procs number state) one (ap (λ n. out ++ procs_from procs number n state) (sym more) ∙ so_far)

module _ (procs number left state : ℕ) (none : left ≡ 0) where
  pub all_stmts : (out whole : List Stmt) → out ++ stmts_from procs number left state ≡ whole → out ≡ whole
  unfolding stmts_from
  all_stmts out whole so_far = sym (append-nil out) ∙ ap (λ n. out ++ stmts_from procs number n state) (sym none) ∙ so_far

  pub last_state : (whole : ℕ) → state_after procs number left state ≡ whole → state ≡ whole
  unfolding state_after
  last_state whole so_far = ap (λ n. state_after procs number n state) (sym none) ∙ so_far

  pub all_procs : (out whole : List Proc) → out ++ procs_from procs number left state ≡ whole → out ≡ whole
  unfolding procs_from
  all_procs out whole so_far = sym (append-nil out) ∙ ap (λ n. out ++ procs_from procs number n state) (sym none) ∙ so_far
