-- The procedures of made programs pass the checks.
use Rattle.std.proofs.Common.{◌≡◌, ℕ, zero, suc, ◌-◌, ◌<◌, ◌≤◌, Bool, true, false, List, [], ◌∷◌, ◌++◌, length, Option, Some, None, refl, ap, ◌∙◌, arith}
use Rattle.std.proofs.lemmas.Bool.{le-leb}
use Rattle.std.proofs.lemmas.List.{length-append}
use Rattle.std.specs.Fmt.{digits}
use Rattle.std.specs.List.{AllByRecursion}
use Rattle.std.specs.Option.{option_and_then, option_map_or, option_or}
use Rattle.std.specs.Prelude.{slice_get}
use Rattle.rh_il.specs.Checks.{first_some, has_numbers, has_targets, is_jump, proc_fault, stmt_fault, unless}
use Rattle.rh_il.specs.declared.fault.Limited.TheVariants.{Stmts}
use Rattle.rh_il.specs.declared.fault.ProgWrong.{ProgWrong}
use Rattle.rh_il.specs.declared.fault.ProgWrong.TheVariants.{BadNumber, BadTarget, FallsOff, Limit}
use Rattle.rh_il.specs.declared.program.Proc.{Proc}
use Rattle.rh_il.specs.declared.program.Stmt.{Stmt}
use Rattle.rh_il.proofs.ProcChecks.{ends, few_stmts, fault_at, new_vars, some_vars, stmts_pass}
use Rattle.rh_list.proofs.AtPlace.{has_at, read_at}
use Rattle.rh_gen.specs.Generated.{returning, variables}
use Rattle.rh_gen.proofs.Fitting.{Fits}

pub none_both : {X : Type 0} (a b : Option X) → a ≡ None → b ≡ None → option_or a b ≡ None
none_both a b left right = ap (λ o. option_or o b) left ∙ right

pub passed_by : (test : Bool) (kind : ProgWrong) (proc item : ℕ) → test ≡ true → unless test kind proc item ≡ None
passed_by test kind proc item is = ap (λ t. unless t kind proc item) is

pub none_of : {X : Type 0} (n : ℕ) (found : ℕ → Option X) → ((k : ℕ) → k < n → found k ≡ None) → first_some n found ≡ None
none_of zero found none = refl
none_of (suc n) found none = none_both (first_some n found) (found n) (none_of n found (λ k below. none k (omega (arith, below)))) (none n (omega arith))

-- what stands after a list
pub seam : {X : Type 0} (xs : List X) (x : X) → slice_get (xs ++ x ∷ []) (length xs) ≡ Some x
seam [] x = refl
seam (y ∷ ys) x = seam ys x

abbrev pub proc_of : List ℕ → List Stmt → Proc
proc_of name front = record { name = name; vars = variables; body = front ++ returning ∷ [] }

module _ (total number : ℕ) (name : List ℕ) (front : List Stmt) where
  vars_few : some_vars number (proc_of name front) ≡ None
  unfolding variables
  vars_few = refl

  vars_new : new_vars number (proc_of name front) ≡ None
  unfolding variables digits
  vars_new = refl

  fault_none : (item : ℕ) (stmt : Stmt) → Fits total (length (front ++ returning ∷ [])) stmt → stmt_fault total number (proc_of name front) item stmt ≡ None
  unfolding variables
  fault_none item stmt fits =
      none_both (unless (has_numbers total 8 stmt) BadNumber number item) (unless (has_targets (length (front ++ returning ∷ [])) stmt) BadTarget number item)
      (passed_by _ BadNumber number item fits.0) (passed_by _ BadTarget number item fits.1)

  all_pass : AllByRecursion (Fits total (length (front ++ returning ∷ []))) (front ++ returning ∷ []) → stmts_pass total number (proc_of name front) ≡ None
  all_pass fits =
      none_of (length (front ++ returning ∷ [])) (fault_at total number (proc_of name front))
      (λ item below.
      let there = read_at (front ++ returning ∷ []) item below in
      ap (option_and_then (stmt_fault total number (proc_of name front) item)) there.1
      ∙ fault_none item there.0 (has_at (Fits total (length (front ++ returning ∷ []))) (front ++ returning ∷ []) item there.0 fits there.1))

  closed : ends number (proc_of name front) ≡ None
  closed =
      let size = length-append front (returning ∷ []) in
      let last : length (front ++ returning ∷ []) - 1 ≡ length front = omega (arith, size) in
      passed_by _ FallsOff number (length (front ++ returning ∷ []))
      (ap (λ (o : Option Stmt). option_map_or is_jump o false) (ap (slice_get (front ++ returning ∷ [])) last ∙ seam front returning))

  -- eight variables, at most 1,023 statements, and a return after them
  pub proc_passes : length front ≤ 1023 → AllByRecursion (Fits total (length (front ++ returning ∷ []))) (front ++ returning ∷ []) → proc_fault total number (proc_of name front) ≡ None
  unfolding proc_fault
  proc_passes short fits =
      let proc = proc_of name front in
      let size = length-append front (returning ∷ []) in
      let few : few_stmts number proc ≡ None = passed_by _ (Limit Stmts) number 0 (le-leb (length (front ++ returning ∷ [])) 1024 (omega (arith, size, short))) in
      none_both (some_vars number proc) (option_or (new_vars number proc) (option_or (few_stmts number proc) (option_or (stmts_pass total number proc) (ends number proc)))) vars_few
      (none_both (new_vars number proc) (option_or (few_stmts number proc) (option_or (stmts_pass total number proc) (ends number proc))) vars_new
      (none_both (few_stmts number proc) (option_or (stmts_pass total number proc) (ends number proc)) few
      (none_both (stmts_pass total number proc) (ends number proc) (all_pass fits) closed)))
