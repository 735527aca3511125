-- What is known of each procedure of a program.
use Rattle.std.proofs.Common.{◌≡◌, ℕ, suc, ◌<◌, ◌≤◌, true, List, [], ◌∷◌, length, Option, None, refl}
use Rattle.std.proofs.lemmas.Bool.{leb-true, and_parts}
use Rattle.std.specs.Prelude.{slice_get, nat_le, codes}
use Rattle.std.specs.List.{AllByRecursion, list_all, list_any}
use Rattle.std.specs.Option.{option_or, option_and_then}
use Rattle.rh_list.specs.Each.{Each}
use Rattle.rh_list.proofs.AtPlace.{passes_at}
use Rattle.rh_il.specs.declared.program.Proc.{Proc}
use Rattle.rh_il.specs.declared.program.Stmt.{Stmt}
use Rattle.rh_il.specs.declared.fault.Limited.TheVariants.{Procs}
use Rattle.rh_il.specs.declared.fault.ProgFault.{ProgFault}
use Rattle.rh_il.specs.declared.fault.ProgWrong.TheVariants.{DuplicateName, NoMain, Limit}
use Rattle.rh_il.specs.Checks.{first_some, unless, is_new_at, is_new_proc_at, has_numbers, has_targets, stmt_fault, proc_fault, program_fault, is_proper, has_proper_names, is_called}
use Rattle.rh_il.specs.Numbers.{HasNumbers, operand_numbers}
use Rattle.rh_il.specs.Value.{IsNumber}
use Rattle.rh_il.proofs.Passed.{none_at, none_parts, passed, passes, proc_passed}
use Rattle.rh_il.proofs.ProcChecks.{checks_passed, new_at, stmt_passed}
use Rattle.rh_il_print.proofs.Fits.{IsProper}

-- what each item has at its place
pub each_all : {X : Type 0} (P : X → Type 0) (xs : List X) → Each P xs → AllByRecursion P xs
each_all P [] each = tt
each_all P (x ∷ xs) each = (each 0 x refl, each_all P xs (λ i y read. each (suc i) y read))

-- a statement of a procedure with so many variables and statements, in a program of so many procedures
pub record StmtChecked (procs vars stmts : ℕ) (stmt : Stmt) : Type 0 where
  pub numbers : has_numbers procs vars stmt ≡ true
  pub targets : has_targets stmts stmt ≡ true
  pub fits : AllByRecursion IsNumber (operand_numbers stmt)

-- a procedure of a program of so many
pub record ProcChecked (procs : ℕ) (proc : Proc) : Type 0 where
  pub name : IsProper proc.name
  pub proper : list_all is_proper proc.vars ≡ true
  pub some : 0 < length proc.vars
  pub few : length proc.vars ≤ 64
  pub new : (x : ℕ) → x < length proc.vars → is_new_at proc.vars x ≡ true
  pub short : length proc.body ≤ 1024
  pub stmts : AllByRecursion (StmtChecked procs (length proc.vars) (length proc.body)) proc.body

-- the procedures of a program
pub record ProcsChecked (procs : List Proc) : Type 0 where
  pub few : length procs ≤ 256
  pub new : (i : ℕ) → i < length procs → is_new_proc_at procs i ≡ true

stmt_checked : (procs number : ℕ) (proc : Proc) (item : ℕ) (stmt : Stmt) → stmt_fault procs number proc item stmt ≡ None → AllByRecursion IsNumber (operand_numbers stmt)
    → StmtChecked procs (length proc.vars) (length proc.body) stmt
stmt_checked procs number proc item stmt h fits =
    let parts = none_parts _ _ h in
    record { numbers = passes _ _ _ _ parts.0; targets = passes _ _ _ _ parts.1; fits = fits }

proc_checked : (procs number : ℕ) (proc : Proc) → has_proper_names proc ≡ true → proc_fault procs number proc ≡ None → HasNumbers proc → ProcChecked procs proc
proc_checked procs number proc named h fits =
    let known = checks_passed procs number proc h in
    let names = and_parts (is_proper proc.name) (list_all is_proper proc.vars) named in
    let vars = and_parts (nat_le 1 (length proc.vars)) (nat_le (length proc.vars) 64) (passes _ _ _ _ known.vars) in
    record {
      name = names.0;
      proper = names.1;
      some = leb-true 1 (length proc.vars) vars.0;
      few = leb-true (length proc.vars) 64 vars.1;
      new = λ x lt. passes (is_new_at proc.vars x) DuplicateName number x (none_at (length proc.vars) (new_at number proc) x known.names lt);
      short = leb-true (length proc.body) 1024 (passes _ _ _ _ known.short);
      stmts = each_all (StmtChecked procs (length proc.vars) (length proc.body)) proc.body
          (λ i stmt read. stmt_checked procs number proc i stmt (stmt_passed procs number proc i stmt known read) (fits i stmt read));
    }

-- those of a program
module _ (procs : List Proc) where
  abbrev new_proc_at : ℕ → Option ProgFault
  new_proc_at number = unless (is_new_proc_at procs number) DuplicateName number 0

  abbrev proc_fault_at : ℕ → Option ProgFault
  proc_fault_at number = option_and_then (proc_fault (length procs) number) (slice_get procs number)

  pub procs_checked : program_fault procs ≡ None → ProcsChecked procs
  unfolding program_fault
  procs_checked h =
      let few = unless (nat_le (length procs) 256) (Limit Procs) 0 0 in
      let new = first_some (length procs) new_proc_at in
      let others = option_or (first_some (length procs) proc_fault_at) (unless (list_any (is_called (codes "main")) procs) NoMain 0 0) in
      let a = none_parts few (option_or new others) h in
      let b = none_parts new others a.1 in
      record {
        few = leb-true (length procs) 256 (passes _ _ _ _ a.0);
        new = λ i lt. passes (is_new_proc_at procs i) DuplicateName i 0 (none_at (length procs) new_proc_at i b.0 lt);
      }

  -- each procedure of a program
  pub each_checked : list_all has_proper_names procs ≡ true → program_fault procs ≡ None → Each HasNumbers procs → AllByRecursion (ProcChecked (length procs)) procs
  each_checked named passes fits =
      each_all (ProcChecked (length procs)) procs
      (λ i proc read.
      proc_checked (length procs) i proc (passes_at has_proper_names procs i proc named read) (proc_passed procs i proc (passed procs passes) read) (fits i proc read))
