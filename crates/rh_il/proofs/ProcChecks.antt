-- The checks of a procedure, in their order.
use Rattle.std.proofs.Common.{ℕ, ◌≡◌, List, length, Option, Some, None, ap, sym, ◌∙◌}
use Rattle.std.proofs.lemmas.Option.{slice_get_within}
use Rattle.std.specs.Option.{option_and_then, option_or}
use Rattle.std.specs.Prelude.{true, ◌&&◌, nat_le, slice_get}
use Rattle.rh_il.specs.declared.program.Proc.{Proc}
use Rattle.rh_il.specs.declared.program.Stmt.{Stmt}
use Rattle.rh_il.specs.declared.fault.Limited.TheVariants.{Vars, Stmts}
use Rattle.rh_il.specs.declared.fault.ProgFault.{ProgFault}
use Rattle.rh_il.specs.declared.fault.ProgWrong.TheVariants.{DuplicateName, FallsOff, Limit}
use Rattle.rh_il.specs.Checks.{first_some, is_closed, is_new_at, unless, IsProgram, has_numbers, proc_fault, stmt_fault}
use Rattle.rh_il.proofs.Passed.{none_at, none_parts, passed, passes, proc_passed}

abbrev pub some_vars : ℕ → Proc → Option ProgFault
some_vars number proc = unless (nat_le 1 (length proc.vars) && nat_le (length proc.vars) 64) (Limit Vars) number 0

abbrev pub new_at : ℕ → Proc → ℕ → Option ProgFault
new_at number proc item = unless (is_new_at proc.vars item) DuplicateName number item

abbrev pub new_vars : ℕ → Proc → Option ProgFault
new_vars number proc = first_some (length proc.vars) (new_at number proc)

abbrev pub few_stmts : ℕ → Proc → Option ProgFault
few_stmts number proc = unless (nat_le (length proc.body) 1024) (Limit Stmts) number 0

abbrev pub fault_at : ℕ → ℕ → Proc → ℕ → Option ProgFault
fault_at procs number proc item = option_and_then (stmt_fault procs number proc item) (slice_get proc.body item)

abbrev pub stmts_pass : ℕ → ℕ → Proc → Option ProgFault
stmts_pass procs number proc = first_some (length proc.body) (fault_at procs number proc)

abbrev pub ends : ℕ → Proc → Option ProgFault
ends number proc = unless (is_closed proc.body) FallsOff number (length proc.body)

-- a procedure that passes each of them
pub record ChecksPassed (procs number : ℕ) (proc : Proc) : Type 0 where
  pub vars : some_vars number proc ≡ None
  pub names : new_vars number proc ≡ None
  pub short : few_stmts number proc ≡ None
  pub stmts : stmts_pass procs number proc ≡ None
  pub closed : ends number proc ≡ None

pub checks_passed : (procs number : ℕ) (proc : Proc) → proc_fault procs number proc ≡ None → ChecksPassed procs number proc
unfolding proc_fault
checks_passed procs number proc passed =
    let a = none_parts (some_vars number proc) (option_or (new_vars number proc) (option_or (few_stmts number proc) (option_or (stmts_pass procs number proc) (ends number proc)))) passed in
    let b = none_parts (new_vars number proc) (option_or (few_stmts number proc) (option_or (stmts_pass procs number proc) (ends number proc))) a.1 in
    let c = none_parts (few_stmts number proc) (option_or (stmts_pass procs number proc) (ends number proc)) b.1 in
    let d = none_parts (stmts_pass procs number proc) (ends number proc) c.1 in
    record { vars = a.0; names = b.0; short = c.0; stmts = d.0; closed = d.1 }

pub stmt_passed : (procs number : ℕ) (proc : Proc) (item : ℕ) (stmt : Stmt) → ChecksPassed procs number proc → slice_get proc.body item ≡ Some stmt → stmt_fault procs number proc item stmt ≡ None
stmt_passed procs number proc item stmt passed read =
    ap (option_and_then (stmt_fault procs number proc item)) (sym read)
    ∙ none_at (length proc.body) (fault_at procs number proc) item passed.stmts (slice_get_within proc.body item stmt read)

-- the variables of a program's statements are those of their procedures
pub stmt_in_range : (procs : List Proc) (place : ℕ) (proc : Proc) (item : ℕ) (stmt : Stmt) → IsProgram procs → slice_get procs place ≡ Some proc → slice_get proc.body item ≡ Some stmt
    → has_numbers (length procs) (length proc.vars) stmt ≡ true
stmt_in_range procs place proc item stmt program read here =
    let known = checks_passed (length procs) place proc (proc_passed procs place proc (passed procs program.passes) read) in
    passes _ _ _ _ (none_parts _ _ (stmt_passed (length procs) place proc item stmt known here)).0
