-- The checks of a program, in their order.
use Rattle.std.specs.Prelude.{◌≡◌, ℕ, zero, suc, ◌-◌, ◌≤◌, Bool, true, false, not, ◌&&◌, nat_lt, nat_le, List, [], length, take, Option, Some, None, codes, slice_get, slice_index_or}
use Rattle.std.specs.List.{list_any, list_all, position}
use Rattle.std.specs.Option.{is_none, option_or, option_and_then, option_map_or}
use Rattle.std.specs.Str.{bytes_eq}
use Rattle.rh_il.specs.Keywords.{keyword_of}
use Rattle.rh_il.specs.Name.{is_lower_name}
use Rattle.rh_il.specs.declared.program.Base.{Base}
use Rattle.rh_il.specs.declared.program.Base.TheVariants.{Var, Num}
use Rattle.rh_il.specs.declared.program.Stmt.{Stmt}
use Rattle.rh_il.specs.declared.program.Stmt.TheVariants.{Skip, Copy, Address, Load, Compute, Write, New, Call, Goto, If, Return}
use Rattle.rh_il.specs.declared.program.Proc.{Proc}
use Rattle.rh_il.specs.declared.fault.Limited.TheVariants.{Procs, Vars, Stmts}
use Rattle.rh_il.specs.declared.fault.ProgWrong.{ProgWrong}
use Rattle.rh_il.specs.declared.fault.ProgWrong.TheVariants.{DuplicateName, BadNumber, BadTarget, FallsOff, NoMain, Limit}
use Rattle.rh_il.specs.declared.fault.ProgFault.{ProgFault}
use Rattle.rh_il.specs.declared.fault.ProgFault.TheVariants.{Wrong}

-- a name that begins with a small letter and is no reserved word
abbrev pub is_proper : List ℕ → Bool
is_proper name = is_lower_name name && is_none (keyword_of name)

abbrev pub has_proper_names : Proc → Bool
has_proper_names proc = is_proper proc.name && list_all is_proper proc.vars

-- the first that there is, of so many
abbrev pub first_some : {X : Type 0} → ℕ → (ℕ → Option X) → Option X
first_some zero found = None
first_some (suc n) found = option_or (first_some n found) (found n)

-- the fault, if the test fails
abbrev pub unless : Bool → ProgWrong → ℕ → ℕ → Option ProgFault
unless true kind proc item = None
unless false kind proc item = Some (Wrong kind proc item)

-- no earlier name equals the one at the place
abbrev pub is_new_at : List (List ℕ) → ℕ → Bool
is_new_at names i = not (list_any (bytes_eq (slice_index_or names i [])) (take i names))

abbrev pub is_base : ℕ → Base → Bool
is_base vars (Var x) = nat_lt x vars
is_base vars (Num c) = true

-- the variables and the procedure of a statement are in range
abbrev pub has_numbers : ℕ → ℕ → Stmt → Bool
has_numbers procs vars Skip = true
has_numbers procs vars (Copy to from) = nat_lt to vars && is_base vars from
has_numbers procs vars (Address to of) = nat_lt to vars && nat_lt of vars
has_numbers procs vars (Load to from) = nat_lt to vars && nat_lt from vars
has_numbers procs vars (Compute to op left right) = nat_lt to vars && (is_base vars left && is_base vars right)
has_numbers procs vars (Write to from) = nat_lt to vars && is_base vars from
has_numbers procs vars (New to) = nat_lt to vars
has_numbers procs vars (Call to proc arg) = nat_lt to vars && (nat_lt proc procs && is_base vars arg)
has_numbers procs vars (Goto to) = true
has_numbers procs vars (If cond taken other) = is_base vars cond
has_numbers procs vars (Return value) = is_base vars value

-- the targets of a statement are in range
abbrev pub has_targets : ℕ → Stmt → Bool
has_targets stmts (Goto to) = nat_lt to stmts
has_targets stmts (If cond taken other) = nat_lt taken stmts && nat_lt other stmts
has_targets stmts stmt = true

-- control does not go on to the next statement
abbrev pub is_jump : Stmt → Bool
is_jump (Goto to) = true
is_jump (If cond taken other) = true
is_jump (Return value) = true
is_jump stmt = false

-- control cannot run off the end of the body
abbrev pub is_closed : List Stmt → Bool
is_closed body = option_map_or is_jump (slice_get body (length body - 1)) false

-- the first fault of a statement
abbrev pub stmt_fault : ℕ → ℕ → Proc → ℕ → Stmt → Option ProgFault
stmt_fault procs proc p item stmt =
    option_or (unless (has_numbers procs (length p.vars) stmt) BadNumber proc item) (unless (has_targets (length p.body) stmt) BadTarget proc item)

-- the first fault of a procedure with this number, in a program of so many
unfoldable pub proc_fault : ℕ → ℕ → Proc → Option ProgFault
proc_fault procs proc p =
    option_or (unless (nat_le 1 (length p.vars) && nat_le (length p.vars) 64) (Limit Vars) proc 0)
    (option_or (first_some (length p.vars) (λ item. unless (is_new_at p.vars item) DuplicateName proc item))
    (option_or (unless (nat_le (length p.body) 1024) (Limit Stmts) proc 0)
    (option_or (first_some (length p.body) (λ item. option_and_then (stmt_fault procs proc p item) (slice_get p.body item)))
    (unless (is_closed p.body) FallsOff proc (length p.body)))))

-- a procedure has this name
abbrev pub is_called : List ℕ → Proc → Bool
is_called name proc = bytes_eq name proc.name

-- no earlier procedure has the name of the one at the place
abbrev pub is_new_proc_at : List Proc → ℕ → Bool
is_new_proc_at procs i = option_map_or (λ p. not (list_any (is_called p.name) (take i procs))) (slice_get procs i) true

-- the first fault of the procedures of a program
unfoldable pub program_fault : List Proc → Option ProgFault
program_fault procs =
    option_or (unless (nat_le (length procs) 256) (Limit Procs) 0 0)
    (option_or (first_some (length procs) (λ proc. unless (is_new_proc_at procs proc) DuplicateName proc 0))
    (option_or (first_some (length procs) (λ proc. option_and_then (proc_fault (length procs) proc) (slice_get procs proc)))
    (unless (list_any (is_called (codes "main")) procs) NoMain 0 0)))

-- procedures that pass every check
pub record IsProgram (procs : List Proc) : Type 0 where
  pub names : list_all has_proper_names procs ≡ true
  pub passes : program_fault procs ≡ None

-- the number of the procedure `main`
abbrev pub main_of : List Proc → Option ℕ
main_of procs = position (is_called (codes "main")) procs

-- a procedure of a program has at most 64 variables and at most 1,024 statements
pub record ProcPassed (proc : Proc) : Type 0 where
  pub vars : length proc.vars ≤ 64
  pub body : length proc.body ≤ 1024
