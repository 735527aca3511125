-- Programs that are made of drawn numbers.
use Rattle.std.specs.Prelude.{ℕ, zero, suc, ◌+◌, ◌-◌, pos, List, [], ◌∷◌, ◌++◌, codes, map, slice_index_or}
use Rattle.std.specs.Fmt.{decimal}
use Rattle.std.specs.List.{range_with_len}
use Rattle.rh_il.specs.declared.value.Op.TheVariants.{Add, Less}
use Rattle.rh_il.specs.declared.program.Base.TheVariants.{Var, Num}
use Rattle.rh_il.specs.declared.program.Stmt.{Stmt}
use Rattle.rh_il.specs.declared.program.Stmt.TheVariants.{Skip, Copy, Address, Load, Compute, Write, New, Call, If, Return}
use Rattle.rh_il.specs.declared.program.Proc.{Proc}
use Rattle.rh_gen.specs.Draws.{drawn, next}

-- a letter, and a number after it
abbrev pub numbered : ℕ → ℕ → List ℕ
numbered letter number = letter ∷ decimal number

-- the variables of each procedure: v0 to v7 (118 is the letter v)
unfoldable pub variables : List (List ℕ)
variables = map (numbered 118) (range_with_len 0 8)

-- a statement that may be drawn, and the state after the numbers of which it is made
abbrev pub Choice : Type 0
Choice = Stmt × ℕ

-- what may be drawn as the statement with a number, by its kind: `to` is its variable, and what else it needs is drawn after a state
abbrev pub choices : ℕ → ℕ → ℕ → ℕ → List Choice
choices procs number to state =
    let first = next state in
    let second = next first in
    (Copy to (Num (pos (drawn 8 first))), first)
    ∷ (Copy to (Var (drawn 8 first)), first)
    ∷ (Compute to Add (Var (drawn 8 first)) (Var (drawn 8 second)), second)
    ∷ (Compute to Less (Var (drawn 8 first)) (Var (drawn 8 second)), second)
    ∷ (Address to (drawn 8 first), first)
    ∷ (Load to (drawn 8 first), first)
    ∷ (Write to (Var (drawn 8 first)), first)
    ∷ (New to, state)
    ∷ (If (Var to) (number + 1 + drawn (39 - number) first) (number + 1 + drawn (39 - number) second), second)
    ∷ (Call to (drawn procs first) (Var (drawn 8 second)), second)
    ∷ []

-- the statement with a number in a program of so many procedures besides `main`: its kind is drawn first, and then its variable
abbrev pub made : ℕ → ℕ → ℕ → Choice
made procs number state =
    let kind = next state in
    let to = next kind in
    slice_index_or (choices procs number (drawn 8 to) to) (drawn 10 kind) (Skip, to)

-- so many statements from a number on
unfoldable pub stmts_from : ℕ → ℕ → ℕ → ℕ → List Stmt
stmts_from procs number zero state = []
stmts_from procs number (suc count) state = (made procs number state).0 ∷ stmts_from procs (number + 1) count (made procs number state).1

-- the state after them
unfoldable pub state_after : ℕ → ℕ → ℕ → ℕ → ℕ
state_after procs number zero state = state
state_after procs number (suc count) state = state_after procs (number + 1) count (made procs number state).1

-- `return v1`
abbrev pub returning : Stmt
returning = Return (Var 1)

-- the procedure with a number, as p1: 39 drawn statements, and a return (112 is the letter p)
abbrev pub made_proc : ℕ → ℕ → ℕ → Proc
made_proc procs number state = record { name = numbered 112 number; vars = variables; body = stmts_from procs 0 39 state ++ returning ∷ [] }

-- so many procedures from a number on
unfoldable pub procs_from : ℕ → ℕ → ℕ → ℕ → List Proc
procs_from procs number zero state = []
procs_from procs number (suc count) state = made_proc procs number state ∷ procs_from procs (number + 1) count (state_after procs 0 39 state)

-- `v1 := pk(v0)` of the procedure with a place
abbrev pub call_of : ℕ → Stmt
call_of place = Call 1 place (Var 0)

-- `main` calls all the others
abbrev pub main_proc : ℕ → Proc
main_proc procs = record { name = codes "main"; vars = variables; body = map call_of (range_with_len 0 procs) ++ returning ∷ [] }

-- the made program of so many procedures and `main`
unfoldable pub generated : ℕ → List Proc
generated procs = procs_from procs 1 procs procs ++ main_proc procs ∷ []
