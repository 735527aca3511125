-- Which names a text declares, and the numbers that they have.
use Rattle.std.specs.Prelude.{ℕ, ℤ, pos, ◌^◌, Bool, true, List, [], map, Option, Some, None, nat_lt, nat_le, if◌then◌else◌, unwrap_or}
use Rattle.std.specs.List.{flat_map, list_any, position}
use Rattle.std.specs.Option.{option_and_then}
use Rattle.std.specs.Str.{bytes_eq}
use Rattle.rh_text.specs.Decimal.{signed}
use Rattle.rh_il.specs.declared.program.Base.{Base}
use Rattle.rh_il.specs.declared.program.Base.TheVariants.{Var as VarBase, Num as NumBase}
use Rattle.rh_il.specs.declared.program.Stmt.{Stmt}
use Rattle.rh_il.specs.declared.program.Stmt.TheVariants.{Skip as SkipStmt, Copy as CopyStmt, Address as AddressStmt, Load as LoadStmt, Compute as ComputeStmt, Write as WriteStmt, New as NewStmt, Call as CallStmt, Goto as GotoStmt, If as IfStmt, Return as ReturnStmt}
use Rattle.rh_il.specs.declared.program.Proc.{Proc}
use Rattle.rh_il_source.specs.declared.word.Word.{Word}
use Rattle.rh_il_source.specs.declared.source.Operand.{Operand}
use Rattle.rh_il_source.specs.declared.source.Operand.TheVariants.{Var, Num}
use Rattle.rh_il_source.specs.declared.source.Line.{Line}
use Rattle.rh_il_source.specs.declared.source.Line.TheVariants.{Skip, Copy, Address, Load, Compute, Write, New, Call, Goto, If, Return}
use Rattle.rh_il_source.specs.declared.source.Source.{Source}
use Rattle.rh_il_source.specs.Source.{operand_entries, line_entries, closed_line, more_entries, locals_entries, vars_entries, source_entries}

-- the name is one of those
abbrev pub is_known : List (List ℕ) → List ℕ → Bool
is_known names name = list_any (bytes_eq name) names

-- nothing else can be missing
abbrev pub is_there : Word → Bool
is_there word = true

-- For each word, whether it is anything but an unknown name: a variable that the procedure does not
-- declare, or a called procedure that the file does not have.
abbrev pub operand_marks : List (List ℕ) → List (List ℕ) → Operand → List Bool
operand_marks vars procs = operand_entries (is_known vars) (is_known procs) is_there

abbrev pub line_marks : List (List ℕ) → List (List ℕ) → Line → List Bool
line_marks vars procs = line_entries (is_known vars) (is_known procs) is_there

abbrev pub closed_marks : List (List ℕ) → List (List ℕ) → Line → List Bool
closed_marks vars procs = closed_line (is_known vars) (is_known procs) is_there

abbrev pub more_marks : List (List ℕ) → List Bool
more_marks names = more_entries (is_known []) (is_known []) is_there names

abbrev pub locals_marks : List (List ℕ) → List Bool
locals_marks names = locals_entries (is_known []) (is_known []) is_there names

abbrev pub vars_marks : List (List ℕ) → List Bool
vars_marks names = vars_entries (is_known []) (is_known []) is_there names

abbrev pub source_marks : List (List ℕ) → Source → List Bool
source_marks procs p = source_entries (is_known p.vars) (is_known procs) is_there p

-- the names of procedures
abbrev pub names_of : List Source → List (List ℕ)
names_of sources = map (λ p. p.name) sources

abbrev pub file_marks : List Source → List Bool
file_marks sources = flat_map (source_marks (names_of sources)) sources

-- a number of 32 bits; a text has fewer names
abbrev pub within : ℕ → Option ℕ
within n = if nat_lt n (2 ^ 32) then Some n else None

-- the number of a name, counted from 0, and 0 of a name that is not there
abbrev pub place_of : List (List ℕ) → List ℕ → ℕ
place_of names name = unwrap_or (option_and_then within (position (bytes_eq name) names)) 0

-- the number of a sign and a size, and 0 where 64 bits have none, as in no program
abbrev pub number_of : Bool → ℕ → ℤ
number_of negative size = if nat_le size (2 ^ 63) then unwrap_or (signed negative size) (pos 0) else pos 0

abbrev pub base_of : List (List ℕ) → Operand → Base
base_of vars (Var name) = VarBase (place_of vars name)
base_of vars (Num negative size) = NumBase (number_of negative size)

-- a statement with numbers in place of names
abbrev pub stmt_of : List (List ℕ) → List (List ℕ) → Line → Stmt
stmt_of vars procs Skip = SkipStmt
stmt_of vars procs (Copy to from) = CopyStmt (place_of vars to) (base_of vars from)
stmt_of vars procs (Address to of) = AddressStmt (place_of vars to) (place_of vars of)
stmt_of vars procs (Load to from) = LoadStmt (place_of vars to) (place_of vars from)
stmt_of vars procs (Compute to op left right) = ComputeStmt (place_of vars to) op (base_of vars left) (base_of vars right)
stmt_of vars procs (Write to from) = WriteStmt (place_of vars to) (base_of vars from)
stmt_of vars procs (New to) = NewStmt (place_of vars to)
stmt_of vars procs (Call to proc arg) = CallStmt (place_of vars to) (place_of procs proc) (base_of vars arg)
stmt_of vars procs (Goto to) = GotoStmt to
stmt_of vars procs (If cond taken other) = IfStmt (base_of vars cond) taken other
stmt_of vars procs (Return value) = ReturnStmt (base_of vars value)

abbrev pub proc_of : List (List ℕ) → Source → Proc
proc_of procs p = record { name = p.name; vars = p.vars; body = map (stmt_of p.vars procs) p.body }

-- procedures with numbers in place of names
abbrev pub procs_of : List Source → List Proc
procs_of sources = map (proc_of (names_of sources)) sources
