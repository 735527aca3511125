-- The pieces of a program's text are spelled as it is printed.
use Rattle.std.proofs.Common.{◌≡◌, ℕ, pos, negsuc, List, [], ◌∷◌, ◌++◌, map, refl, sym, ap, ◌∙◌, append_assoc, append-nil, codes}
use Rattle.std.specs.List.{flat_map}
use Rattle.rh_text.specs.Signs.{sign_text}
use Rattle.rh_text.specs.Pieces.{Piece, Mark, spelled}
use Rattle.rh_text.specs.declared.sign.Sign.TheVariants.{Semicolon, OpenBrace, CloseBrace}
use Rattle.rh_il.specs.declared.value.Op.{Op}
use Rattle.rh_il.specs.declared.value.Op.TheVariants.{Add, Sub, Mul, Less, Equal}
use Rattle.rh_il.specs.declared.program.Base.{Base}
use Rattle.rh_il.specs.declared.program.Base.TheVariants.{Var, Num}
use Rattle.rh_il.specs.declared.program.Stmt.{Stmt}
use Rattle.rh_il.specs.declared.program.Stmt.TheVariants.{Skip, Copy, Address, Load, Compute, Write, New, Call, Goto, If, Return}
use Rattle.rh_il.specs.declared.program.Proc.{Proc}
use Rattle.rh_il_source.specs.Source.{op_sign}
use Rattle.rh_print.specs.Operators.{op_text}
use Rattle.rh_il_print.specs.Text.{name_at, base_text, to_text, stmt_text, line_text, locals_text, vars_text, proc_text, program_text}
use Rattle.rh_il_print.proofs.Naming.{operand_of, line_of, source_of, sources_of}
use Rattle.rh_il_print.proofs.Pieced.{space, line_end, operand_onto, to_onto, line_onto, body_onto, more_onto, locals_onto, vars_onto, source_onto, sources_onto}

abbrev pub bytes : List Piece → List ℕ
bytes ps = flat_map spelled ps

op_bytes : (op : Op) → sign_text (op_sign op) ≡ op_text op
op_bytes Add = refl
op_bytes Sub = refl
op_bytes Mul = refl
op_bytes Less = refl
op_bytes Equal = refl

module _ (vars : List (List ℕ)) where
  operand_bytes : (x : Base) (ps : List Piece) → bytes (operand_onto (operand_of vars x) ps) ≡ base_text vars x ++ bytes ps
  operand_bytes (Var x) ps = refl
  operand_bytes (Num (pos n)) ps = refl
  operand_bytes (Num (negsuc n)) ps = refl

  to_bytes : (to : ℕ) (ps : List Piece) → bytes (to_onto (name_at vars to) ps) ≡ to_text vars to ++ bytes ps
  to_bytes to ps = sym (append_assoc (name_at vars to) (codes " := ") (bytes ps))

  line_bytes : (procs : List Proc) (stmt : Stmt) (ps : List Piece) → bytes (line_onto (line_of procs vars stmt) ps) ≡ stmt_text procs vars stmt ++ bytes ps
  line_bytes procs Skip ps = refl
  line_bytes procs (Copy to from) ps = simp (append_assoc, operand_bytes from)
  line_bytes procs (Address to of) ps = simp append_assoc
  line_bytes procs (Load to from) ps = simp append_assoc
  line_bytes procs (Compute to op left right) ps = simp (append_assoc, operand_bytes left, operand_bytes right, op_bytes op)
  line_bytes procs (Write to from) ps = simp (append_assoc, operand_bytes from)
  line_bytes procs (New to) ps = simp append_assoc
  line_bytes procs (Call to called arg) ps = simp (append_assoc, operand_bytes arg)
  line_bytes procs (Goto to) ps = refl
  line_bytes procs (If x taken other) ps = simp (append_assoc, operand_bytes x)
  line_bytes procs (Return x) ps = simp (append_assoc, operand_bytes x)

  body_bytes : (procs : List Proc) (body : List Stmt) (ps : List Piece) → bytes (body_onto (map (line_of procs vars) body) ps) ≡ flat_map (line_text procs vars) body ++ bytes ps
  body_bytes procs [] ps = refl
  body_bytes procs (stmt ∷ body) ps =
      let rest = body_onto (map (line_of procs vars) body) ps in
      ap (λ (l : List ℕ). codes "  " ++ l) (line_bytes procs stmt (Mark Semicolon ∷ line_end ∷ rest) ∙ ap (λ (l : List ℕ). stmt_text procs vars stmt ++ (codes ";\n" ++ l)) (body_bytes procs body ps))
      ∙ simp append_assoc

more_bytes : (names : List (List ℕ)) (ps : List Piece) → bytes (more_onto names ps) ≡ flat_map (λ name. codes ", " ++ name) names ++ bytes ps
more_bytes [] ps = refl
more_bytes (n ∷ ns) ps = ap (λ (l : List ℕ). codes ", " ++ (n ++ l)) (more_bytes ns ps) ∙ simp append_assoc

locals_bytes : (names : List (List ℕ)) (ps : List Piece) → bytes (locals_onto names ps) ≡ locals_text names ++ bytes ps
locals_bytes [] ps = refl
locals_bytes (n ∷ ns) ps = ap (λ (l : List ℕ). codes " var " ++ (n ++ l)) (more_bytes ns ps) ∙ simp append_assoc

-- the bracket in front, which stands before the parameter
vars_bytes : (names : List (List ℕ)) (ps : List Piece) → codes "(" ++ bytes (vars_onto names ps) ≡ vars_text names ++ bytes ps
vars_bytes [] ps = refl
vars_bytes (n ∷ ns) ps = ap (λ (l : List ℕ). codes "(" ++ (n ++ (codes ")" ++ l))) (locals_bytes ns ps) ∙ simp append_assoc

proc_bytes : (procs : List Proc) (p : Proc) (ps : List Piece) → bytes (source_onto (source_of procs p) ps) ≡ proc_text procs p ++ bytes ps
proc_bytes procs p ps =
    let lines = body_onto (map (line_of procs p.vars) p.body) (Mark CloseBrace ∷ line_end ∷ ps) in
    ap (λ (l : List ℕ). p.name ++ l)
    (vars_bytes p.vars (space ∷ Mark OpenBrace ∷ line_end ∷ lines) ∙ ap (λ (l : List ℕ). vars_text p.vars ++ (codes " {\n" ++ l)) (body_bytes p.vars procs p.body (Mark CloseBrace ∷ line_end ∷ ps)))
    ∙ simp append_assoc

sources_bytes : (procs some : List Proc) (ps : List Piece) → bytes (sources_onto (map (source_of procs) some) ps) ≡ flat_map (proc_text procs) some ++ bytes ps
sources_bytes procs [] ps = refl
sources_bytes procs (p ∷ others) ps =
    proc_bytes procs p (sources_onto (map (source_of procs) others) ps) ∙ ap (λ (l : List ℕ). proc_text procs p ++ l) (sources_bytes procs others ps)
    ∙ sym (append_assoc (proc_text procs p) (flat_map (proc_text procs) others) (bytes ps))

-- the pieces of a program
abbrev pub program_pieces : List Proc → List Piece
program_pieces procs = sources_onto (sources_of procs) []

pub program_bytes : (procs : List Proc) → bytes (program_pieces procs) ≡ program_text procs
program_bytes procs = sources_bytes procs procs [] ∙ append-nil (program_text procs)
