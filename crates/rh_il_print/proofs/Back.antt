-- A program with names in place of numbers, and numbers in place of those names, is the program.
use Rattle.std.proofs.Common.{◌≡◌, ℕ, suc, ◌<◌, ◌≤◌, ◌^◌, ℤ, pos, negsuc, Bool, true, false, ◌&&◌, List, [], ◌∷◌, ◌++◌, length, refl, ap, ◌∙◌, arith}
use Rattle.std.proofs.lemmas.Bool.{and_parts, and_from, le-leb, ne_eqb, ltb-true}
use Rattle.std.proofs.lemmas.List.Folds.{list_all-append}
use Rattle.std.specs.Prelude.{nat_lt}
use Rattle.std.specs.List.{AllByRecursion, list_all}
use Rattle.rh_list.proofs.Appended.{apart}
use Rattle.rh_il.specs.declared.value.Op.{Op}
use Rattle.rh_il.specs.declared.program.Base.{Base}
use Rattle.rh_il.specs.declared.program.Base.TheVariants.{Var as VarBase, Num as NumBase}
use Rattle.rh_il.specs.declared.program.Stmt.{Stmt}
use Rattle.rh_il.specs.declared.program.Stmt.TheVariants.{Skip as SkipStmt, Copy as CopyStmt, Address as AddressStmt, Load as LoadStmt, Compute as ComputeStmt, Write as WriteStmt, New as NewStmt, Call as CallStmt, Goto as GotoStmt, If as IfStmt, Return as ReturnStmt}
use Rattle.rh_il.specs.declared.program.Proc.{Proc}
use Rattle.rh_il.specs.Checks.{is_base}
use Rattle.rh_il.specs.Numbers.{base_numbers}
use Rattle.rh_il.specs.Value.{IsNumber}
use Rattle.rh_il_print.specs.Text.{name_at, proc_name}
use Rattle.rh_il_text.specs.Known.{is_known, operand_marks, line_marks, place_of, number_of, base_of, stmt_of}
use Rattle.rh_il_print.proofs.Fits.{IsProper, OperandFits, LineFits}
use Rattle.rh_il_print.proofs.Naming.{operand_of, line_of}
use Rattle.rh_il_print.proofs.Placed.{called}
use Rattle.rh_il_print.proofs.Checked.{StmtChecked}

positive_back : (n : ℕ) → n < 2 ^ 63 → number_of false n ≡ pos n
positive_back n small =
    let within : n ≤ 2 ^ 63 = omega arith in
    let other : n ≡ 2 ^ 63 → ⊥ = λ e. omega arith in
    rw (le-leb n (2 ^ 63) within, ne_eqb n (2 ^ 63) other) refl

negative_back : (n : ℕ) → n < 2 ^ 63 → number_of true (suc n) ≡ negsuc n
negative_back n small = let within : suc n ≤ 2 ^ 63 = omega arith in rw (le-leb (suc n) (2 ^ 63) within) refl

-- what is known of the names of the variables and the procedures
pub record Named (procs : List Proc) (vars : List (List ℕ)) : Type 0 where
  pub var_back : (x : ℕ) → nat_lt x (length vars) ≡ true → place_of vars (name_at vars x) ≡ x
  pub var_known : (x : ℕ) → nat_lt x (length vars) ≡ true → is_known vars (name_at vars x) ≡ true
  pub var_proper : (x : ℕ) → nat_lt x (length vars) ≡ true → IsProper (name_at vars x)
  pub proc_back : (i : ℕ) → nat_lt i (length procs) ≡ true → place_of (called procs) (proc_name procs i) ≡ i
  pub proc_known : (i : ℕ) → nat_lt i (length procs) ≡ true → is_known (called procs) (proc_name procs i) ≡ true
  pub proc_proper : (i : ℕ) → nat_lt i (length procs) ≡ true → IsProper (proc_name procs i)

-- every name is there
abbrev pub NoneMissing : List Bool → Type 0
NoneMissing marks = list_all (λ m. m) marks ≡ true

pub none_missing_append : (xs ys : List Bool) → NoneMissing xs → NoneMissing ys → NoneMissing (xs ++ ys)
none_missing_append xs ys first second = list_all-append (λ m. m) xs ys ∙ and_from (list_all (λ m. m) xs) (list_all (λ m. m) ys) first second

module _ (procs : List Proc) (vars : List (List ℕ)) (named : Named procs vars) where
  record BaseBack (x : Base) : Type 0 where
    back : base_of vars (operand_of vars x) ≡ x
    known : NoneMissing (operand_marks vars (called procs) (operand_of vars x))
    fits : OperandFits (operand_of vars x)

  base_back : (x : Base) → is_base (length vars) x ≡ true → AllByRecursion IsNumber (base_numbers x) → BaseBack x
  base_back (VarBase x) lt fits = record {
    back = ap (λ (n : ℕ). VarBase n) (named.var_back x lt);
    known = rw (named.var_known x lt) refl;
    fits = named.var_proper x lt;
  }
  base_back (NumBase (pos n)) lt fits = record { back = ap (λ (c : ℤ). NumBase c) (positive_back n fits.0.sfits); known = refl; fits = fits.0.sfits }
  base_back (NumBase (negsuc n)) lt fits =
      let small : n < 2 ^ 63 = fits.0.sfits in
      record { back = ap (λ (c : ℤ). NumBase c) (negative_back n small); known = refl; fits = omega arith }

  -- a statement
  pub record StmtBack (stmt : Stmt) : Type 0 where
    pub back : stmt_of vars (called procs) (line_of procs vars stmt) ≡ stmt
    pub known : NoneMissing (line_marks vars (called procs) (line_of procs vars stmt))
    pub fits : LineFits (line_of procs vars stmt)

  abbrev is_var : ℕ → Bool
  is_var x = nat_lt x (length vars)

  known_to : (x : ℕ) (marks : List Bool) → is_var x ≡ true → NoneMissing marks → NoneMissing (is_known vars (name_at vars x) ∷ true ∷ marks)
  known_to x marks lt known = and_from (is_known vars (name_at vars x)) (list_all (λ m. m) marks) (named.var_known x lt) known

  copy_back : (to : ℕ) (from : Base) → is_var to ≡ true → BaseBack from → StmtBack (CopyStmt to from)
  copy_back to from lt b = record {
    back = λ i. CopyStmt (named.var_back to lt i) (b.back i);
    known = known_to to (operand_marks vars (called procs) (operand_of vars from)) lt b.known;
    fits = (named.var_proper to lt, b.fits);
  }

  address_back : (to of : ℕ) → is_var to ≡ true → is_var of ≡ true → StmtBack (AddressStmt to of)
  address_back to of lt there = record {
    back = λ i. AddressStmt (named.var_back to lt i) (named.var_back of there i);
    known = known_to to (true ∷ is_known vars (name_at vars of) ∷ []) lt (rw (named.var_known of there) refl);
    fits = (named.var_proper to lt, named.var_proper of there);
  }

  load_back : (to from : ℕ) → is_var to ≡ true → is_var from ≡ true → StmtBack (LoadStmt to from)
  load_back to from lt there = record {
    back = λ i. LoadStmt (named.var_back to lt i) (named.var_back from there i);
    known = known_to to (true ∷ is_known vars (name_at vars from) ∷ []) lt (rw (named.var_known from there) refl);
    fits = (named.var_proper to lt, named.var_proper from there);
  }

  compute_back : (to : ℕ) (op : Op) (left right : Base) → is_var to ≡ true → BaseBack left → BaseBack right → StmtBack (ComputeStmt to op left right)
  compute_back to op left right lt l r =
      let first = operand_marks vars (called procs) (operand_of vars left) in
      let second = operand_marks vars (called procs) (operand_of vars right) in
      record {
        back = λ i. ComputeStmt (named.var_back to lt i) op (l.back i) (r.back i);
        known = known_to to (first ++ true ∷ second) lt (none_missing_append first (true ∷ second) l.known r.known);
        fits = (named.var_proper to lt, l.fits, r.fits);
      }

  write_back : (to : ℕ) (from : Base) → is_var to ≡ true → BaseBack from → StmtBack (WriteStmt to from)
  write_back to from lt b = record {
    back = λ i. WriteStmt (named.var_back to lt i) (b.back i);
    known = known_to to (operand_marks vars (called procs) (operand_of vars from)) lt b.known;
    fits = (named.var_proper to lt, b.fits);
  }

  new_back : (to : ℕ) → is_var to ≡ true → StmtBack (NewStmt to)
  new_back to lt = record {
    back = λ i. NewStmt (named.var_back to lt i);
    known = known_to to (true ∷ []) lt refl;
    fits = named.var_proper to lt;
  }

  call_back : (to callee : ℕ) (arg : Base) → is_var to ≡ true → nat_lt callee (length procs) ≡ true → BaseBack arg → StmtBack (CallStmt to callee arg)
  call_back to callee arg lt there b =
      let marks = operand_marks vars (called procs) (operand_of vars arg) in
      record {
        back = λ i. CallStmt (named.var_back to lt i) (named.proc_back callee there i) (b.back i);
        known = known_to to (is_known (called procs) (proc_name procs callee) ∷ true ∷ (marks ++ true ∷ [])) lt
            (and_from (is_known (called procs) (proc_name procs callee)) (list_all (λ m. m) (marks ++ true ∷ [])) (named.proc_known callee there) (none_missing_append marks (true ∷ []) b.known refl));
        fits = (named.var_proper to lt, named.proc_proper callee there, b.fits);
      }

  if_back : (x : Base) (taken other : ℕ) → taken < 2 ^ 32 → other < 2 ^ 32 → BaseBack x → StmtBack (IfStmt x taken other)
  if_back x taken other first second b = record {
    back = λ i. IfStmt (b.back i) taken other;
    known = none_missing_append (operand_marks vars (called procs) (operand_of vars x)) (true ∷ true ∷ true ∷ true ∷ []) b.known refl;
    fits = (b.fits, first, second);
  }

  return_back : (x : Base) → BaseBack x → StmtBack (ReturnStmt x)
  return_back x b = record { back = λ i. ReturnStmt (b.back i); known = b.known; fits = b.fits }

  pub stmt_back : (stmts : ℕ) → stmts ≤ 1024 → (stmt : Stmt) → StmtChecked (length procs) (length vars) stmts stmt → StmtBack stmt
  stmt_back stmts short SkipStmt s = record { back = refl; known = refl; fits = tt }
  stmt_back stmts short (CopyStmt to from) s =
      let parts = and_parts (is_var to) (is_base (length vars) from) s.numbers in copy_back to from parts.0 (base_back from parts.1 s.fits)
  stmt_back stmts short (AddressStmt to of) s = let parts = and_parts (is_var to) (is_var of) s.numbers in address_back to of parts.0 parts.1
  stmt_back stmts short (LoadStmt to from) s = let parts = and_parts (is_var to) (is_var from) s.numbers in load_back to from parts.0 parts.1
  stmt_back stmts short (ComputeStmt to op left right) s =
      let parts = and_parts (is_var to) (is_base (length vars) left && is_base (length vars) right) s.numbers in
      let both = and_parts (is_base (length vars) left) (is_base (length vars) right) parts.1 in
      let fits = apart IsNumber (base_numbers left) (base_numbers right) s.fits in
      compute_back to op left right parts.0 (base_back left both.0 fits.0) (base_back right both.1 fits.1)
  stmt_back stmts short (WriteStmt to from) s =
      let parts = and_parts (is_var to) (is_base (length vars) from) s.numbers in write_back to from parts.0 (base_back from parts.1 s.fits)
  stmt_back stmts short (NewStmt to) s = new_back to s.numbers
  stmt_back stmts short (CallStmt to callee arg) s =
      let parts = and_parts (is_var to) (nat_lt callee (length procs) && is_base (length vars) arg) s.numbers in
      let both = and_parts (nat_lt callee (length procs)) (is_base (length vars) arg) parts.1 in
      call_back to callee arg parts.0 both.0 (base_back arg both.1 s.fits)
  stmt_back stmts short (GotoStmt to) s =
      let below = ltb-true to stmts s.targets in record { back = refl; known = refl; fits = omega arith }
  stmt_back stmts short (IfStmt x taken other) s =
      let parts = and_parts (nat_lt taken stmts) (nat_lt other stmts) s.targets in
      let first = ltb-true taken stmts parts.0 in
      let second = ltb-true other stmts parts.1 in
      if_back x taken other (omega arith) (omega arith) (base_back x s.numbers s.fits)
  stmt_back stmts short (ReturnStmt x) s = return_back x (base_back x s.numbers s.fits)
