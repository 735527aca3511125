-- The procedures of a program have texts: no name is missing, and with numbers in place of names they
-- are the program again.
use Rattle.std.proofs.Common.{◌≡◌, ℕ, ◌<◌, Bool, true, not, List, [], ◌∷◌, ◌++◌, length, map, Option, None, refl, sym, ap, ◌∙◌, subst, arith}
use Rattle.std.proofs.lemmas.Bool.{and_parts, le-ltb, ltb-true}
use Rattle.std.specs.Option.{option_map_or}
use Rattle.std.specs.List.{AllByRecursion, list_all, flat_map, prefix_len}
use Rattle.rh_list.proofs.AtPlace.{has_at, passes_at, read_at}
use Rattle.rh_il.specs.declared.program.Stmt.{Stmt}
use Rattle.rh_il.specs.declared.program.Proc.{Proc}
use Rattle.rh_il.specs.Checks.{is_proper}
use Rattle.rh_il_print.specs.Text.{proc_name}
use Rattle.rh_il_source.specs.Source.{more_entries, locals_entries, vars_entries}
use Rattle.rh_il_text.specs.Known.{is_known, is_there, closed_marks, line_marks, source_marks, names_of, file_marks, stmt_of, proc_of, procs_of}
use Rattle.rh_il_text.specs.Program.{first_missing}
use Rattle.rh_il_print.proofs.Fits.{IsProper, LineFits, SourceFits}
use Rattle.rh_il_print.proofs.Naming.{line_of, source_of, sources_of}
use Rattle.rh_il_print.proofs.Placed.{called, name_is, var_back, var_known, proc_back, proc_known}
use Rattle.rh_il_print.proofs.Checked.{StmtChecked, ProcChecked, ProcsChecked, each_all}
use Rattle.rh_il_print.proofs.Back.{Named, NoneMissing, none_missing_append, StmtBack, stmt_back}

all_from : {X : Type 0} (test : X → Bool) (xs : List X) → list_all test xs ≡ true → AllByRecursion (λ x. test x ≡ true) xs
all_from test xs all = each_all (λ x. test x ≡ true) xs (λ i x read. passes_at test xs i x all read)

-- the procedures of a program
module _ (procs : List Proc) (checked : ProcsChecked procs) (each : AllByRecursion (ProcChecked (length procs)) procs) where
  proc_proper : (i : ℕ) → i < length procs → IsProper (proc_name procs i)
  proc_proper i lt =
      let p = read_at procs i lt in
      subst IsProper (sym (ap (λ (o : Option Proc). option_map_or (λ q. q.name) o []) p.1)) (has_at (ProcChecked (length procs)) procs i p.0 each p.1).name

  -- the variables of one of them
  module _ (p : Proc) (one : ProcChecked (length procs) p) where
    named : Named procs p.vars
    named = record {
      var_back = λ x lt. var_back p.vars x (ltb-true x (length p.vars) lt) one.few (one.new x (ltb-true x (length p.vars) lt));
      var_known = λ x lt. var_known p.vars x (ltb-true x (length p.vars) lt);
      var_proper = λ x lt. passes_at is_proper p.vars x _ one.proper (name_is p.vars x (ltb-true x (length p.vars) lt));
      proc_back = λ i lt.
          let below = ltb-true i (length procs) lt in
          let q = read_at procs i below in proc_back procs i q.0 q.1 checked.few (checked.new i below);
      proc_known = λ i lt. let q = read_at procs i (ltb-true i (length procs) lt) in proc_known procs i q.0 q.1;
      proc_proper = λ i lt. proc_proper i (ltb-true i (length procs) lt);
    }

    abbrev Checked : Stmt → Type 0
    Checked = StmtChecked (length procs) (length p.vars) (length p.body)

    one_back : (stmt : Stmt) → Checked stmt → StmtBack procs p.vars named stmt
    one_back stmt s = stmt_back procs p.vars named (length p.body) one.short stmt s

    body_back : (body : List Stmt) → AllByRecursion Checked body → map (stmt_of p.vars (called procs)) (map (line_of procs p.vars) body) ≡ body
    body_back [] all = refl
    body_back (stmt ∷ body) all = λ i. (one_back stmt all.0).back i ∷ body_back body all.1 i

    body_known : (body : List Stmt) → AllByRecursion Checked body → NoneMissing (flat_map (closed_marks p.vars (called procs)) (map (line_of procs p.vars) body))
    body_known [] all = refl
    body_known (stmt ∷ body) all =
        none_missing_append (closed_marks p.vars (called procs) (line_of procs p.vars stmt)) (flat_map (closed_marks p.vars (called procs)) (map (line_of procs p.vars) body))
        (none_missing_append (line_marks p.vars (called procs) (line_of procs p.vars stmt)) (true ∷ []) (one_back stmt all.0).known refl)
        (body_known body all.1)

    body_fits : (body : List Stmt) → AllByRecursion Checked body → AllByRecursion LineFits (map (line_of procs p.vars) body)
    body_fits [] all = tt
    body_fits (stmt ∷ body) all = ((one_back stmt all.0).fits, body_fits body all.1)

    source_back : proc_of (called procs) (source_of procs p) ≡ p
    source_back = λ i. record { name = p.name; vars = p.vars; body = body_back p.body one.stmts i }

    source_fits : SourceFits (source_of procs p)
    source_fits = record {
      name = one.name;
      vars = all_from is_proper p.vars one.proper;
      param = one.some;
      lines = body_fits p.body one.stmts;
    }

  -- the names of the variables are there
  module _ (var proc : List ℕ → Bool) where
    more_known : (names : List (List ℕ)) → NoneMissing (more_entries var proc is_there names)
    more_known [] = refl
    more_known (n ∷ ns) = more_known ns

    locals_known : (names : List (List ℕ)) → NoneMissing (locals_entries var proc is_there names)
    locals_known [] = refl
    locals_known (n ∷ ns) = more_known ns

    vars_known : (names : List (List ℕ)) → NoneMissing (vars_entries var proc is_there names)
    vars_known [] = refl
    vars_known (n ∷ ns) = locals_known ns

  source_known : (p : Proc) → ProcChecked (length procs) p → NoneMissing (source_marks (called procs) (source_of procs p))
  source_known p one =
      let vars = vars_entries (is_known p.vars) (is_known (called procs)) is_there p.vars in
      let lines = flat_map (closed_marks p.vars (called procs)) (map (line_of procs p.vars) p.body) in
      none_missing_append (true ∷ true ∷ (vars ++ true ∷ lines)) (true ∷ [])
      (none_missing_append vars (true ∷ lines) (vars_known (is_known p.vars) (is_known (called procs)) p.vars) (body_known p one p.body one.stmts)) refl

  sources_back : (ps : List Proc) → AllByRecursion (ProcChecked (length procs)) ps → map (proc_of (called procs)) (map (source_of procs) ps) ≡ ps
  sources_back [] all = refl
  sources_back (p ∷ ps) all = λ i. source_back p all.0 i ∷ sources_back ps all.1 i

  sources_known : (ps : List Proc) → AllByRecursion (ProcChecked (length procs)) ps → NoneMissing (flat_map (source_marks (called procs)) (map (source_of procs) ps))
  sources_known [] all = refl
  sources_known (p ∷ ps) all =
      none_missing_append (source_marks (called procs) (source_of procs p)) (flat_map (source_marks (called procs)) (map (source_of procs) ps))
      (source_known p all.0) (sources_known ps all.1)

  each_fits : (ps : List Proc) → AllByRecursion (ProcChecked (length procs)) ps → AllByRecursion SourceFits (map (source_of procs) ps)
  each_fits [] all = tt
  each_fits (p ∷ ps) all = (source_fits p all.0, each_fits ps all.1)

  names_are : (ps : List Proc) → names_of (map (source_of procs) ps) ≡ called ps
  names_are [] = refl
  names_are (p ∷ ps) = λ i. p.name ∷ names_are ps i

  -- with numbers in place of names they are the program
  pub procs_back : procs ≡ procs_of (sources_of procs)
  procs_back =
      sym (ap (λ (names : List (List ℕ)). map (proc_of names) (sources_of procs)) (names_are procs) ∙ sources_back procs each)

  none_first : (marks : List Bool) → NoneMissing marks → prefix_len (λ m. not (not m)) marks ≡ length marks
  none_first [] all = refl
  none_first (m ∷ ms) all =
      let parts = and_parts m (list_all (λ b. b) ms) all in
      let rest = none_first ms parts.1 in
      rw parts.0 (omega arith)

  -- no name is missing
  pub none_missing : first_missing (sources_of procs) ≡ None
  none_missing =
      let marks = file_marks (sources_of procs) in
      let known : NoneMissing marks =
      subst (λ (names : List (List ℕ)). NoneMissing (flat_map (source_marks names) (sources_of procs))) (sym (names_are procs)) (sources_known procs each) in
      rw (none_first marks known, le-ltb (length marks) (length marks) (omega arith)) refl

  -- the names and the numbers can stand in a text
  pub sources_fit : AllByRecursion SourceFits (sources_of procs)
  sources_fit = each_fits procs each
