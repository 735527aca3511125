-- The rewritten program passes the checks of a program.
use Rattle.std.proofs.Common.{ℕ, zero, suc, ◌≡◌, ◌-◌, ◌<◌, Bool, true, false, not, ◌&&◌, List, length, take, Option, Some, None, refl, ap, sym, ◌∙◌, arith, codes}
use Rattle.std.proofs.lemmas.Bool.{and_parts, lt-ltb}
use Rattle.std.specs.List.{list_all, list_any}
use Rattle.std.specs.Option.{option_map, option_map_or, option_and_then, option_or}
use Rattle.std.specs.Prelude.{nat_le, nat_lt, slice_get}
use Rattle.rh_list.specs.Each.{Each}
use Rattle.rh_il.specs.declared.fault.Limited.TheVariants.{Procs, Stmts}
use Rattle.rh_il.specs.declared.fault.ProgFault.{ProgFault}
use Rattle.rh_il.specs.declared.fault.ProgWrong.{ProgWrong}
use Rattle.rh_il.specs.declared.fault.ProgWrong.TheVariants.{BadNumber, BadTarget, DuplicateName, FallsOff, Limit, NoMain}
use Rattle.rh_il.specs.declared.program.Proc.{Proc}
use Rattle.rh_il.specs.declared.program.Stmt.{Stmt}
use Rattle.rh_il.specs.declared.program.Stmt.TheVariants.{Skip as ASkip, Copy as ACopy, Address as AnAddress, Load as ALoad, Compute as AComputation, Write as AWrite, New as ANew, Call as ACall, Goto as AGoto, If as AnIf, Return as AReturn}
use Rattle.rh_il.specs.Checks.{IsProgram, first_some, has_numbers, has_proper_names, has_targets, is_base, is_called, is_closed, is_jump, is_new_proc_at, proc_fault, program_fault, stmt_fault, unless}
use Rattle.rh_il.specs.Numbers.{HasNumbers}
use Rattle.rh_il.proofs.Passed.{none_at, none_parts, passes}
use Rattle.rh_il.proofs.ProcChecks.{checks_passed, ends, few_stmts, fault_at, new_vars, some_vars, stmts_pass}
use Rattle.rh_rule.specs.declared.rule.Form.{Form}
use Rattle.rh_rule.specs.declared.rule.Form.TheVariants.{Entry, Goto, Skip, AnyAssign, Assign, Address, Load, Compute, Write, New, Call, If, Return}
use Rattle.rh_rule.specs.declared.rule.Rule.{Rule}
use Rattle.rh_rule.specs.declared.rule.Ruling.{Ruling}
use Rattle.rh_rule.specs.declared.schema.Kind.TheVariants.{Var as AVar}
use Rattle.rh_rule.specs.declared.schema.Param.{Param}
use Rattle.rh_rule.specs.Params.{kind_of}
use Rattle.rh_rule.specs.RuleFiles.{IsRuleFile, Rules}
use Rattle.rh_domain.specs.Binding.{Binding, FitsBinding, base_under, variable_under}
use Rattle.rh_domain.specs.Facts.{Known}
use Rattle.rh_ground.specs.Match.{callee_of, matches, template_under}
use Rattle.rh_ground.specs.Template.{IsPlain, IsTemplateOf}
use Rattle.rh_ground.proofs.Fitting.{binding_fits, operand_inside, variable_inside}
use Rattle.rh_ground.proofs.Matched.{matched}
use Rattle.rh_ground.proofs.Members.{read_all_numbered}
use Rattle.rh_ground.proofs.Shapes.{Shape, Jumping, Branching, Returning, shape_of}
use Rattle.rh_transform.specs.Rewritten.{Candidate, first_applicable, rewritten_statement, rewritten_body, rewritten_proc, rewritten}
use Rattle.rh_transform.proofs.Candidates.{first_is}
use Rattle.rh_transform.proofs.Shaped.{body_at, by_first, fit_of, pattern_is, shape_same}
use Rattle.rh_transform.proofs.Numbered.{changed_all, changed_any, changed_front, changed_size}

-- ---- statements

abbrev targets_by : ℕ → Shape → Bool
targets_by stmts (Jumping to) = nat_lt to stmts
targets_by stmts (Branching taken other) = nat_lt taken stmts && nat_lt other stmts
targets_by stmts _ = true

targets_by_shape : (stmts : ℕ) (stmt : Stmt) → has_targets stmts stmt ≡ targets_by stmts (shape_of stmt)
targets_by_shape stmts ASkip = refl
targets_by_shape stmts (ACopy to from) = refl
targets_by_shape stmts (AnAddress to of) = refl
targets_by_shape stmts (ALoad to from) = refl
targets_by_shape stmts (AComputation to op left right) = refl
targets_by_shape stmts (AWrite to from) = refl
targets_by_shape stmts (ANew to) = refl
targets_by_shape stmts (ACall to callee arg) = refl
targets_by_shape stmts (AGoto to) = refl
targets_by_shape stmts (AnIf condition taken other) = refl
targets_by_shape stmts (AReturn value) = refl

abbrev jumps_by : Shape → Bool
jumps_by (Jumping to) = true
jumps_by (Branching taken other) = true
jumps_by Returning = true
jumps_by _ = false

jump_by_shape : (stmt : Stmt) → is_jump stmt ≡ jumps_by (shape_of stmt)
jump_by_shape ASkip = refl
jump_by_shape (ACopy to from) = refl
jump_by_shape (AnAddress to of) = refl
jump_by_shape (ALoad to from) = refl
jump_by_shape (AComputation to op left right) = refl
jump_by_shape (AWrite to from) = refl
jump_by_shape (ANew to) = refl
jump_by_shape (ACall to callee arg) = refl
jump_by_shape (AGoto to) = refl
jump_by_shape (AnIf condition taken other) = refl
jump_by_shape (AReturn value) = refl

both : (a b : Bool) → a ≡ true → b ≡ true → (a && b) ≡ true
both a b left right = ap (λ x. x && b) left ∙ right

module _ (procs width : ℕ) (params : List Param) (binding : Binding) (fits : FitsBinding width params binding) where
  variable_passes : (meta : ℕ) → kind_of params meta ≡ AVar → nat_lt (variable_under binding meta) width ≡ true
  variable_passes meta kind = lt-ltb (variable_under binding meta) width (variable_inside width params binding meta fits kind)

  plain_numbers : (form : Form) (old : Stmt) → IsPlain params form → has_numbers procs width (template_under binding form old) ≡ true
  plain_numbers Skip old plain = refl
  plain_numbers (Assign to from) old plain = both _ _ (variable_passes to plain.0) (operand_inside width params binding from fits)
  plain_numbers (Address to of) old plain = both _ _ (variable_passes to plain.0) (variable_passes of plain.1)
  plain_numbers (Load to from) old plain = both _ _ (variable_passes to plain.0) (variable_passes from plain.1)
  plain_numbers (Compute to op left right) old plain =
      both _ _ (variable_passes to plain.0) (both _ _ (operand_inside width params binding left fits) (operand_inside width params binding right fits))
  plain_numbers (Write to from) old plain = both _ _ (variable_passes to plain.0) (operand_inside width params binding from fits)
  plain_numbers (Entry param) old plain = absurd plain
  plain_numbers Goto old plain = absurd plain
  plain_numbers (AnyAssign to) old plain = absurd plain
  plain_numbers (New to) old plain = absurd plain
  plain_numbers (Call to arg) old plain = absurd plain
  plain_numbers (If condition) old plain = absurd plain
  plain_numbers (Return value) old plain = absurd plain

  -- the numbers of a template are in range
  template_numbers : (pattern template : Form) (old : Stmt) → IsTemplateOf params pattern template → matches binding pattern old ≡ true → has_numbers procs width old ≡ true
      → has_numbers procs width (template_under binding template old) ≡ true
  template_numbers (Call to arg) (Call to' arg') old fit m numbers =
      let is : old ≡ template_under binding (Call to arg) old = matched binding (Call to arg) old fit.2 m in
      let whole : has_numbers procs width (ACall (variable_under binding to) (callee_of old) (base_under binding arg)) ≡ true = sym (ap (has_numbers procs width) is) ∙ numbers in
      let callee = (and_parts (nat_lt (callee_of old) procs) (is_base width (base_under binding arg)) (and_parts (nat_lt (variable_under binding to) width) (nat_lt (callee_of old) procs && is_base width (base_under binding arg)) whole).1).0 in
      both _ _ (variable_passes to' fit.1) (both _ _ callee (operand_inside width params binding arg' fits))
  template_numbers (If condition) (If condition') old fit m numbers = operand_inside width params binding condition' fits
  template_numbers (Return value) (Return value') old fit m numbers = operand_inside width params binding value' fits
  template_numbers Skip template old fit m numbers = plain_numbers template old fit.1
  template_numbers (Assign to from) template old fit m numbers = plain_numbers template old fit.1
  template_numbers (Address to of) template old fit m numbers = plain_numbers template old fit.1
  template_numbers (Load to from) template old fit m numbers = plain_numbers template old fit.1
  template_numbers (Compute to op left right) template old fit m numbers = plain_numbers template old fit.1
  template_numbers (Write to from) template old fit m numbers = plain_numbers template old fit.1
  template_numbers (Entry param) template old fit m numbers = absurd fit.0
  template_numbers Goto template old fit m numbers = absurd fit.0
  template_numbers (AnyAssign to) template old fit m numbers = absurd fit.0
  template_numbers (New to) template old fit m numbers = absurd fit.0
  template_numbers pattern template old fit m numbers = absurd fit.0

-- ---- faults

none_both : {X : Type 0} (a b : Option X) → a ≡ None → b ≡ None → option_or a b ≡ None
none_both a b left right = ap (λ o. option_or o b) left ∙ right

passed_by : (test : Bool) (kind : ProgWrong) (proc item : ℕ) → test ≡ true → unless test kind proc item ≡ None
passed_by test kind proc item is = ap (λ t. unless t kind proc item) is

none_of : {X : Type 0} (n : ℕ) (found : ℕ → Option X) → ((k : ℕ) → k < n → found k ≡ None) → first_some n found ≡ None
none_of zero found none = refl
none_of (suc n) found none = none_both (first_some n found) (found n) (none_of n found (λ k below. none k (omega (arith, below)))) (none n (omega arith))

same_first : {X : Type 0} (n : ℕ) (found other : ℕ → Option X) → ((k : ℕ) → found k ≡ other k) → first_some n found ≡ first_some n other
same_first zero found other same = refl
same_first (suc n) found other same = ap (λ o. option_or o (found n)) (same_first n found other same) ∙ ap (option_or (first_some n other)) (same n)

module _ (file : Rules) (is_file : IsRuleFile file) (rulings : List Ruling) (known : Known) where
  numbers_by : (place procs : ℕ) (proc : Proc) (number : ℕ) (stmt : Stmt) (first : Option Candidate) → HasNumbers proc → slice_get proc.body number ≡ Some stmt
      → first_applicable known file.rules rulings place proc number ≡ first → has_numbers procs (length proc.vars) stmt ≡ true
      → has_numbers procs (length proc.vars) (by_first first stmt) ≡ true
  numbers_by place procs proc number stmt None fit read is numbers = numbers
  numbers_by place procs proc number stmt (Some candidate) fit read is numbers =
      let first = first_is proc file.rules rulings known place number candidate is in
      let rule : Rule = candidate.rule in
      template_numbers procs (length proc.vars) rule.params candidate.binding (binding_fits proc rule.params candidate.binding fit first.from.bound_by) rule.pattern candidate.template stmt
      (fit_of file is_file rulings known proc place number candidate first) (pattern_is file is_file rulings known proc place number stmt candidate read first) numbers

  abbrev new_body : ℕ → Proc → List Stmt
  new_body place proc = rewritten_body known file.rules rulings place proc

  body_size : (place : ℕ) (proc : Proc) → length (new_body place proc) ≡ length proc.body
  body_size place proc = changed_size (rewritten_statement known file.rules rulings place proc) 0 proc.body

  -- a statement that takes the place of another passes its checks
  stmt_kept : (place procs : ℕ) (proc : Proc) (number : ℕ) (stmt : Stmt) → HasNumbers proc → slice_get proc.body number ≡ Some stmt → stmt_fault procs place proc number stmt ≡ None
      → stmt_fault procs place (rewritten_proc known file.rules rulings place proc) number (rewritten_statement known file.rules rulings place proc number stmt) ≡ None
  stmt_kept place procs proc number stmt fit read passed =
      let new : Stmt = rewritten_statement known file.rules rulings place proc number stmt in
      let parts = none_parts (unless (has_numbers procs (length proc.vars) stmt) BadNumber place number) (unless (has_targets (length proc.body) stmt) BadTarget place number) passed in
      let numbers = numbers_by place procs proc number stmt (first_applicable known file.rules rulings place proc number) fit read refl (passes (has_numbers procs (length proc.vars) stmt) BadNumber place number parts.0) in
      let targets : has_targets (length (new_body place proc)) new ≡ true =
      ap (λ n. has_targets n new) (body_size place proc) ∙ targets_by_shape (length proc.body) new
      ∙ ap (targets_by (length proc.body)) (shape_same file is_file rulings known place proc number stmt read)
      ∙ sym (targets_by_shape (length proc.body) stmt) ∙ passes (has_targets (length proc.body) stmt) BadTarget place number parts.1 in
      none_both _ _ (passed_by _ BadNumber place number numbers) (passed_by _ BadTarget place number targets)

  item_kept : (place procs : ℕ) (proc : Proc) (number : ℕ) (stmt : Option Stmt) → HasNumbers proc → slice_get proc.body number ≡ stmt → option_and_then (stmt_fault procs place proc number) stmt ≡ None
      → option_and_then (stmt_fault procs place (rewritten_proc known file.rules rulings place proc) number) (option_map (rewritten_statement known file.rules rulings place proc number) stmt) ≡ None
  item_kept place procs proc number None fit read passed = refl
  item_kept place procs proc number (Some stmt) fit read passed = stmt_kept place procs proc number stmt fit read passed

  jump_kept : (place : ℕ) (proc : Proc) (number : ℕ) (stmt : Option Stmt) → slice_get proc.body number ≡ stmt
      → option_map_or is_jump (option_map (rewritten_statement known file.rules rulings place proc number) stmt) false ≡ option_map_or is_jump stmt false
  jump_kept place proc number None read = refl
  jump_kept place proc number (Some stmt) read =
      jump_by_shape (rewritten_statement known file.rules rulings place proc number stmt) ∙ ap jumps_by (shape_same file is_file rulings known place proc number stmt read) ∙ sym (jump_by_shape stmt)

  closed_kept : (place : ℕ) (proc : Proc) → is_closed (new_body place proc) ≡ is_closed proc.body
  closed_kept place proc =
      ap (λ n. option_map_or is_jump (slice_get (new_body place proc) (n - 1)) false) (body_size place proc)
      ∙ ap (λ o. option_map_or is_jump o false) (body_at file is_file rulings known place proc (length proc.body - 1))
      ∙ jump_kept place proc (length proc.body - 1) (slice_get proc.body (length proc.body - 1)) refl

  -- a procedure whose statements are rewritten passes its checks
  proc_kept : (place procs : ℕ) (proc : Proc) → HasNumbers proc → proc_fault procs place proc ≡ None → proc_fault procs place (rewritten_proc known file.rules rulings place proc) ≡ None
  unfolding proc_fault
  proc_kept place procs proc fit passed =
      let new : Proc = rewritten_proc known file.rules rulings place proc in
      let before = checks_passed procs place proc passed in
      let few : few_stmts place new ≡ None = ap (λ n. unless (nat_le n 1024) (Limit Stmts) place 0) (body_size place proc) ∙ before.short in
      let items : stmts_pass procs place new ≡ None =
      none_of (length new.body) (fault_at procs place new)
      (λ k below.
      ap (option_and_then (stmt_fault procs place new k)) (body_at file is_file rulings known place proc k)
      ∙ item_kept place procs proc k (slice_get proc.body k) fit refl (none_at (length proc.body) (fault_at procs place proc) k before.stmts (omega (arith, below, body_size place proc)))) in
      let ended : ends place new ≡ None = ap (λ t. unless t FallsOff place (length new.body)) (closed_kept place proc) ∙ ap (λ n. unless (is_closed proc.body) FallsOff place n) (body_size place proc) ∙ before.closed in
      none_both (some_vars place new) _ before.vars (none_both (new_vars place new) _ before.names (none_both (few_stmts place new) _ few (none_both (stmts_pass procs place new) (ends place new) items ended)))

  module _ (procs : List Proc) (program : IsProgram procs) (fit : Each HasNumbers procs) where
    abbrev change : ℕ → Proc → Proc
    change = rewritten_proc known file.rules rulings

    abbrev after : List Proc
    after = rewritten known file.rules rulings procs

    size : length after ≡ length procs
    size = changed_size change 0 procs

    after_at : (k : ℕ) → slice_get after k ≡ option_map (change k) (slice_get procs k)
    after_at k = read_all_numbered change procs k

    called_same : (name : List ℕ) (k : ℕ) → list_any (is_called name) (take k after) ≡ list_any (is_called name) (take k procs)
    called_same name k = ap (list_any (is_called name)) (changed_front change 0 k procs) ∙ changed_any change (is_called name) (λ n proc. refl) 0 (take k procs)

    new_same : (k : ℕ) → is_new_proc_at after k ≡ is_new_proc_at procs k
    new_same k =
        ap (λ o. option_map_or (λ p. not (list_any (is_called p.name) (take k after))) o true) (after_at k)
        ∙ elim (slice_get procs k) as (λ o. option_map_or (λ p. not (list_any (is_called p.name) (take k after))) (option_map (change k) o) true ≡ option_map_or (λ p. not (list_any (is_called p.name) (take k procs))) o true)
        [ None ↦ refl | Some proc ↦ ap not (called_same proc.name k) ]

    place_kept : (k : ℕ) (proc : Option Proc) → slice_get procs k ≡ proc → option_and_then (proc_fault (length procs) k) proc ≡ None
        → option_and_then (proc_fault (length procs) k) (option_map (change k) proc) ≡ None
    place_kept k None read passed = refl
    place_kept k (Some proc) read passed = proc_kept k (length procs) proc (fit k proc read) passed

    each_kept : (k : ℕ) → option_and_then (proc_fault (length procs) k) (slice_get procs k) ≡ None → option_and_then (proc_fault (length after) k) (slice_get after k) ≡ None
    each_kept k passed =
        ap (λ n. option_and_then (proc_fault n k) (slice_get after k)) size ∙ ap (option_and_then (proc_fault (length procs) k)) (after_at k)
        ∙ place_kept k (slice_get procs k) refl passed

    abbrev few : List Proc → Option ProgFault
    few ps = unless (nat_le (length ps) 256) (Limit Procs) 0 0

    abbrev new_names : List Proc → Option ProgFault
    new_names ps = first_some (length ps) (λ k. unless (is_new_proc_at ps k) DuplicateName k 0)

    abbrev procs_pass : List Proc → Option ProgFault
    procs_pass ps = first_some (length ps) (λ k. option_and_then (proc_fault (length ps) k) (slice_get ps k))

    abbrev has_main : List Proc → Option ProgFault
    has_main ps = unless (list_any (is_called (codes "main")) ps) NoMain 0 0

    passes_after : program_fault after ≡ None
    unfolding program_fault
    passes_after =
        let a = none_parts (few procs) (option_or (new_names procs) (option_or (procs_pass procs) (has_main procs))) program.passes in
        let b = none_parts (new_names procs) (option_or (procs_pass procs) (has_main procs)) a.1 in
        let c = none_parts (procs_pass procs) (has_main procs) b.1 in
        let few_after : few after ≡ None = ap (λ n. unless (nat_le n 256) (Limit Procs) 0 0) size ∙ a.0 in
        let names_after : new_names after ≡ None =
        ap (λ n. first_some n (λ k. unless (is_new_proc_at after k) DuplicateName k 0)) size
        ∙ same_first (length procs) (λ k. unless (is_new_proc_at after k) DuplicateName k 0) (λ k. unless (is_new_proc_at procs k) DuplicateName k 0) (λ k. ap (λ t. unless t DuplicateName k 0) (new_same k)) ∙ b.0 in
        let procs_after : procs_pass after ≡ None =
        none_of (length after) (λ k. option_and_then (proc_fault (length after) k) (slice_get after k))
        (λ k below. each_kept k (none_at (length procs) (λ n. option_and_then (proc_fault (length procs) n) (slice_get procs n)) k c.0 (omega (arith, below, size)))) in
        let main_after : has_main after ≡ None = ap (λ t. unless t NoMain 0 0) (changed_any change (is_called (codes "main")) (λ n proc. refl) 0 procs) ∙ c.1 in
        none_both (few after) _ few_after (none_both (new_names after) _ names_after (none_both (procs_pass after) (has_main after) procs_after main_after))

    names_after : list_all has_proper_names after ≡ true
    names_after = changed_all change has_proper_names (λ n proc. refl) 0 procs ∙ program.names

    pub program_kept : IsProgram after
    program_kept = record { names = names_after; passes = passes_after }
