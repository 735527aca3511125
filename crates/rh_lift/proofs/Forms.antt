-- A step is a model of what a pattern of its statement says.
use Rattle.std.proofs.Common.{ℕ, ◌≡◌, ◌+◌, Bool, true, false, not, ◌&&◌, if◌then◌else◌, List, [], ◌∷◌, ◌++◌, length, pos, zero, suc, Option, Some, None, ℤ, slice_set, refl, ap, sym, ◌∙◌, subst, arith}
use Rattle.std.specs.Bool.{beq}
use Rattle.std.specs.List.{AllByRecursion, list_all}
use Rattle.std.specs.Ordering.{int_eq}
use Rattle.std.proofs.lemmas.Bool.{and_parts}
use Rattle.std.proofs.Math.ListN.{length-append}
use Rattle.rh_il.specs.declared.program.Base.{Base}
use Rattle.rh_il.specs.declared.program.Proc.{Proc}
use Rattle.rh_il.specs.declared.program.Slot.{Slot}
use Rattle.rh_il.specs.declared.program.Slot.TheVariants.{Out, Then, Else}
use Rattle.rh_il.specs.declared.program.Stmt.{Stmt}
use Rattle.rh_il.specs.declared.program.Stmt.TheVariants.{Copy as ACopy, Address as AnAddress, Load as ALoad, Compute as AComputation, Write as AWrite, New as ANew, Call as ACall, Goto as AGoto, If as AnIf, Return as AReturn}
use Rattle.rh_il.specs.declared.value.Op.{Op}
use Rattle.rh_il.specs.declared.value.Value.{Value}
use Rattle.rh_il.specs.declared.value.Value.TheVariants.{Num as ANumber, Ptr as APointer}
use Rattle.rh_il.specs.Numbers.{base_numbers, operand_numbers}
use Rattle.rh_il.specs.Op.{apply}
use Rattle.rh_il.specs.Value.{IsNumber, IsValue}
use Rattle.rh_il_step.specs.declared.frame.Frame.{Frame}
use Rattle.rh_il_step.specs.State.{cell}
use Rattle.rh_il_step.specs.Step.{Outcome, Went, Stuck, base_value, branches, computes, executed, goes_on, loads, past, renews, sets}
use Rattle.rh_il_step.proofs.Held.{computed_held}
use Rattle.rh_rule.specs.declared.rule.Form.{Form}
use Rattle.rh_rule.specs.declared.rule.Form.TheVariants.{Goto, Skip, AnyAssign, Assign, Address, Load, Compute, Write, New, Call, If, Return}
use Rattle.rh_rule.specs.declared.rule.RuleBase.{RuleBase}
use Rattle.rh_rule.specs.declared.rule.RuleBase.TheVariants.{Meta, Num, Wild}
use Rattle.rh_rule.specs.declared.schema.Kind.TheVariants.{Var as AVar}
use Rattle.rh_rule.specs.declared.schema.Param.{Param}
use Rattle.rh_rule.specs.Kinds.{form_has_kinds}
use Rattle.rh_rule.specs.Operands.{is_wild}
use Rattle.rh_rule.specs.Params.{kind_of}
use Rattle.rh_rule.specs.Shapes.{is_pattern}
use Rattle.rh_domain.specs.Binding.{Binding, FitsBinding, as_variable, bound, variable_under}
use Rattle.rh_ground.specs.Match.{assigns, is_operand, is_variable, matches, template_under}
use Rattle.rh_ground.specs.Template.{IsPlain, IsTame}
use Rattle.rh_ground.proofs.Matched.{matched, matched_operand, matched_variable}
use Rattle.rh_term.specs.Model.{AStore, AValue, alike, is_number, value_of}
use Rattle.rh_term.specs.Store.{nothing, read, write}
use Rattle.rh_term.proofs.Stores.{SameReads, update-same}
use Rattle.rh_goals.specs.Hypotheses.{own_clauses, slot_literals}
use Rattle.rh_goals.specs.Statement.{store_after, value}
use Rattle.rh_meaning.specs.Denotation.{are_true_in, denotation, is_true_in}
use Rattle.rh_lift.specs.Local.{stays}
use Rattle.rh_lift.specs.Standing.{IsSafe}
use Rattle.rh_lift.proofs.Cells.{write_inside}
use Rattle.rh_lift.proofs.Concluded.{Steps}
use Rattle.rh_meaning.proofs.ParamKinds.{variable_kind}
use Rattle.rh_lift.proofs.Models.{AreValues, Around, held_value, held_values, model_of, nothing_fits, operand_fits, operand_value}
use Rattle.rh_lift.proofs.Own.{new_own}
use Rattle.rh_lift.proofs.Plain.{StepsBy, at_variable, left_by, plain_step, steps_in, write_step}

-- ---- outcomes

abbrev cells_of : Outcome → List Value
cells_of (Went state) = state.cells
cells_of outcome = []

abbrev first_slot : List Frame → Slot
first_slot [] = Out
first_slot (top ∷ below) = top.edge.slot

abbrev slot_of : Outcome → Slot
slot_of (Went state) = first_slot state.frames
slot_of outcome = Out

reads_longer : (cells : List Value) → SameReads cells (cells ++ nothing ∷ [])
reads_longer [] zero = refl
reads_longer [] (suc l) = refl
reads_longer (c ∷ cells) zero = refl
reads_longer (c ∷ cells) (suc l) = reads_longer cells l

tame_of : (b : RuleBase) → not (is_wild b) ≡ true → IsTame b
tame_of (Meta meta) tame = tt
tame_of (Num number) tame = tt
tame_of Wild tame = absurd cc

module _ (width : ℕ) (params : List Param) (binding : Binding) (procs : List Proc) (top : Frame) (below : List Frame) (cells : List Value) (number : ℕ)
    (slot : Slot) (new : List Value) (fits : FitsBinding width params binding) (safe : IsSafe width top.base cells) where
  -- what is around a step with this value of `_` and this new cell
  abbrev around_of : Value → Value → Around
  around_of any fresh = record { any = any; fresh = fresh; answer = nothing; before = cells; after = cells }

  abbrev gone : Outcome
  gone = Went (record { frames = past top number slot ∷ below; cells = new })

  -- a model of the step, and of what a pattern of its statement says of it
  pub record Modelled (pattern : Form) : Type 0 where
    pub any : Value
    pub fresh : Value
    pub values : AreValues (around_of any fresh)
    pub step : Steps params binding top.base (around_of any fresh) pattern slot new

  are_values : (any fresh : Value) → IsValue any → IsValue fresh → AreValues (around_of any fresh)
  are_values any fresh any_fits fresh_fits =
      let held = held_values (length cells) cells safe.held in
      record { any = any_fits; fresh = fresh_fits; answer = nothing_fits; before = held; after = held }

  base_fits : (b : Base) → AllByRecursion IsNumber (base_numbers b) → IsValue (base_value cells top.base b)
  base_fits b numbers = operand_fits top.base cells b safe.held numbers

  -- an operand that matches has its value, where `_` has it
  operand_here : (b : RuleBase) (operand : Base) (any fresh : Value) → is_operand binding b operand ≡ true → any ≡ base_value cells top.base operand
      → denotation (model_of binding top.base (around_of any fresh)) (value params b) ≡ AValue (base_value cells top.base operand)
  operand_here (Meta meta) operand any fresh matches is =
      operand_value width params binding top.base (around_of any fresh) fits (Meta meta) tt ∙ ap (λ b. AValue (base_value cells top.base b)) (sym (matched_operand binding (Meta meta) operand tt matches))
  operand_here (Num number) operand any fresh matches is =
      operand_value width params binding top.base (around_of any fresh) fits (Num number) tt ∙ ap (λ b. AValue (base_value cells top.base b)) (sym (matched_operand binding (Num number) operand tt matches))
  operand_here Wild operand any fresh matches is = ap AValue is

  -- a test that a step passed
  passed : (test : Bool) (left : List Value) → (if test then goes_on top below number left else Stuck) ≡ gone → (test ≡ true) × (left ≡ new)
  passed true left is = (refl, ap cells_of is)
  passed false left is = absurd cc

  -- a statement that steps where its literals are true
  by_outcome : (pattern : Form) (stmt : Stmt) (any : Value) → IsValue any → StepsBy params binding procs top below (around_of any nothing) number stmt pattern
      → denotation (model_of binding top.base (around_of any nothing)) (store_after params pattern) ≡ AStore (left_by params (model_of binding top.base (around_of any nothing)) pattern)
      → list_all (is_true_in (model_of binding top.base (around_of any nothing))) (slot_literals params pattern slot) ≡ true
      → are_true_in (model_of binding top.base (around_of any nothing)) (own_clauses params pattern) ≡ true
      → executed procs top below cells number stmt ≡ gone → Modelled pattern
  by_outcome pattern stmt any any_fits outcome is_store ways own went =
      let taken = passed (steps_in params (model_of binding top.base (around_of any nothing)) pattern) (left_by params (model_of binding top.base (around_of any nothing)) pattern) (sym outcome ∙ went) in
      record {
        any = any;
        fresh = nothing;
        values = are_values any nothing any_fits nothing_fits;
        step = record {
          steps = taken.0;
          ways = ways;
          own = own;
          store = left_by params (model_of binding top.base (around_of any nothing)) pattern;
          is_store = is_store;
          reads = λ l. ap (λ s. read s l) taken.1;
        };
      }

  by_plain : (pattern : Form) (stmt : Stmt) → IsPlain params pattern → stmt ≡ template_under binding pattern stmt
      → list_all (is_true_in (model_of binding top.base (around_of nothing nothing))) (slot_literals params pattern slot) ≡ true
      → are_true_in (model_of binding top.base (around_of nothing nothing)) (own_clauses params pattern) ≡ true
      → executed procs top below cells number stmt ≡ gone → Modelled pattern
  by_plain pattern stmt plain is ways own went =
      let step = plain_step width params binding procs top below (around_of nothing nothing) number fits safe stmt pattern plain in
      by_outcome pattern (template_under binding pattern stmt) nothing nothing_fits step.outcome step.is_store ways own (sym (ap (executed procs top below cells number) is) ∙ went)

  -- ---- assignments of any kind

  -- the store after a write of a variable
  one_write : (to variable : ℕ) (value : Value) → kind_of params to ≡ AVar → is_variable binding to variable ≡ true → slice_set cells (top.base + variable) value ≡ new
      → SameReads (write cells (top.base + as_variable (bound binding to)) value) new
  one_write to variable value kind matches is l =
      let inside = at_variable width params binding procs top below (around_of nothing nothing) number fits safe to kind in
      let same : variable ≡ variable_under binding to = matched_variable binding to variable matches in
      ap (λ s. read s l) (write_inside cells _ value inside ∙ ap (λ v. slice_set cells (top.base + v) value) (sym same) ∙ is)

  -- and after the store grew by a cell
  new_write : (to variable : ℕ) (value : Value) → kind_of params to ≡ AVar → is_variable binding to variable ≡ true → slice_set (cells ++ nothing ∷ []) (top.base + variable) value ≡ new
      → SameReads (write cells (top.base + as_variable (bound binding to)) value) new
  new_write to variable value kind matches is l =
      let location : ℕ = top.base + as_variable (bound binding to) in
      let inside = at_variable width params binding procs top below (around_of nothing nothing) number fits safe to kind in
      let longer = length-append cells (nothing ∷ []) in
      let same : variable ≡ variable_under binding to = matched_variable binding to variable matches in
      update-same cells (cells ++ nothing ∷ []) (APointer location) value (reads_longer cells) l
      ∙ ap (λ s. read s l) (write_inside (cells ++ nothing ∷ []) location value (omega (arith, inside, longer)) ∙ ap (λ v. slice_set (cells ++ nothing ∷ []) (top.base + v) value) (sym same) ∙ is)

  any_model : (to : ℕ) (value : Value) → IsValue value → SameReads (write cells (top.base + as_variable (bound binding to)) value) new → Modelled (AnyAssign to)
  any_model to value fit reads =
      record {
        any = value;
        fresh = nothing;
        values = are_values value nothing fit nothing_fits;
        step = record { steps = refl; ways = refl; own = refl; store = write cells (top.base + as_variable (bound binding to)) value; is_store = refl; reads = reads };
      }

  any_set : (to variable : ℕ) (value : Value) → kind_of params to ≡ AVar → is_variable binding to variable ≡ true → IsValue value → sets top below number cells variable value ≡ gone → Modelled (AnyAssign to)
  any_set to variable value kind matches fit went = any_model to value fit (one_write to variable value kind matches (ap cells_of went))

  any_loaded : (to variable : ℕ) (address : Value) → kind_of params to ≡ AVar → is_variable binding to variable ≡ true → loads top below number cells variable address ≡ gone → Modelled (AnyAssign to)
  any_loaded to variable (ANumber a) kind matches went = absurd cc
  any_loaded to variable (APointer location) kind matches went = any_set to variable (cell cells location) kind matches (held_value (length cells) _ (safe.held location)) went

  any_computed : (to variable : ℕ) (op : Op) (a b : Value) (value : Option Value) → apply op a b ≡ value → kind_of params to ≡ AVar → is_variable binding to variable ≡ true
      → computes top below number cells variable value ≡ gone → Modelled (AnyAssign to)
  any_computed to variable op a b None at kind matches went = absurd cc
  any_computed to variable op a b (Some value) at kind matches went = any_set to variable value kind matches (held_value (length cells) value (computed_held (length cells) op a b value at)) went

  by_any : (to : ℕ) (stmt : Stmt) → kind_of params to ≡ AVar → assigns binding to stmt ≡ true → AllByRecursion IsNumber (operand_numbers stmt)
      → executed procs top below cells number stmt ≡ gone → Modelled (AnyAssign to)
  by_any to (ACopy variable from) kind matches numbers went = any_set to variable (base_value cells top.base from) kind matches (base_fits from numbers) went
  by_any to (AnAddress variable of) kind matches numbers went = any_set to variable (APointer (top.base + of)) kind matches tt went
  by_any to (ALoad variable from) kind matches numbers went = any_loaded to variable (cell cells (top.base + from)) kind matches went
  by_any to (AComputation variable op left right) kind matches numbers went =
      any_computed to variable op (base_value cells top.base left) (base_value cells top.base right) (apply op (base_value cells top.base left) (base_value cells top.base right)) refl kind matches went
  by_any to (ANew variable) kind matches numbers went = any_model to (APointer (length cells)) tt (new_write to variable (APointer (length cells)) kind matches (ap cells_of went))
  by_any to stmt kind matches numbers went = absurd cc

  -- ---- the other forms

  by_new : (to variable : ℕ) → kind_of params to ≡ AVar → is_variable binding to variable ≡ true → renews top below number cells variable ≡ gone → Modelled (New to)
  by_new to variable kind matches went =
      let fresh : Value = APointer (length cells) in
      record {
        any = nothing;
        fresh = fresh;
        values = are_values nothing fresh nothing_fits tt;
        step = record {
          steps = refl;
          ways = refl;
          own = new_own width params binding top.base (around_of nothing fresh) fits refl safe;
          store = write cells (top.base + as_variable (bound binding to)) fresh;
          is_store = refl;
          reads = new_write to variable fresh kind matches (ap cells_of went);
        };
      }

  -- a branch goes the way of its condition
  way_taken : (condition : RuleBase) (c : ℤ) → denotation (model_of binding top.base (around_of (ANumber c) nothing)) (value params condition) ≡ AValue (ANumber c)
      → (test : Bool) → int_eq c (pos 0) ≡ test
      → list_all (is_true_in (model_of binding top.base (around_of (ANumber c) nothing))) (slot_literals params (If condition) (if test then Else else Then)) ≡ true
  way_taken condition c meant true is = ap (λ d. alike d (AValue nothing) && true) meant ∙ ap (λ b. b && true) is
  way_taken condition c meant false is = ap (λ d. not (alike d (AValue nothing)) && true) meant ∙ ap (λ b. not b && true) is

  by_if : (condition : RuleBase) (v : Value) → IsValue v → denotation (model_of binding top.base (around_of v nothing)) (value params condition) ≡ AValue v
      → branches top below number cells v ≡ gone → Modelled (If condition)
  by_if condition (APointer location) fit meant went = absurd cc
  by_if condition (ANumber c) fit meant went =
      record {
        any = ANumber c;
        fresh = nothing;
        values = are_values (ANumber c) nothing fit nothing_fits;
        step = record {
          steps = ap (λ d. beq (is_number (value_of d)) true && true) meant;
          ways = subst (λ s. list_all (is_true_in (model_of binding top.base (around_of (ANumber c) nothing))) (slot_literals params (If condition) s) ≡ true) (ap slot_of went)
              (way_taken condition c meant (int_eq c (pos 0)) refl);
          own = refl;
          store = cells;
          is_store = refl;
          reads = λ l. ap (λ s. read s l) (ap cells_of went);
        };
      }

  by_write : (to : ℕ) (from : RuleBase) (variable : ℕ) (operand : Base) → is_variable binding to variable ≡ true → is_operand binding from operand ≡ true → AllByRecursion IsNumber (base_numbers operand)
      → executed procs top below cells number (AWrite variable operand) ≡ gone → Modelled (Write to from)
  by_write to from variable operand matches_to matches_from numbers went =
      let any : Value = base_value cells top.base operand in
      let same : variable ≡ variable_under binding to = matched_variable binding to variable matches_to in
      let outcome = write_step width params binding procs top below (around_of any nothing) number fits safe to from operand (ap value_of (operand_here from operand any nothing matches_from refl)) in
      by_outcome (Write to from) (AWrite (variable_under binding to) operand) any (base_fits operand numbers) outcome refl refl refl
      (sym (ap (λ v. executed procs top below cells number (AWrite v operand)) same) ∙ went)

  by_goto : (target : ℕ) → executed procs top below cells number (AGoto target) ≡ gone → Modelled Goto
  by_goto target went =
      record {
        any = nothing;
        fresh = nothing;
        values = are_values nothing nothing nothing_fits nothing_fits;
        step = record { steps = refl; ways = refl; own = refl; store = cells; is_store = refl; reads = λ l. ap (λ s. read s l) (ap cells_of went) };
      }

  -- a step at a statement that neither calls nor returns
  pub by_form : (pattern : Form) (stmt : Stmt) → is_pattern pattern ≡ true → form_has_kinds params pattern ≡ true → matches binding pattern stmt ≡ true → stays stmt ≡ true
      → AllByRecursion IsNumber (operand_numbers stmt) → executed procs top below cells number stmt ≡ gone → Modelled pattern
  by_form Skip stmt shape kinds is stay numbers went = by_plain Skip stmt tt (matched binding Skip stmt tt is) refl refl went
  by_form Goto (AGoto target) shape kinds is stay numbers went = by_goto target went
  by_form (AnyAssign to) stmt shape kinds is stay numbers went = by_any to stmt (variable_kind params to kinds) is numbers went
  by_form (Assign to from) stmt shape kinds is stay numbers went =
      let tame = tame_of from shape in
      by_plain (Assign to from) stmt (variable_kind params to kinds, tame) (matched binding (Assign to from) stmt tame is) refl refl went
  by_form (Address to of) stmt shape kinds is stay numbers went =
      let parts = and_parts _ _ kinds in
      by_plain (Address to of) stmt (variable_kind params to parts.0, variable_kind params of parts.1) (matched binding (Address to of) stmt tt is) refl refl went
  by_form (Load to from) stmt shape kinds is stay numbers went =
      let parts = and_parts _ _ kinds in
      by_plain (Load to from) stmt (variable_kind params to parts.0, variable_kind params from parts.1) (matched binding (Load to from) stmt tt is) refl refl went
  by_form (Compute to op left right) stmt shape kinds is stay numbers went =
      let tame = and_parts _ _ shape in
      let tame_left = tame_of left tame.0 in
      let tame_right = tame_of right tame.1 in
      by_plain (Compute to op left right) stmt (variable_kind params to kinds, tame_left, tame_right) (matched binding (Compute to op left right) stmt (tame_left, tame_right) is) refl refl went
  by_form (Write to from) (AWrite variable operand) shape kinds is stay numbers went = let parts = and_parts _ _ is in by_write to from variable operand parts.0 parts.1 numbers went
  by_form (New to) (ANew variable) shape kinds is stay numbers went = by_new to variable (variable_kind params to kinds) is went
  by_form (If condition) (AnIf operand taken other) shape kinds is stay numbers went =
      by_if condition (base_value cells top.base operand) (base_fits operand numbers) (operand_here condition operand (base_value cells top.base operand) nothing is refl) went
  by_form (Call to arg) (ACall variable callee operand) shape kinds is stay numbers went = absurd cc
  by_form (Return result) (AReturn operand) shape kinds is stay numbers went = absurd cc
  by_form pattern stmt shape kinds is stay numbers went = absurd cc
