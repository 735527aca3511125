-- A plain statement steps where its step literals are true in the model of the step, and leaves the store after of
-- that model.
use Rattle.std.proofs.Common.{ℕ, ◌≡◌, ◌+◌, ◌<◌, Bool, true, false, ◌&&◌, if◌then◌else◌, List, length, slice_set, refl, ap, sym, ◌∙◌, arith}
use Rattle.std.specs.List.{list_all}
use Rattle.std.specs.Bool.{beq}
use Rattle.std.proofs.Math.ListN.{length-set}
use Rattle.rh_il.specs.declared.program.Base.{Base}
use Rattle.rh_il.specs.declared.program.Proc.{Proc}
use Rattle.rh_il.specs.declared.program.Stmt.{Stmt}
use Rattle.rh_il.specs.declared.program.Stmt.TheVariants.{Write as AWrite}
use Rattle.rh_il.specs.declared.value.Op.{Op}
use Rattle.rh_il.specs.declared.value.Op.TheVariants.{Add, Sub, Mul, Less, Equal}
use Rattle.rh_il.specs.declared.value.Value.{Value}
use Rattle.rh_il.specs.declared.value.Value.TheVariants.{Num, Ptr}
use Rattle.rh_il.specs.Op.{apply, total}
use Rattle.rh_il_step.specs.declared.frame.Frame.{Frame}
use Rattle.rh_il_step.specs.State.{cell, IsHeld}
use Rattle.rh_il_step.specs.Step.{Outcome, Stuck, base_value, executed, goes_on, sets, loads, computes, writes}
use Rattle.rh_rule.specs.declared.rule.Form.{Form}
use Rattle.rh_rule.specs.declared.rule.Form.TheVariants.{Entry, Goto, Skip, AnyAssign, Assign, Address, Load, Compute, Write, New, Call, If, Return}
use Rattle.rh_rule.specs.declared.rule.RuleBase.{RuleBase}
use Rattle.rh_rule.specs.declared.schema.Kind.TheVariants.{Var as AVar}
use Rattle.rh_rule.specs.declared.schema.Param.{Param}
use Rattle.rh_rule.specs.Params.{kind_of}
use Rattle.rh_domain.specs.Binding.{Binding, FitsBinding, bound, as_variable, base_under, variable_under}
use Rattle.rh_ground.specs.Match.{template_under}
use Rattle.rh_term.specs.Model.{Model, AStore, is_number, value_of, store_of}
use Rattle.rh_term.specs.Store.{write, select, update}
use Rattle.rh_meaning.specs.Tree.{Tree}
use Rattle.rh_meaning.specs.Denotation.{denotation, is_true_in}
use Rattle.rh_goals.specs.Statement.{value, operator_literals, step_literals, store_after}
use Rattle.rh_ground.specs.Template.{IsTame, IsPlain}
use Rattle.rh_ground.proofs.Fitting.{variable_inside}
use Rattle.rh_lift.specs.Standing.{IsSafe}
use Rattle.rh_lift.proofs.Cells.{write_inside}
use Rattle.rh_lift.proofs.Models.{Around, model_of, operand_value}

-- the step literals of a form are true in a model
abbrev pub steps_in : List Param → Model → Form → Bool
steps_in params model form = list_all (is_true_in model) (step_literals params form)

-- the store after a form in a model
abbrev pub left_by : List Param → Model → Form → List Value
left_by params model form = store_of (denotation model (store_after params form))

-- both values are numbers, where the operator needs it
abbrev are_numbers : Op → Value → Value → Bool
are_numbers Equal a b = true
are_numbers op a b = beq (is_number a) true && (beq (is_number b) true && true)

operator_steps : (model : Model) (op : Op) (left right : Tree)
    → list_all (is_true_in model) (operator_literals op left right) ≡ are_numbers op (value_of (denotation model left)) (value_of (denotation model right))
operator_steps model Add left right = refl
operator_steps model Sub left right = refl
operator_steps model Mul left right = refl
operator_steps model Less left right = refl
operator_steps model Equal left right = refl

module _ (top : Frame) (below : List Frame) (cells : List Value) (number : ℕ) where
  -- the cell gets the value, and the frames go on
  abbrev written : ℕ → Value → Outcome
  written location value = goes_on top below number (write cells location value)

  set_is : (location : ℕ) (value : Value) → location < length cells → goes_on top below number (slice_set cells location value) ≡ written location value
  set_is location value inside = ap (goes_on top below number) (sym (write_inside cells location value inside))

  load_is : (to : ℕ) (address : Value) → top.base + to < length cells
      → loads top below number cells to address ≡ (if beq (is_number address) false && true then written (top.base + to) (select cells address) else Stuck)
  load_is to (Num a) inside = refl
  load_is to (Ptr location) inside = set_is (top.base + to) (cell cells location) inside

  write_is : (address value : Value) → IsHeld (length cells) address
      → writes top below number cells address value ≡ (if beq (is_number address) false && true then goes_on top below number (update cells address value) else Stuck)
  write_is (Num a) value held = refl
  write_is (Ptr location) value held = set_is location value held

  sum_is : (op : Op) (to : ℕ) (a b : Value)
      → computes top below number cells to (apply op a b) ≡ (if are_numbers op a b then sets top below number cells to (total op a b) else Stuck)
  sum_is Equal to a b = refl
  sum_is Add to (Num a) (Num b) = refl
  sum_is Add to (Num a) (Ptr b) = refl
  sum_is Add to (Ptr a) b = refl
  sum_is Sub to (Num a) (Num b) = refl
  sum_is Sub to (Num a) (Ptr b) = refl
  sum_is Sub to (Ptr a) b = refl
  sum_is Mul to (Num a) (Num b) = refl
  sum_is Mul to (Num a) (Ptr b) = refl
  sum_is Mul to (Ptr a) b = refl
  sum_is Less to (Num a) (Num b) = refl
  sum_is Less to (Num a) (Ptr b) = refl
  sum_is Less to (Ptr a) b = refl

-- it steps where the literals are true, and leaves the store of the model
abbrev pub StepsBy : List Param → Binding → List Proc → Frame → List Frame → Around → ℕ → Stmt → Form → Type 0
StepsBy params binding procs top below around number stmt form =
    executed procs top below around.before number stmt
    ≡ (if steps_in params (model_of binding top.base around) form then goes_on top below number (left_by params (model_of binding top.base around) form) else Stuck)

-- what a plain statement does in the model of its step
pub record PlainStep (params : List Param) (binding : Binding) (procs : List Proc) (top : Frame) (below : List Frame) (around : Around) (number : ℕ) (old : Stmt) (form : Form) : Type 0 where
  pub outcome : StepsBy params binding procs top below around number (template_under binding form old) form
  pub is_store : denotation (model_of binding top.base around) (store_after params form) ≡ AStore (left_by params (model_of binding top.base around) form)
  pub size : steps_in params (model_of binding top.base around) form ≡ true → length (left_by params (model_of binding top.base around) form) ≡ length around.before

length-write : (cells : List Value) (location : ℕ) (value : Value) → location < length cells → length (write cells location value) ≡ length cells
length-write cells location value inside = ap length (write_inside cells location value inside) ∙ length-set cells location value

-- an address that is read or written is a pointer into the store
size_updated : (cells : List Value) (address value : Value) → IsHeld (length cells) address → (beq (is_number address) false && true) ≡ true
    → length (update cells address value) ≡ length cells
size_updated cells (Num a) value held pointer = refl
size_updated cells (Ptr location) value held pointer = length-write cells location value held

module _ (width : ℕ) (params : List Param) (binding : Binding) (procs : List Proc) (top : Frame) (below : List Frame) (around : Around) (number : ℕ)
    (fits : FitsBinding width params binding) (safe : IsSafe width top.base around.before) where
  abbrev model : Model
  model = model_of binding top.base around

  abbrev cells : List Value
  cells = around.before

  pub at_variable : (meta : ℕ) → kind_of params meta ≡ AVar → top.base + as_variable (bound binding meta) < length cells
  at_variable meta kind = let inside = variable_inside width params binding meta fits kind in omega (arith, safe.inside)

  value_is : (b : RuleBase) → IsTame b → value_of (denotation model (value params b)) ≡ base_value cells top.base (base_under binding b)
  value_is b tame = ap value_of (operand_value width params binding top.base around fits b tame)

  -- a write of an operand that has the value of the rule's
  pub write_step : (to : ℕ) (from : RuleBase) (operand : Base) → value_of (denotation model (value params from)) ≡ base_value cells top.base operand
      → StepsBy params binding procs top below around number (AWrite (variable_under binding to) operand) (Write to from)
  write_step to from operand same =
      let address : Value = cell cells (top.base + variable_under binding to) in
      write_is top below cells number address (base_value cells top.base operand) (safe.held _)
      ∙ ap (λ v. if beq (is_number address) false && true then goes_on top below number (update cells address v) else Stuck) (sym same)

  pub plain_step : (old : Stmt) (form : Form) → IsPlain params form → PlainStep params binding procs top below around number old form
  plain_step old Skip plain = record { outcome = refl; is_store = refl; size = λ steps. refl }
  plain_step old (Assign to from) plain =
      record {
        outcome = set_is top below cells number _ _ (at_variable to plain.0) ∙ ap (written top below cells number (top.base + as_variable (bound binding to))) (sym (value_is from plain.1));
        is_store = refl;
        size = λ steps. length-write cells _ _ (at_variable to plain.0);
      }
  plain_step old (Address to of) plain =
      record {
        outcome = set_is top below cells number _ _ (at_variable to plain.0);
        is_store = refl;
        size = λ steps. length-write cells _ _ (at_variable to plain.0);
      }
  plain_step old (Load to from) plain =
      record {
        outcome = load_is top below cells number _ (cell cells (top.base + variable_under binding from)) (at_variable to plain.0);
        is_store = refl;
        size = λ steps. length-write cells _ _ (at_variable to plain.0);
      }
  plain_step old (Compute to op left right) plain =
      let location : ℕ = top.base + as_variable (bound binding to) in
      let inside : location < length cells = at_variable to plain.0 in
      let a : Value = base_value cells top.base (base_under binding left) in
      let b : Value = base_value cells top.base (base_under binding right) in
      let computed : Value → Value → Outcome = λ x y. if are_numbers op x y then written top below cells number location (total op x y) else Stuck in
      record {
        outcome = sum_is top below cells number op (variable_under binding to) a b
            ∙ ap (λ o. if are_numbers op a b then o else Stuck) (set_is top below cells number location (total op a b) inside)
            ∙ ap (λ x. computed x b) (sym (value_is left plain.1))
            ∙ ap (computed (value_of (denotation model (value params left)))) (sym (value_is right plain.2))
            ∙ ap (λ s. if s then goes_on top below number (left_by params model (Compute to op left right)) else Stuck) (sym (operator_steps model op (value params left) (value params right)));
        is_store = refl;
        size = λ steps. length-write cells _ _ inside;
      }
  plain_step old (Write to from) plain =
      record {
        outcome = write_step to from (base_under binding from) (value_is from plain.1);
        is_store = refl;
        size = size_updated cells _ _ (safe.held (top.base + variable_under binding to));
      }
  plain_step old (Entry param) plain = absurd plain
  plain_step old Goto plain = absurd plain
  plain_step old (AnyAssign to) plain = absurd plain
  plain_step old (New to) plain = absurd plain
  plain_step old (Call to arg) plain = absurd plain
  plain_step old (If cond) plain = absurd plain
  plain_step old (Return result) plain = absurd plain
