-- The template of a sound rule makes the step of the statement that it replaces.
use Rattle.std.proofs.Common.{ℕ, ◌≡◌, ◌≢◌, ◌+◌, Bool, true, false, ◌&&◌, if◌then◌else◌, List, [], ◌∷◌, ◌++◌, refl, ap, sym, ◌∙◌, arith}
use Rattle.std.specs.List.{list_all}
use Rattle.std.specs.Bool.{beq}
use Rattle.std.proofs.lemmas.Bool.{and_parts, eqb-true, false≢true}
use Rattle.rh_il.specs.declared.program.Base.{Base}
use Rattle.rh_il.specs.declared.program.Proc.{Proc}
use Rattle.rh_il.specs.declared.program.Stmt.{Stmt}
use Rattle.rh_il.specs.declared.program.Stmt.TheVariants.{Call as ACall}
use Rattle.rh_il.specs.declared.value.Value.{Value}
use Rattle.rh_il.specs.declared.value.Value.TheVariants.{Num, Ptr}
use Rattle.rh_il_step.specs.declared.frame.Frame.{Frame}
use Rattle.rh_il_step.specs.Step.{Outcome, Stuck, base_value, branches, calls, executed, goes_on, returns}
use Rattle.rh_rule.specs.declared.rule.Conclusion.TheVariants.{Transform}
use Rattle.rh_rule.specs.declared.rule.Form.{Form}
use Rattle.rh_rule.specs.declared.rule.Form.TheVariants.{Entry, Goto, Skip, AnyAssign, Assign, Address, Load, Compute, Write, New, Call, If, Return}
use Rattle.rh_rule.specs.declared.rule.Rule.{Rule}
use Rattle.rh_rule.specs.declared.rule.RuleBase.{RuleBase}
use Rattle.rh_rule.specs.declared.schema.Schema.{Schema}
use Rattle.rh_domain.specs.Binding.{Binding, base_under, variable_under}
use Rattle.rh_ground.specs.Match.{callee_of, matches, template_under}
use Rattle.rh_ground.specs.Template.{IsPlain, IsTame, IsTemplateOf}
use Rattle.rh_ground.proofs.Matched.{matched, matched_variable}
use Rattle.rh_term.specs.Model.{Model, AStore, AValue, alike, is_number, value_of}
use Rattle.rh_term.proofs.Stores.{same_store-reads, value_eq-true}
use Rattle.rh_goals.specs.Goals.{conclusion_goals, template_goals}
use Rattle.rh_goals.specs.Hypotheses.{conclusion_clauses}
use Rattle.rh_meaning.specs.Literal.{equals}
use Rattle.rh_goals.specs.Statement.{address, step_literals, store_after, value}
use Rattle.rh_meaning.specs.Denotation.{are_true_in, denotation, is_true_in}
use Rattle.rh_lift.specs.Standing.{IsSafe}
use Rattle.rh_lift.proofs.Cells.{same_reads}
use Rattle.rh_lift.proofs.Concluded.{Applies, goals_hold}
use Rattle.rh_lift.proofs.Models.{at_rest, model_of, operand_value}
use Rattle.rh_lift.proofs.Plain.{PlainStep, left_by, plain_step, steps_in}
use Rattle.rh_lift.proofs.Truth.{goals_apart}

-- an outcome that is not stuck came the way of the test
went : (test : Bool) (outcome next : Outcome) → outcome ≡ (if test then next else Stuck) → outcome ≢ Stuck → test ≡ true
went true outcome next is moves = refl
went false outcome next is moves = absurd (moves is)

module _ (schemas : List Schema) (rule : Rule) (template : Form) (binding : Binding) (width base : ℕ) (cells : List Value)
    (applies : Applies schemas rule width binding base (at_rest cells)) (transforms : rule.conclusion ≡ Transform template) where
  abbrev model : Model
  model = model_of binding base (at_rest cells)

  -- where the step literals of the pattern are true, all goals are
  all_goals : steps_in rule.params model rule.pattern ≡ true → list_all (is_true_in model) (template_goals rule.params rule.pattern template) ≡ true
  all_goals steps =
      ap (λ c. list_all (is_true_in model) (conclusion_goals schemas rule.params rule.pattern c)) (sym transforms)
      ∙ goals_hold schemas rule width binding base (at_rest cells) applies steps (ap (λ c. are_true_in model (conclusion_clauses rule.params rule.pattern c)) transforms)

  -- the goals of a pattern and a template of these forms
  goals_of : (pattern form : Form) → rule.pattern ≡ pattern → template ≡ form → steps_in rule.params model pattern ≡ true → list_all (is_true_in model) (template_goals rule.params pattern form) ≡ true
  goals_of pattern form at is steps =
      ap (λ t. list_all (is_true_in model) (template_goals rule.params pattern t)) (sym is)
      ∙ ap (λ p. list_all (is_true_in model) (template_goals rule.params p template)) (sym at)
      ∙ all_goals (ap (steps_in rule.params model) at ∙ steps)

  -- operands that a goal equates have one value
  same_value : (a b : RuleBase) → IsTame a → IsTame b → is_true_in model (equals (value rule.params a) (value rule.params b)) ≡ true
      → base_value cells base (base_under binding a) ≡ base_value cells base (base_under binding b)
  same_value a b tame_a tame_b h =
      let at_a = operand_value width rule.params binding base (at_rest cells) applies.fits a tame_a in
      let at_b = operand_value width rule.params binding base (at_rest cells) applies.fits b tame_b in
      value_eq-true _ _ (sym (ap (λ d. alike d (AValue (base_value cells base (base_under binding b)))) at_a)
      ∙ ap (alike (denotation model (value rule.params a))) (sym at_b) ∙ h)

  -- and destinations that one equates are one variable
  same_variable : (to to' : ℕ) → is_true_in model (equals (address to) (address to')) ≡ true → variable_under binding to ≡ variable_under binding to'
  same_variable to to' h = let same : base + variable_under binding to ≡ base + variable_under binding to' = eqb-true (base + variable_under binding to) (base + variable_under binding to') h in omega (arith, same)

  -- what takes the place of a call calls the same procedure, and sets the same variable
  pub call_becomes : (pattern form : Form) (to callee : ℕ) (arg : Base) → rule.pattern ≡ pattern → template ≡ form → IsTemplateOf rule.params pattern form → matches binding pattern (ACall to callee arg) ≡ true
      → (new : Base) × (template_under binding form (ACall to callee arg) ≡ ACall to callee new)
  call_becomes (Call meta operand) (Call meta' operand') to callee arg at is fit m =
      let goals = goals_of (Call meta operand) (Call meta' operand') at is refl in
      let same : variable_under binding meta ≡ variable_under binding meta' = same_variable meta meta' (and_parts (is_true_in model (equals (address meta) (address meta'))) _ goals).0 in
      let here : to ≡ variable_under binding meta = matched_variable binding meta to (and_parts _ _ m).0 in
      (base_under binding operand', ap (λ x. ACall x callee (base_under binding operand')) (sym (here ∙ same)))
  call_becomes (Call meta operand) form to callee arg at is fit m = absurd fit.0
  call_becomes pattern form to callee arg at is fit m = absurd (false≢true m)

module _ (schemas : List Schema) (rule : Rule) (template : Form) (binding : Binding) (width : ℕ)
    (procs : List Proc) (top : Frame) (below : List Frame) (cells : List Value) (number : ℕ) (stmt : Stmt)
    (applies : Applies schemas rule width binding top.base (at_rest cells)) (transforms : rule.conclusion ≡ Transform template)
    (safe : IsSafe width top.base cells) (moves : executed procs top below cells number stmt ≢ Stuck) where
  abbrev here : Model
  here = model_of binding top.base (at_rest cells)

  plain_kept : (pattern form : Form) → rule.pattern ≡ pattern → template ≡ form → IsPlain rule.params pattern → IsPlain rule.params form → stmt ≡ template_under binding pattern stmt
      → template_goals rule.params pattern form ≡ step_literals rule.params form ++ equals (store_after rule.params pattern) (store_after rule.params form) ∷ []
      → executed procs top below cells number (template_under binding form stmt) ≡ executed procs top below cells number stmt
  plain_kept pattern form at as_form plain plain' is goals_are =
      let old : PlainStep rule.params binding procs top below (at_rest cells) number stmt pattern = plain_step width rule.params binding procs top below (at_rest cells) number applies.fits safe stmt pattern plain in
      let new : PlainStep rule.params binding procs top below (at_rest cells) number stmt form = plain_step width rule.params binding procs top below (at_rest cells) number applies.fits safe stmt form plain' in
      let old_is : executed procs top below cells number stmt ≡ (if steps_in rule.params here pattern then goes_on top below number (left_by rule.params here pattern) else Stuck) = ap (executed procs top below cells number) is ∙ old.outcome in
      let steps : steps_in rule.params here pattern ≡ true = went _ _ _ old_is moves in
      let all = goals_of schemas rule template binding width top.base cells applies transforms pattern form at as_form steps in
      let apart = goals_apart here (step_literals rule.params form) _ (ap (list_all (is_true_in here)) (sym goals_are) ∙ all) in
      let alike_stores : alike (AStore (left_by rule.params here pattern)) (AStore (left_by rule.params here form)) ≡ true =
      sym (ap (λ d. alike d (AStore (left_by rule.params here form))) old.is_store) ∙ ap (alike (denotation here (store_after rule.params pattern))) (sym new.is_store) ∙ apart.1 in
      let one_store : left_by rule.params here pattern ≡ left_by rule.params here form =
      same_reads _ _ (old.size steps ∙ sym (new.size apart.0)) (same_store-reads _ _ alike_stores) in
      new.outcome ∙ ap (λ t. if t then goes_on top below number (left_by rule.params here form) else Stuck) apart.0
      ∙ ap (goes_on top below number) (sym one_store)
      ∙ sym (old_is ∙ ap (λ t. if t then goes_on top below number (left_by rule.params here pattern) else Stuck) steps)

  branch_moves : (v : Value) → branches top below number cells v ≢ Stuck → is_number v ≡ true
  branch_moves (Num condition) moved = refl
  branch_moves (Ptr location) moved = absurd (moved refl)

  branch_kept : (cond cond' : RuleBase) → rule.pattern ≡ If cond → template ≡ If cond' → IsTame cond → IsTame cond' → stmt ≡ template_under binding (If cond) stmt
      → executed procs top below cells number (template_under binding (If cond') stmt) ≡ executed procs top below cells number stmt
  branch_kept cond cond' at as_form tame tame' is =
      let v : Value = base_value cells top.base (base_under binding cond) in
      let old_is : executed procs top below cells number stmt ≡ branches top below number cells v = ap (executed procs top below cells number) is in
      let numeric : is_number v ≡ true = branch_moves v (λ stuck. moves (old_is ∙ stuck)) in
      let at_cond : denotation here (value rule.params cond) ≡ AValue v = operand_value width rule.params binding top.base (at_rest cells) applies.fits cond tame in
      let steps : steps_in rule.params here (If cond) ≡ true = ap (λ d. beq (is_number (value_of d)) true && true) at_cond ∙ ap (λ n. beq n true && true) numeric in
      let all = goals_of schemas rule template binding width top.base cells applies transforms (If cond) (If cond') at as_form steps in
      let apart = goals_apart here (step_literals rule.params (If cond')) (equals (value rule.params cond) (value rule.params cond')) all in
      ap (branches top below number cells) (sym (same_value schemas rule template binding width top.base cells applies transforms cond cond' tame tame' apart.1)) ∙ sym old_is

  return_kept : (result result' : RuleBase) → rule.pattern ≡ Return result → template ≡ Return result' → IsTame result → IsTame result' → stmt ≡ template_under binding (Return result) stmt
      → executed procs top below cells number (template_under binding (Return result') stmt) ≡ executed procs top below cells number stmt
  return_kept result result' at as_form tame tame' is =
      let old_is : executed procs top below cells number stmt ≡ returns procs below cells (base_value cells top.base (base_under binding result)) = ap (executed procs top below cells number) is in
      let all = goals_of schemas rule template binding width top.base cells applies transforms (Return result) (Return result') at as_form refl in
      let apart = goals_apart here [] (equals (value rule.params result) (value rule.params result')) all in
      ap (returns procs below cells) (sym (same_value schemas rule template binding width top.base cells applies transforms result result' tame tame' apart.1)) ∙ sym old_is

  call_kept : (to to' : ℕ) (arg arg' : RuleBase) → rule.pattern ≡ Call to arg → template ≡ Call to' arg' → IsTame arg → IsTame arg' → stmt ≡ template_under binding (Call to arg) stmt
      → executed procs top below cells number (template_under binding (Call to' arg') stmt) ≡ executed procs top below cells number stmt
  call_kept to to' arg arg' at as_form tame tame' is =
      let called : Value → Outcome = calls procs top below cells (callee_of stmt) in
      let old_is : executed procs top below cells number stmt ≡ called (base_value cells top.base (base_under binding arg)) = ap (executed procs top below cells number) is in
      let all = goals_of schemas rule template binding width top.base cells applies transforms (Call to arg) (Call to' arg') at as_form refl in
      let apart = goals_apart here (equals (address to) (address to') ∷ []) (equals (value rule.params arg) (value rule.params arg')) all in
      ap called (sym (same_value schemas rule template binding width top.base cells applies transforms arg arg' tame tame' apart.1)) ∙ sym old_is

  -- by the forms of the pattern and of the template
  pub kept_by_form : (pattern : Form) → rule.pattern ≡ pattern → (form : Form) → template ≡ form → IsTemplateOf rule.params pattern form → matches binding pattern stmt ≡ true
      → executed procs top below cells number (template_under binding form stmt) ≡ executed procs top below cells number stmt
  kept_by_form (Call to arg) at (Call to' arg') is fit m = call_kept to to' arg arg' at is fit.2 fit.3 (matched binding (Call to arg) stmt fit.2 m)
  kept_by_form (If cond) at (If cond') is fit m = branch_kept cond cond' at is fit.0 fit.1 (matched binding (If cond) stmt fit.0 m)
  kept_by_form (Return result) at (Return result') is fit m = return_kept result result' at is fit.0 fit.1 (matched binding (Return result) stmt fit.0 m)
  kept_by_form Skip at form is fit m = plain_kept Skip form at is fit.0 fit.1 (matched binding Skip stmt tt m) refl
  kept_by_form (Assign to from) at form is fit m = plain_kept (Assign to from) form at is fit.0 fit.1 (matched binding (Assign to from) stmt fit.0.1 m) refl
  kept_by_form (Address to of) at form is fit m = plain_kept (Address to of) form at is fit.0 fit.1 (matched binding (Address to of) stmt tt m) refl
  kept_by_form (Load to from) at form is fit m = plain_kept (Load to from) form at is fit.0 fit.1 (matched binding (Load to from) stmt tt m) refl
  kept_by_form (Compute to op left right) at form is fit m = plain_kept (Compute to op left right) form at is fit.0 fit.1 (matched binding (Compute to op left right) stmt (fit.0.1, fit.0.2) m) refl
  kept_by_form (Write to from) at form is fit m = plain_kept (Write to from) form at is fit.0 fit.1 (matched binding (Write to from) stmt fit.0.1 m) refl
  kept_by_form (Entry param) at form is fit m = absurd fit.0
  kept_by_form Goto at form is fit m = absurd fit.0
  kept_by_form (AnyAssign to) at form is fit m = absurd fit.0
  kept_by_form (New to) at form is fit m = absurd fit.0
  kept_by_form pattern at form is fit m = absurd fit.0
