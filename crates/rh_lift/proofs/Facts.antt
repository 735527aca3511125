-- What sound rules conclude of a step holds after it.
use Rattle.std.proofs.Common.{ℕ, ◌≡◌, ◌+◌, ◌<◌, ◌≤◌, Bool, true, false, not, ◌&&◌, ◌||◌, ◌==◌, List, [], ◌∷◌, length, pos, Some, slice_set, refl, ap, sym, ◌∙◌, subst, arith}
use Rattle.std.specs.List.{AllByRecursion, list_all}
use Rattle.std.specs.Option.{option_map_or}
use Rattle.std.specs.Prelude.{slice_get}
use Rattle.std.proofs.lemmas.Bool.{and_parts, eqb-true}
use Rattle.std.proofs.lemmas.Option.{same_Some}
use Rattle.rh_list.specs.Each.{Each}
use Rattle.rh_il.specs.declared.program.Base.{Base}
use Rattle.rh_il.specs.declared.program.Edge.{Edge}
use Rattle.rh_il.specs.declared.program.Node.{Node}
use Rattle.rh_il.specs.declared.program.Node.TheVariants.{Entry as AtEntry, At}
use Rattle.rh_il.specs.declared.program.Proc.{Proc}
use Rattle.rh_il.specs.declared.program.Slot.{Slot}
use Rattle.rh_il.specs.declared.program.Slot.TheVariants.{Out}
use Rattle.rh_il.specs.declared.program.Stmt.{Stmt}
use Rattle.rh_il.specs.declared.program.Stmt.TheVariants.{Call as ACall}
use Rattle.rh_il.specs.declared.value.Value.{Value}
use Rattle.rh_il.specs.declared.value.Value.TheVariants.{Num, Ptr}
use Rattle.rh_il.specs.Flow.{edges_into}
use Rattle.rh_il.specs.Numbers.{operand_numbers}
use Rattle.rh_il.specs.Value.{IsNumber}
use Rattle.rh_il_step.specs.State.{cell}
use Rattle.rh_il_step.specs.Step.{base_value}
use Rattle.rh_rule.specs.declared.rule.Conclusion.TheVariants.{Fact}
use Rattle.rh_rule.specs.declared.rule.FactUse.{FactUse}
use Rattle.rh_rule.specs.declared.rule.Form.{Form}
use Rattle.rh_rule.specs.declared.rule.Form.TheVariants.{Entry, Call}
use Rattle.rh_rule.specs.declared.rule.Rule.{Rule}
use Rattle.rh_rule.specs.declared.rule.Ruling.{Ruling}
use Rattle.rh_rule.specs.declared.schema.Param.{Param}
use Rattle.rh_rule.specs.Kinds.{form_has_kinds}
use Rattle.rh_rule.specs.RuleFiles.{Rules, SchemaPassed}
use Rattle.rh_rule.specs.Shapes.{is_entry}
use Rattle.rh_rule.proofs.Passed.{rule_passed, schema_passed}
use Rattle.rh_domain.specs.Binding.{Binding, FitsBinding, as_variable, bound, variable_under}
use Rattle.rh_domain.specs.Facts.{Known}
use Rattle.rh_domain.specs.declared.fact.FactAt.{FactAt}
use Rattle.rh_domain.specs.declared.fact.GroundFact.{GroundFact}
use Rattle.rh_ground.specs.Instance.{fact_under, is_instance, matches_at, matches_entry, side_holds}
use Rattle.rh_ground.specs.Match.{matches}
use Rattle.rh_ground.specs.Rows.{premises_at}
use Rattle.rh_ground.proofs.Fitting.{binding_fits, variable_inside}
use Rattle.rh_ground.proofs.Matched.{matched_variable}
use Rattle.rh_goals.specs.Valid.{IsSound}
use Rattle.rh_term.specs.Store.{is_unheld, nothing, read, write}
use Rattle.rh_lift.specs.Local.{CallsKeepFacts, EntriesHaveFacts, LeavesVariables, StepsKeepFacts}
use Rattle.rh_lift.specs.Standing.{IsProvedSet, Stands, fact_holds}
use Rattle.rh_lift.proofs.Cells.{write_inside}
use Rattle.rh_lift.proofs.Concluded.{Applies, Steps, checked, concluded}
use Rattle.rh_lift.proofs.Edges.{all_pass, edge_into, item_of_contains, premises_hold}
use Rattle.rh_lift.proofs.Forms.{by_form}
use Rattle.rh_meaning.proofs.ParamKinds.{variable_kind}
use Rattle.rh_lift.proofs.Models.{AreValues, Around, at_rest, held_value, held_values, nothing_fits, operand_fits, rest_fits}
use Rattle.rh_lift.proofs.Own.{call_own, entry_own}

-- ---- instances

-- the conditions of an instance
pub record IsAbout (proc : Proc) (rule : Rule) (binding : Binding) (node : Node) : Type 0 where
  pub pattern : matches_at proc binding rule.pattern node ≡ true
  pub sides : list_all (side_holds binding) rule.sides ≡ true

pub is_about : (proc : Proc) (rule : Rule) (binding : Binding) (node : Node) → is_instance proc rule binding node ≡ true → IsAbout proc rule binding node
is_about proc rule binding node is =
    let parts = and_parts (matches_at proc binding rule.pattern node) _ is in
    record { pattern = parts.0; sides = (and_parts (list_all (side_holds binding) rule.sides) _ parts.1).0 }

-- an instance of a proved rule that concludes a fact on an edge, and whose premises are known
record Concludes (file : Rules) (known : Known) (place : ℕ) (proc : Proc) (node : Node) (slot : Slot) (ground : GroundFact) : Type 0 where
  number : ℕ
  rule : Rule
  binding : Binding
  fact : FactUse
  rule_at : slice_get file.rules number ≡ Some rule
  sound : IsSound file.schemas rule
  fits : FitsBinding (length proc.vars) rule.params binding
  about : IsAbout proc rule binding node
  concludes : rule.conclusion ≡ Fact fact slot
  fact_is : ground ≡ fact_under binding fact
  premises : list_all known (premises_at place proc rule binding node) ≡ true

-- each known fact has one
concludes_at : (file : Rules) (rulings : List Ruling) (procs : List Proc) (known : Known) (place : ℕ) (proc : Proc) (node : Node) (slot : Slot) (ground : GroundFact)
    → IsProvedSet file rulings procs known → slice_get procs place ≡ Some proc → known (record { proc = place; edge = record { node = node; slot = slot }; fact = ground }) ≡ true
    → Concludes file known place proc node slot ground
concludes_at file rulings procs known place proc node slot ground set proc_at is =
    let support = set.supported (record { proc = place; edge = record { node = node; slot = slot }; fact = ground }) is in
    let row = support.1 in
    let same_proc : row.proc ≡ proc = same_Some row.proc proc (sym row.proc_at ∙ proc_at) in
    let same_node : row.node ≡ node = sym (ap (λ (at : FactAt). at.edge.node) row.conclusion_is) in
    let same_slot : row.slot ≡ slot = sym (ap (λ (at : FactAt). at.edge.slot) row.conclusion_is) in
    let fits = binding_fits row.proc row.rule.params row.binding (set.numbers place row.proc row.proc_at) (item_of_contains _ row.binding row.instance.in_domain) in
    let about = is_about row.proc row.rule row.binding row.node row.instance.about in
    record {
      number = row.number;
      rule = row.rule;
      binding = row.binding;
      fact = row.fact;
      rule_at = row.rule_at;
      sound = set.sound row.number row.rule row.rule_at row.admitted;
      fits = subst (λ (p : Proc). FitsBinding (length p.vars) row.rule.params row.binding) same_proc fits;
      about = subst (λ n. IsAbout proc row.rule row.binding n) same_node (subst (λ p. IsAbout p row.rule row.binding row.node) same_proc about);
      concludes = subst (λ s. row.rule.conclusion ≡ Fact row.fact s) same_slot row.concludes;
      fact_is = ap (λ (at : FactAt). at.fact) row.conclusion_is;
      premises = ap (λ n. list_all known (premises_at place proc row.rule row.binding n)) (sym same_node)
          ∙ ap (λ p. list_all known (premises_at place p row.rule row.binding row.node)) (sym same_proc)
          ∙ ap (list_all known) (sym row.premises_are) ∙ all_pass known support.0 support.2;
    }

-- the rules and schemas of a proved set
pub schemas_pass : (file : Rules) (rulings : List Ruling) (procs : List Proc) (known : Known) → IsProvedSet file rulings procs known → Each SchemaPassed file.schemas
schemas_pass file rulings procs known set = λ number schema read. schema_passed file number schema set.rules read

module _ (file : Rules) (rulings : List Ruling) (procs : List Proc) (known : Known) (set : IsProvedSet file rulings procs known) where
  -- where the premises hold before a step that is in a model, the concluded fact holds after it
  holds_after : (place : ℕ) (proc : Proc) (node : Node) (slot : Slot) (ground : GroundFact) (base : ℕ) (new : List Value) (around : Around)
      → (has : Concludes file known place proc node slot ground) → AreValues around
      → list_all (λ premise. fact_holds file.schemas base around.before (fact_under has.binding premise)) has.rule.premises ≡ true
      → Steps has.rule.params has.binding base around has.rule.pattern slot new
      → fact_holds file.schemas base new ground ≡ true
  holds_after place proc node slot ground base new around has values premises step =
      let applies : Applies file.schemas has.rule (length proc.vars) has.binding base around =
      record {
        schemas_passed = schemas_pass file rulings procs known set;
        passed = rule_passed file has.number has.rule set.rules has.rule_at;
        sound = has.sound;
        fits = has.fits;
        values = values;
        sides = has.about.sides;
        premises = premises;
      } in
      ap (fact_holds file.schemas base new) has.fact_is ∙ concluded file.schemas has.rule (length proc.vars) has.binding base around applies has.fact slot new has.concludes step

  module _ (place : ℕ) (edge : Edge) (base : ℕ) (cells : List Value) (proc : Proc) (number : ℕ) (stmt : Stmt) (at : Stands file.schemas known procs place edge base cells proc number stmt) where
    -- the premises of an instance at the statement
    pub premises_at_statement : (rule : Rule) (binding : Binding) → list_all known (premises_at place proc rule binding (At number)) ≡ true
        → list_all (λ premise. fact_holds file.schemas base cells (fact_under binding premise)) rule.premises ≡ true
    premises_at_statement rule binding all =
        premises_hold known place edge (edges_into proc number) binding (fact_holds file.schemas base cells) (edge_into proc edge number at.enters) at.facts rule.premises all

    pub pattern_at : (rule : Rule) (binding : Binding) → IsAbout proc rule binding (At number) → matches binding rule.pattern stmt ≡ true
    pattern_at rule binding about = ap (λ s. option_map_or (matches binding rule.pattern) s false) (sym at.stmt_at) ∙ about.pattern

    pub numbers_of : AllByRecursion IsNumber (operand_numbers stmt)
    numbers_of = set.numbers place proc at.proc_at number stmt at.stmt_at

-- ---- steps

pub steps_keep_facts : StepsKeepFacts
steps_keep_facts file rulings procs known top below cells proc number stmt slot new set at stay went = λ ground is.
    let has = concludes_at file rulings procs known top.proc proc (At number) slot ground set at.proc_at is in
    let rule : Rule = has.rule in
    let checks = checked file.schemas rule (rule_passed file has.number rule set.rules has.rule_at) in
    let model = by_form (length proc.vars) rule.params has.binding procs top below cells number slot new has.fits at.safe rule.pattern stmt checks.pattern_shape checks.pattern_kinds
    (pattern_at file rulings procs known set top.proc top.edge top.base cells proc number stmt at rule has.binding has.about) stay
    (numbers_of file rulings procs known set top.proc top.edge top.base cells proc number stmt at) went in
    holds_after file rulings procs known set top.proc proc (At number) slot ground top.base new
    (record { any = model.any; fresh = model.fresh; answer = nothing; before = cells; after = cells }) has model.values
    (premises_at_statement file rulings procs known set top.proc top.edge top.base cells proc number stmt at rule has.binding has.premises) model.step

-- ---- entries

entry_form : (binding : Binding) (pattern : Form) → matches_entry binding pattern ≡ true → is_entry pattern ≡ true
entry_form binding (Entry param) is = refl
entry_form binding pattern is = absurd cc

no_premises : (premises : List FactUse) (test : FactUse → Bool) → (length premises == 0) ≡ true → list_all test premises ≡ true
no_premises [] test none = refl
no_premises (premise ∷ premises) test none = let zero : length (premise ∷ premises) ≡ 0 = eqb-true _ 0 none in absurd (omega (arith, zero))

first_true : (a b c : Bool) → a ≡ true → ((not a || b) && c) ≡ true → b ≡ true
first_true true b c is both = (and_parts b c both).0
first_true false b c is both = absurd cc

module _ (width : ℕ) (params : List Param) (binding : Binding) (base : ℕ) (cells : List Value) (fits : FitsBinding width params binding)
    (unheld : (variable : ℕ) → variable < width → is_unheld cells (Ptr (base + variable)) ≡ true)
    (locals : (variable : ℕ) → 0 < variable → variable < width → cell cells (base + variable) ≡ Num (pos 0)) where
  by_entry : (pattern : Form) → matches_entry binding pattern ≡ true → Steps params binding base (at_rest cells) pattern Out cells
  by_entry (Entry param) is =
      record {
        steps = refl;
        ways = refl;
        own = entry_own width params binding base (at_rest cells) fits cells param refl (sym (matched_variable binding param 0 is)) unheld locals;
        store = cells;
        is_store = refl;
        reads = λ l. refl;
      }
  by_entry pattern is = absurd cc

pub entries_have_facts : EntriesHaveFacts
entries_have_facts file rulings procs known place proc base cells set proc_at safe unheld locals = λ ground is.
    let has = concludes_at file rulings procs known place proc AtEntry Out ground set proc_at is in
    let rule : Rule = has.rule in
    let passed = rule_passed file has.number rule set.rules has.rule_at in
    let entry = entry_form has.binding rule.pattern has.about.pattern in
    holds_after file rulings procs known set place proc AtEntry Out ground base cells
    (at_rest cells) has (rest_fits cells safe.held)
    (no_premises rule.premises (λ premise. fact_holds file.schemas base cells (fact_under has.binding premise)) (first_true (is_entry rule.pattern) (length rule.premises == 0) _ entry passed.slots))
    (by_entry (length proc.vars) rule.params has.binding base cells has.fits unheld locals rule.pattern has.about.pattern)

-- ---- calls

module _ (width : ℕ) (params : List Param) (binding : Binding) (base : ℕ) (kept cells : List Value) (any answer : Value) (fits : FitsBinding width params binding)
    (room : base + width ≤ length cells) (leaves : LeavesVariables width base kept cells answer) where
  abbrev at_return : Around
  at_return = record { any = any; fresh = nothing; answer = answer; before = kept; after = cells }

  by_call : (pattern : Form) (variable callee : ℕ) (operand : Base) → form_has_kinds params pattern ≡ true → matches binding pattern (ACall variable callee operand) ≡ true
      → Steps params binding base at_return pattern Out (slice_set cells (base + variable) answer)
  by_call (Call to arg) variable callee operand kinds is =
      let same : variable ≡ variable_under binding to = matched_variable binding to variable (and_parts _ _ is).0 in
      let inside : as_variable (bound binding to) < width = variable_inside width params binding to fits (variable_kind params to kinds) in
      record {
        steps = refl;
        ways = refl;
        own = call_own width params binding base at_return fits kept cells refl refl leaves;
        store = write cells (base + as_variable (bound binding to)) answer;
        is_store = refl;
        reads = λ l. ap (λ s. read s l) (write_inside cells _ answer (omega (arith, inside, room)) ∙ ap (λ v. slice_set cells (base + v) answer) (sym same));
      }
  by_call pattern variable callee operand kinds is = absurd cc

pub calls_keep_facts : CallsKeepFacts
calls_keep_facts file rulings procs known place edge base kept cells proc number to callee arg answer set at longer held answer_held leaves = λ ground is.
    let has = concludes_at file rulings procs known place proc (At number) Out ground set at.proc_at is in
    let rule : Rule = has.rule in
    let checks = checked file.schemas rule (rule_passed file has.number rule set.rules has.rule_at) in
    let any : Value = base_value kept base arg in
    let inside = at.safe.inside in
    holds_after file rulings procs known set place proc (At number) Out ground base (slice_set cells (base + to) answer)
    (record { any = any; fresh = nothing; answer = answer; before = kept; after = cells }) has
    (record {
      any = operand_fits base kept arg at.safe.held (numbers_of file rulings procs known set place edge base kept proc number (ACall to callee arg) at);
      fresh = nothing_fits;
      answer = held_value (length cells) answer answer_held;
      before = held_values (length kept) kept at.safe.held;
      after = held_values (length cells) cells held;
    })
    (premises_at_statement file rulings procs known set place edge base kept proc number (ACall to callee arg) at rule has.binding has.premises)
    (by_call (length proc.vars) rule.params has.binding base kept cells any answer has.fits (omega (arith, inside, longer)) leaves rule.pattern to callee arg checks.pattern_kinds
    (pattern_at file rulings procs known set place edge base kept proc number (ACall to callee arg) at rule has.binding has.about))
