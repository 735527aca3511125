-- The hypotheses and goals of a rule of a rule file are few, and their clauses short.
use Rattle.std.proofs.Common.{ℕ, suc, ◌≡◌, ◌≤◌, ◌+◌, ◌*◌, Bool, true, false, not, ◌==◌, List, [], ◌∷◌, ◌++◌, map, length, filter, Option, Some, None, refl, ap, arith, length-append}
use Rattle.std.specs.Prelude.{slice_get, if◌then◌else◌}
use Rattle.std.specs.List.{AllByRecursion, flat_map, range_with_len}
use Rattle.std.proofs.lemmas.List.{length-map}
use Rattle.std.proofs.lemmas.List.FromFn.{length-range_with_len}
use Rattle.rh_list.proofs.Appended.{joined}
use Rattle.rh_il.specs.declared.program.Slot.{Slot}
use Rattle.rh_il.specs.declared.program.Slot.TheVariants.{Then, Else}
use Rattle.rh_il.specs.declared.value.Op.{Op}
use Rattle.rh_il.specs.declared.value.Op.TheVariants.{Equal}
use Rattle.rh_rule.specs.declared.rule.Conclusion.{Conclusion}
use Rattle.rh_rule.specs.declared.rule.Conclusion.TheVariants.{Fact, Transform}
use Rattle.rh_rule.specs.declared.rule.FactUse.{FactUse}
use Rattle.rh_rule.specs.declared.rule.Form.{Form}
use Rattle.rh_rule.specs.declared.rule.Form.TheVariants.{Entry, Compute as AComputation, New, Call, If, Return}
use Rattle.rh_rule.specs.declared.rule.Rule.{Rule}
use Rattle.rh_rule.specs.declared.schema.Param.{Param}
use Rattle.rh_rule.specs.declared.schema.Schema.{Schema}
use Rattle.rh_rule.specs.Params.{kind_of}
use Rattle.rh_rule.specs.RuleFiles.{IsRuleOf, RulePassed, SchemaPassed}
use Rattle.rh_rule.proofs.Passed.{rule_passed, schema_passed}
use Rattle.rh_term.specs.declared.term.Term.TheVariants.{Fresh, Start}
use Rattle.rh_meaning.specs.Literal.{TreeLit, TreeClause, differs, equals, unheld_tree}
use Rattle.rh_meaning.specs.Meaning.{atom_literal, fact_literals}
use Rattle.rh_meaning.specs.Tree.{Tree, Leaf}
use Rattle.rh_goals.specs.Goals.{conclusion_goals, goals, template_goals}
use Rattle.rh_goals.specs.Hypotheses.{call_clauses_of, conclusion_clauses, hypotheses, is_var, local_clause, own_clauses, side_literal, slot_literals, units, var_metas}
use Rattle.rh_goals.specs.Few.{AreFewClauses}
use Rattle.rh_goals.specs.Statement.{address, before, operator_literals, step_literals, store_after, value}
use Rattle.rh_goals.proofs.RuleTrees.{all_flat, all_mapped}

-- ---- how many

flat_few : {X Y : Type 0} (f : X → List Y) (xs : List X) → ((x : X) → length (f x) ≤ 4) → length (flat_map f xs) ≤ 4 * length xs
flat_few f [] few = omega arith
flat_few f (x ∷ xs) few = omega (arith, length-append (f x) (flat_map f xs), few x, flat_few f xs few)

filter_step : {X : Type 0} (passes : Bool) (x : X) (rest : List X) (most : ℕ) → length rest ≤ most → length (if passes then x ∷ rest else rest) ≤ suc most
filter_step true x rest most few = omega (arith, few)
filter_step false x rest most few = omega (arith, few)

filter_few : {X : Type 0} (test : X → Bool) (xs : List X) → length (filter test xs) ≤ length xs
filter_few test [] = omega arith
filter_few test (x ∷ xs) = filter_step (test x) x (filter test xs) (length xs) (filter_few test xs)

metas_few : (params : List Param) → length (var_metas params) ≤ length params
metas_few params =
    omega (arith, filter_few (λ meta. is_var (kind_of params meta)) (range_with_len 0 (length params)), length-range_with_len 0 (length params))

operator_few : (op : Op) (left right : Tree) → length (operator_literals op left right) ≤ 2
operator_few Equal left right = omega arith
operator_few op left right = omega arith

step_few : (params : List Param) (form : Form) → length (step_literals params form) ≤ 2
step_few params (AComputation to op left right) = operator_few op (value params left) (value params right)
step_few params form = omega arith

slot_few : (params : List Param) (pattern : Form) (slot : Slot) → length (slot_literals params pattern slot) ≤ 1
slot_few params (If cond) Then = omega arith
slot_few params (If cond) Else = omega arith
slot_few params pattern slot = omega arith

abbrev no_variable : ℕ → TreeClause
no_variable meta = differs (Leaf Fresh) (address meta) ∷ []

abbrev unheld_clause : ℕ → TreeClause
unheld_clause meta = unheld_tree (Leaf Start) (address meta) ∷ []

own_few : (params : List Param) (pattern : Form) → length (own_clauses params pattern) ≤ 3 + 4 * length params
own_few params (New to) = omega (arith, length-map (var_metas params) no_variable, metas_few params)
own_few params (Call to arg) = omega (arith, flat_few call_clauses_of (var_metas params) (λ meta. omega arith), metas_few params)
own_few params (Entry param) =
    let metas : List ℕ = var_metas params in
    omega (
      arith,
      length-append (map unheld_clause metas) (map (local_clause param) (filter (λ meta. not (meta == param)) metas)),
      length-map metas unheld_clause,
      length-map (filter (λ meta. not (meta == param)) metas) (local_clause param),
      filter_few (λ meta. not (meta == param)) metas,
      metas_few params,
    )
own_few params pattern = omega arith

units_few : (lits : List TreeLit) → length (units lits) ≡ length lits
units_few [] = refl
units_few (lit ∷ lits) = ap suc (units_few lits)

conclusion_few : (params : List Param) (pattern : Form) (conclusion : Conclusion) → length (conclusion_clauses params pattern conclusion) ≤ 4 + 4 * length params
conclusion_few params pattern (Fact fact slot) =
    omega (arith, length-append (units (slot_literals params pattern slot)) (own_clauses params pattern), units_few (slot_literals params pattern slot), slot_few params pattern slot, own_few params pattern)
conclusion_few params pattern (Transform template) = omega arith

module _ (schemas : List Schema) (rule : Rule) (is : IsRuleOf schemas rule) where
  pub passed : RulePassed schemas rule
  passed = rule_passed (record { schemas = schemas; rules = is.rules }) is.number rule is.file is.stands

  fact_few : (store : Tree) (fact : FactUse) → length (fact_literals schemas rule.params store fact) ≤ 4
  fact_few store fact = at (slice_get schemas fact.schema) refl
    where
      at : (found : Option Schema) → slice_get schemas fact.schema ≡ found
          → length (elim found as (λ _. List TreeLit) [ None ↦ [] | Some schema ↦ map (atom_literal rule.params fact.args store) schema.meaning ]) ≤ 4
      at None stands = omega arith
      at (Some schema) stands =
          let has : SchemaPassed schema = schema_passed (record { schemas = schemas; rules = is.rules }) fact.schema schema is.file stands in
          omega (arith, length-map schema.meaning (atom_literal rule.params fact.args store), has.few_atoms)

  hypotheses_few : length (hypotheses schemas rule) ≤ 100
  hypotheses_few =
      let facts : List TreeLit = flat_map (fact_literals schemas rule.params before) rule.premises in
      let sides : List TreeLit = map (side_literal rule.params) rule.sides in
      let steps : List TreeLit = step_literals rule.params rule.pattern in
      omega (
        arith,
        length-append ((units facts ++ units sides) ++ units steps) (conclusion_clauses rule.params rule.pattern rule.conclusion),
        length-append (units facts ++ units sides) (units steps),
        length-append (units facts) (units sides),
        units_few facts,
        units_few sides,
        units_few steps,
        flat_few (fact_literals schemas rule.params before) rule.premises (fact_few before),
        length-map rule.sides (side_literal rule.params),
        step_few rule.params rule.pattern,
        conclusion_few rule.params rule.pattern rule.conclusion,
        passed.params,
        passed.premises,
        passed.sides,
      )

  template_few : (pattern template : Form) → length (template_goals rule.params pattern template) ≤ 4
  template_few (Call to arg) (Call to' arg') = omega arith
  template_few (If cond) (If cond') = omega arith
  template_few (Return result) (Return result') = omega arith
  template_few pattern template = omega (arith, length-append (step_literals rule.params template) (equals (store_after rule.params pattern) (store_after rule.params template) ∷ []), step_few rule.params template)

  conclusion_goals_few : (conclusion : Conclusion) → length (conclusion_goals schemas rule.params rule.pattern conclusion) ≤ 4
  conclusion_goals_few (Fact fact slot) = fact_few (store_after rule.params rule.pattern) fact
  conclusion_goals_few (Transform template) = template_few rule.pattern template

  pub goals_few : length (goals schemas rule) ≤ 4
  goals_few = conclusion_goals_few rule.conclusion

-- ---- how long

abbrev pub IsShortClause : TreeClause → Type 0
IsShortClause clause = length clause ≤ 3

units_short : (lits : List TreeLit) → AllByRecursion IsShortClause (units lits)
units_short [] = tt
units_short (lit ∷ lits) = (omega arith, units_short lits)

own_short : (params : List Param) (pattern : Form) → AllByRecursion IsShortClause (own_clauses params pattern)
own_short params (New to) = (omega arith, (omega arith, (omega arith, all_mapped IsShortClause no_variable (λ meta. omega arith) (var_metas params))))
own_short params (Call to arg) = all_flat IsShortClause call_clauses_of (λ meta. (omega arith, (omega arith, (omega arith, tt)))) (var_metas params)
own_short params (Entry param) =
    let locals : List ℕ = filter (λ meta. not (meta == param)) (var_metas params) in
    joined IsShortClause (map unheld_clause (var_metas params)) (map (local_clause param) locals) (all_mapped IsShortClause unheld_clause (λ meta. omega arith) (var_metas params))
    (all_mapped IsShortClause (local_clause param) (λ meta. omega arith) locals)
own_short params pattern = tt

conclusion_short : (params : List Param) (pattern : Form) (conclusion : Conclusion) → AllByRecursion IsShortClause (conclusion_clauses params pattern conclusion)
conclusion_short params pattern (Fact fact slot) = joined IsShortClause (units (slot_literals params pattern slot)) (own_clauses params pattern) (units_short (slot_literals params pattern slot)) (own_short params pattern)
conclusion_short params pattern (Transform template) = tt

hypotheses_short : (schemas : List Schema) (rule : Rule) → AllByRecursion IsShortClause (hypotheses schemas rule)
hypotheses_short schemas rule =
    let facts : List TreeLit = flat_map (fact_literals schemas rule.params before) rule.premises in
    let sides : List TreeLit = map (side_literal rule.params) rule.sides in
    let steps : List TreeLit = step_literals rule.params rule.pattern in
    joined IsShortClause ((units facts ++ units sides) ++ units steps) (conclusion_clauses rule.params rule.pattern rule.conclusion)
    (joined IsShortClause (units facts ++ units sides) (units steps) (joined IsShortClause (units facts) (units sides) (units_short facts) (units_short sides)) (units_short steps))
    (conclusion_short rule.params rule.pattern rule.conclusion)

pub hypotheses_fit : (schemas : List Schema) (rule : Rule) → IsRuleOf schemas rule → AreFewClauses (hypotheses schemas rule)
hypotheses_fit schemas rule is = record { few = hypotheses_few schemas rule is; short = hypotheses_short schemas rule }
