-- The trees of a rule's hypotheses and goals are small.
use Rattle.std.proofs.Common.{ℕ, ◌≤◌, ◌+◌, ◌*◌, not, ◌==◌, List, [], ◌∷◌, ◌++◌, map, filter, length, Option, Some, None, arith}
use Rattle.std.specs.Prelude.{slice_get}
use Rattle.std.specs.List.{AllByRecursion, flat_map}
use Rattle.std.proofs.lemmas.List.Sums.{sum_by-append, sum_by-cons}
use Rattle.rh_list.proofs.Appended.{joined}
use Rattle.rh_il.specs.declared.program.Slot.{Slot}
use Rattle.rh_il.specs.declared.program.Slot.TheVariants.{Then, Else}
use Rattle.rh_il.specs.declared.value.Op.{Op}
use Rattle.rh_il.specs.declared.value.Op.TheVariants.{Equal}
use Rattle.rh_rule.specs.declared.rule.Conclusion.{Conclusion}
use Rattle.rh_rule.specs.declared.rule.Conclusion.TheVariants.{Fact, Transform}
use Rattle.rh_rule.specs.declared.rule.FactUse.{FactUse}
use Rattle.rh_rule.specs.declared.rule.Form.{Form}
use Rattle.rh_rule.specs.declared.rule.Form.TheVariants.{Entry, Assign, Load, Compute as AComputation, Write, New, Call, If, Return}
use Rattle.rh_rule.specs.declared.rule.Rule.{Rule}
use Rattle.rh_rule.specs.declared.rule.RuleBase.{RuleBase}
use Rattle.rh_rule.specs.declared.rule.RuleBase.TheVariants.{Meta, Num as ANumber, Wild}
use Rattle.rh_rule.specs.declared.rule.Side.{Side}
use Rattle.rh_rule.specs.declared.rule.Side.TheVariants.{Same as SameSide, Differ as DifferSide}
use Rattle.rh_rule.specs.declared.rule.SideTerm.{SideTerm}
use Rattle.rh_rule.specs.declared.rule.SideTerm.TheVariants.{Plain as PlainSide, Compute as ComputeSide}
use Rattle.rh_rule.specs.declared.schema.Kind.{Kind}
use Rattle.rh_rule.specs.declared.schema.Kind.TheVariants.{Var, Const}
use Rattle.rh_rule.specs.declared.schema.MeaningAtom.{MeaningAtom}
use Rattle.rh_rule.specs.declared.schema.MeaningAtom.TheVariants.{Same, Differ, IsNumber, IsPointer, Unaliased}
use Rattle.rh_rule.specs.declared.schema.MeaningBase.{MeaningBase}
use Rattle.rh_rule.specs.declared.schema.MeaningBase.TheVariants.{Param as AParam, Num as ALiteral}
use Rattle.rh_rule.specs.declared.schema.MeaningTerm.{MeaningTerm}
use Rattle.rh_rule.specs.declared.schema.MeaningTerm.TheVariants.{Plain, Address as AnAddress, Deref, Compute as AMeaning}
use Rattle.rh_rule.specs.declared.schema.Param.{Param}
use Rattle.rh_rule.specs.declared.schema.Schema.{Schema}
use Rattle.rh_rule.specs.Params.{kind_of}
use Rattle.rh_term.specs.declared.term.Term.TheVariants.{Fresh, Start}
use Rattle.rh_meaning.specs.Literal.{TreeLit, TreeClause, binding_tree, clause_trees, differs, equals, literal_trees, operand, unheld_tree, value_tree}
use Rattle.rh_meaning.specs.Meaning.{arg_at, atom_literal, fact_literals, meaning_operand, meaning_tree}
use Rattle.rh_meaning.specs.Sorts.{tree_size}
use Rattle.rh_meaning.specs.Tree.{Tree, Leaf}
use Rattle.rh_goals.specs.Few.{trees_size}
use Rattle.rh_goals.specs.Goals.{conclusion_goals, goals, template_goals}
use Rattle.rh_goals.specs.Hypotheses.{call_clauses_of, conclusion_clauses, hypotheses, local_clause, own_clauses, side_literal, side_operand, side_tree, slot_literals, units, var_metas}
use Rattle.rh_goals.specs.Statement.{address, before, operator_literals, step_literals, store_after, value}
use Rattle.rh_goals.proofs.RuleTrees.{all_flat, all_mapped}

-- both trees of a literal have at most so many terms
pub record IsSmallLit (lit : TreeLit) : Type 0 where
  pub left : tree_size lit.left ≤ 32
  pub right : tree_size lit.right ≤ 32

abbrev pub AreSmallLits : List TreeLit → Type 0
AreSmallLits lits = AllByRecursion IsSmallLit lits

abbrev pub AreSmallTrees : List TreeClause → Type 0
AreSmallTrees clauses = AllByRecursion AreSmallLits clauses

-- ---- operands

value_size : (store : Tree) (meta : ℕ) (kind : Kind) → tree_size (value_tree store meta kind) ≤ tree_size store + 2
value_size store meta Var = omega arith
value_size store meta Const = omega arith

operand_size : (params : List Param) (store : Tree) (base : RuleBase) → tree_size (operand params store base) ≤ tree_size store + 2
operand_size params store (Meta meta) = value_size store meta (kind_of params meta)
operand_size params store (ANumber number) = omega arith
operand_size params store Wild = omega arith

before_size : (params : List Param) (base : RuleBase) → tree_size (value params base) ≤ 3
before_size params base = operand_size params before base

binding_size : (meta : ℕ) (kind : Kind) → tree_size (binding_tree meta kind) ≤ 1
binding_size meta Var = omega arith
binding_size meta Const = omega arith

side_size : (params : List Param) (base : RuleBase) → tree_size (side_operand params base) ≤ 1
side_size params (Meta meta) = binding_size meta (kind_of params meta)
side_size params (ANumber number) = omega arith
side_size params Wild = omega arith

side_tree_size : (params : List Param) (term : SideTerm) → tree_size (side_tree params term) ≤ 3
side_tree_size params (PlainSide base) = omega (arith, side_size params base)
side_tree_size params (ComputeSide op left right) = omega (arith, side_size params left, side_size params right)

-- ---- meanings, over a store of at most so many terms

meant_size : (params : List Param) (args : List RuleBase) (store : Tree) (base : MeaningBase) → tree_size (meaning_operand params args store base) ≤ tree_size store + 2
meant_size params args store (AParam param) = operand_size params store (arg_at args param)
meant_size params args store (ALiteral number) = omega arith

meaning_size : (params : List Param) (args : List RuleBase) (store : Tree) (term : MeaningTerm) → tree_size store ≤ 12 → tree_size (meaning_tree params args store term) ≤ 30
meaning_size params args store (Plain base) few = omega (arith, meant_size params args store base, few)
meaning_size params args store (AnAddress param) few = omega arith
meaning_size params args store (Deref param) few = omega (arith, few)
meaning_size params args store (AMeaning op left right) few = omega (arith, meant_size params args store left, meant_size params args store right, few)

atom_small : (params : List Param) (args : List RuleBase) (store : Tree) → tree_size store ≤ 12 → (atom : MeaningAtom) → IsSmallLit (atom_literal params args store atom)
atom_small params args store few (Same left right) =
    record { left = omega (arith, meaning_size params args store left few); right = omega (arith, meaning_size params args store right few) }
atom_small params args store few (Differ left right) =
    record { left = omega (arith, meaning_size params args store left few); right = omega (arith, meaning_size params args store right few) }
atom_small params args store few (IsNumber term) = record { left = omega (arith, meaning_size params args store term few); right = omega arith }
atom_small params args store few (IsPointer term) = record { left = omega (arith, meaning_size params args store term few); right = omega arith }
atom_small params args store few (Unaliased param) = record { left = omega (arith, few); right = omega arith }

schema_small : (params : List Param) (args : List RuleBase) (store : Tree) → tree_size store ≤ 12 → (found : Option Schema)
    → AreSmallLits (elim found as (λ _. List TreeLit) [ None ↦ [] | Some schema ↦ map (atom_literal params args store) schema.meaning ])
schema_small params args store few None = tt
schema_small params args store few (Some schema) = all_mapped IsSmallLit (atom_literal params args store) (atom_small params args store few) schema.meaning

fact_small : (schemas : List Schema) (params : List Param) (store : Tree) → tree_size store ≤ 12 → (fact : FactUse) → AreSmallLits (fact_literals schemas params store fact)
fact_small schemas params store few fact = schema_small params fact.args store few (slice_get schemas fact.schema)

-- ---- statements

operator_small : (op : Op) (left right : Tree) → tree_size left ≤ 3 → tree_size right ≤ 3 → AreSmallLits (operator_literals op left right)
operator_small Equal left right few as_few = tt
operator_small op left right few as_few =
    (record { left = omega (arith, few); right = omega arith }, (record { left = omega (arith, as_few); right = omega arith }, tt))

step_small : (params : List Param) (form : Form) → AreSmallLits (step_literals params form)
step_small params (Load to from) = (record { left = omega arith; right = omega arith }, tt)
step_small params (AComputation to op left right) = operator_small op (value params left) (value params right) (before_size params left) (before_size params right)
step_small params (Write to from) = (record { left = omega arith; right = omega arith }, tt)
step_small params (If cond) = (record { left = omega (arith, before_size params cond); right = omega arith }, tt)
step_small params form = tt

after_size : (params : List Param) (form : Form) → tree_size (store_after params form) ≤ 12
after_size params (Assign to from) = omega (arith, before_size params from)
after_size params (AComputation to op left right) = omega (arith, before_size params left, before_size params right)
after_size params (Write to from) = omega (arith, before_size params from)
after_size params form = omega arith

-- ---- hypotheses

side_small : (params : List Param) (side : Side) → IsSmallLit (side_literal params side)
side_small params (SameSide left right) = record { left = omega (arith, side_tree_size params left); right = omega (arith, side_tree_size params right) }
side_small params (DifferSide left right) = record { left = omega (arith, side_tree_size params left); right = omega (arith, side_tree_size params right) }

slot_small : (params : List Param) (pattern : Form) (slot : Slot) → AreSmallLits (slot_literals params pattern slot)
slot_small params (If cond) Then = (record { left = omega (arith, before_size params cond); right = omega arith }, tt)
slot_small params (If cond) Else = (record { left = omega (arith, before_size params cond); right = omega arith }, tt)
slot_small params pattern slot = tt

-- a literal whose trees have few terms
few_terms : (lit : TreeLit) → tree_size lit.left ≤ 4 → tree_size lit.right ≤ 4 → IsSmallLit lit
few_terms lit left right = record { left = omega (arith, left); right = omega (arith, right) }

own_small : (params : List Param) (pattern : Form) → AreSmallTrees (own_clauses params pattern)
own_small params (New to) = (
  (few_terms _ (omega arith) (omega arith), tt),
  (
    (few_terms _ (omega arith) (omega arith), tt),
    (
      (few_terms _ (omega arith) (omega arith), tt),
      all_mapped AreSmallLits (λ meta. differs (Leaf Fresh) (address meta) ∷ []) (λ meta. (few_terms _ (omega arith) (omega arith), tt)) (var_metas params),
    ),
  ),
)
own_small params (Call to arg) = all_flat AreSmallLits call_clauses_of call_small (var_metas params)
  where
    call_small : (meta : ℕ) → AreSmallTrees (call_clauses_of meta)
    call_small meta = (
      (few_terms _ (omega arith) (omega arith), (few_terms _ (omega arith) (omega arith), tt)),
      (
        (few_terms _ (omega arith) (omega arith), (few_terms _ (omega arith) (omega arith), tt)),
        ((few_terms _ (omega arith) (omega arith), (few_terms _ (omega arith) (omega arith), tt)), tt),
      ),
    )
own_small params (Entry param) =
    let locals : List ℕ = filter (λ meta. not (meta == param)) (var_metas params) in
    joined AreSmallLits (map (λ meta. unheld_tree (Leaf Start) (address meta) ∷ []) (var_metas params)) (map (local_clause param) locals)
    (all_mapped AreSmallLits (λ meta. unheld_tree (Leaf Start) (address meta) ∷ []) (λ meta. (few_terms _ (omega arith) (omega arith), tt)) (var_metas params))
    (all_mapped AreSmallLits (local_clause param) (λ meta. (few_terms _ (omega arith) (omega arith), (few_terms _ (omega arith) (omega arith), tt))) locals)
own_small params pattern = tt

units_small : (lits : List TreeLit) → AreSmallLits lits → AreSmallTrees (units lits)
units_small [] small = tt
units_small (lit ∷ lits) small = ((small.0, tt), units_small lits small.1)

conclusion_small : (params : List Param) (pattern : Form) (conclusion : Conclusion) → AreSmallTrees (conclusion_clauses params pattern conclusion)
conclusion_small params pattern (Fact fact slot) =
    joined AreSmallLits (units (slot_literals params pattern slot)) (own_clauses params pattern) (units_small (slot_literals params pattern slot) (slot_small params pattern slot)) (own_small params pattern)
conclusion_small params pattern (Transform template) = tt

pub hypotheses_small : (schemas : List Schema) (rule : Rule) → AreSmallTrees (hypotheses schemas rule)
hypotheses_small schemas rule =
    let facts : List TreeLit = flat_map (fact_literals schemas rule.params before) rule.premises in
    let sides : List TreeLit = map (side_literal rule.params) rule.sides in
    let steps : List TreeLit = step_literals rule.params rule.pattern in
    joined AreSmallLits ((units facts ++ units sides) ++ units steps) (conclusion_clauses rule.params rule.pattern rule.conclusion)
    (joined AreSmallLits (units facts ++ units sides) (units steps)
    (joined AreSmallLits (units facts) (units sides)
    (units_small facts (all_flat IsSmallLit (fact_literals schemas rule.params before) (fact_small schemas rule.params before (omega arith)) rule.premises))
    (units_small sides (all_mapped IsSmallLit (side_literal rule.params) (side_small rule.params) rule.sides)))
    (units_small steps (step_small rule.params rule.pattern)))
    (conclusion_small rule.params rule.pattern rule.conclusion)

-- ---- goals

same_value : (params : List Param) (left right : RuleBase) → IsSmallLit (equals (value params left) (value params right))
same_value params left right = few_terms _ (omega (arith, before_size params left)) (omega (arith, before_size params right))

template_small : (params : List Param) (pattern template : Form) → AreSmallLits (template_goals params pattern template)
template_small params (Call to arg) (Call to' arg') = (few_terms _ (omega arith) (omega arith), (same_value params arg arg', tt))
template_small params (If cond) (If cond') =
    joined IsSmallLit (step_literals params (If cond')) (equals (value params cond) (value params cond') ∷ []) (step_small params (If cond')) (same_value params cond cond', tt)
template_small params (Return result) (Return result') = (same_value params result result', tt)
template_small params pattern template =
    joined IsSmallLit (step_literals params template) (equals (store_after params pattern) (store_after params template) ∷ []) (step_small params template)
    (record { left = omega (arith, after_size params pattern); right = omega (arith, after_size params template) }, tt)

conclusion_goals_small : (schemas : List Schema) (params : List Param) (pattern : Form) (conclusion : Conclusion) → AreSmallLits (conclusion_goals schemas params pattern conclusion)
conclusion_goals_small schemas params pattern (Fact fact slot) = fact_small schemas params (store_after params pattern) (after_size params pattern) fact
conclusion_goals_small schemas params pattern (Transform template) = template_small params pattern template

-- ---- all trees together

lits_size : (lits : List TreeLit) → AreSmallLits lits → trees_size (flat_map literal_trees lits) ≤ 64 * length lits
lits_size [] small = omega arith
lits_size (lit ∷ lits) small =
    let rest : List Tree = flat_map literal_trees lits in
    omega (arith, sum_by-cons tree_size lit.left (lit.right ∷ rest), sum_by-cons tree_size lit.right rest, small.0.left, small.0.right, lits_size lits small.1)

pub clauses_size : (clauses : List TreeClause) → AreSmallTrees clauses → AllByRecursion (λ (clause : TreeClause). length clause ≤ 3) clauses → trees_size (flat_map clause_trees clauses) ≤ 192 * length clauses
clauses_size [] small short = omega arith
clauses_size (clause ∷ clauses) small short =
    omega (arith, sum_by-append tree_size (clause_trees clause) (flat_map clause_trees clauses), lits_size clause small.0, short.0, clauses_size clauses small.1 short.1)

pub goals_small : (schemas : List Schema) (rule : Rule) → AreSmallLits (goals schemas rule)
goals_small schemas rule = conclusion_goals_small schemas rule.params rule.pattern rule.conclusion
