-- The trees of a rule's hypotheses and goals are of the right sorts.
use Rattle.std.proofs.Common.{ℕ, zero, suc, ◌≡◌, true, List, [], ◌∷◌, ◌++◌, map, Option, Some, None, refl, lit<}
use Rattle.std.specs.Prelude.{ℤ, slice_get, slice_index_or, pos, IfSome}
use Rattle.std.specs.List.{flat_map, AllByRecursion}
use Rattle.rh_list.proofs.Appended.{joined}
use Rattle.rh_il.specs.declared.program.Slot.{Slot}
use Rattle.rh_il.specs.declared.program.Slot.TheVariants.{Out, Then, Else}
use Rattle.rh_il.specs.declared.value.Op.{Op}
use Rattle.rh_il.specs.declared.value.Op.TheVariants.{Add, Sub, Mul, Less, Equal}
use Rattle.rh_rule.specs.declared.rule.Conclusion.{Conclusion}
use Rattle.rh_rule.specs.declared.rule.Conclusion.TheVariants.{Fact, Transform}
use Rattle.rh_rule.specs.declared.rule.FactUse.{FactUse}
use Rattle.rh_rule.specs.declared.rule.Form.{Form}
use Rattle.rh_rule.specs.declared.rule.Form.TheVariants.{Entry, Goto, Skip, AnyAssign, Assign, Address, Load, Compute as AComputation, Write, New, Call, If, Return}
use Rattle.rh_rule.specs.declared.rule.Rule.{Rule}
use Rattle.rh_rule.specs.declared.rule.RuleBase.{RuleBase}
use Rattle.rh_rule.specs.declared.rule.RuleBase.TheVariants.{Meta, Num as ANumber, Wild}
use Rattle.rh_rule.specs.declared.rule.Side.{Side}
use Rattle.rh_rule.specs.declared.rule.Side.TheVariants.{Same as SameSide, Differ as DifferSide}
use Rattle.rh_rule.specs.declared.rule.SideTerm.{SideTerm}
use Rattle.rh_rule.specs.declared.rule.SideTerm.TheVariants.{Plain as PlainSide, Compute as ComputeSide}
use Rattle.rh_rule.specs.declared.schema.Kind.{Kind}
use Rattle.rh_rule.specs.declared.schema.Kind.TheVariants.{Var, Const}
use Rattle.rh_rule.specs.declared.schema.MeaningAtom.{MeaningAtom}
use Rattle.rh_rule.specs.declared.schema.MeaningAtom.TheVariants.{Same, Differ, IsNumber, IsPointer, Unaliased}
use Rattle.rh_rule.specs.declared.schema.MeaningBase.{MeaningBase}
use Rattle.rh_rule.specs.declared.schema.MeaningBase.TheVariants.{Param as AParam, Num as ALiteral}
use Rattle.rh_rule.specs.declared.schema.MeaningTerm.{MeaningTerm}
use Rattle.rh_rule.specs.declared.schema.MeaningTerm.TheVariants.{Plain, Address as AnAddress, Deref, Compute as AMeaning}
use Rattle.rh_rule.specs.declared.schema.Param.{Param}
use Rattle.rh_rule.specs.declared.schema.Schema.{Schema}
use Rattle.rh_rule.specs.Operands.{operands, term_operands}
use Rattle.rh_rule.specs.Params.{kind_of}
use Rattle.rh_rule.specs.Ranges.{AtomNumbersFit, ConclusionNumbersFit, FitsI64, MeaningNumberFits, NumberFits, NumbersFit, RuleNumbersFit, SchemaNumbersFit, SideNumbersFit, TermNumbersFit, UseNumbersFit}
use Rattle.rh_term.specs.declared.term.Term.TheVariants.{Num, Any, Fresh, Answer, After, Start, Yes}
use Rattle.rh_meaning.specs.Literal.{TreeLit, TreeClause, binding_tree, differs, equals, number_tree, operand, pointer_tree, unheld_tree, value_tree, clause_trees, literal_trees}
use Rattle.rh_meaning.specs.Meaning.{address_at, arg_at, atom_literal, fact_literals, meaning_operand, meaning_tree}
use Rattle.rh_meaning.specs.Sorts.{IsSorted, is_leaf, is_store_tree, is_value_tree}
use Rattle.rh_meaning.specs.Tree.{Tree, Leaf, Select, Update, Compute, Unheld}
use Rattle.rh_goals.specs.Goals.{goals, conclusion_goals, template_goals}
use Rattle.rh_goals.specs.Hypotheses.{call_clauses_of, conclusion_clauses, entry_clauses, hypotheses, local_clause, new_clauses, own_clauses, side_literal, side_operand, side_tree, slot_literals, units, var_metas}
use Rattle.rh_goals.specs.Statement.{address, before, operator_literals, step_literals, store_after, value, variable}

-- a tree of the right sorts that stands for a value
pub record IsValue (tree : Tree) : Type 0 where
  pub sorted : IsSorted tree
  is_value : is_value_tree tree ≡ true

-- a tree of the right sorts that stands for a store
record IsStore (tree : Tree) : Type 0 where
  sorted : IsSorted tree
  is_store : is_store_tree tree ≡ true

-- both trees of a literal are of the right sorts
record IsLit (lit : TreeLit) : Type 0 where
  left : IsSorted lit.left
  right : IsSorted lit.right

abbrev AreLits : List TreeLit → Type 0
AreLits lits = AllByRecursion IsLit lits

abbrev AreClauses : List TreeClause → Type 0
AreClauses clauses = AllByRecursion AreLits clauses

-- ---- lists of facts

pub all_mapped : {X Y : Type 0} (P : Y → Type 0) (f : X → Y) → ((x : X) → P (f x)) → (xs : List X) → AllByRecursion P (map f xs)
all_mapped P f each [] = tt
all_mapped P f each (x ∷ xs) = (each x, all_mapped P f each xs)

pub all_flat : {X Y : Type 0} (P : Y → Type 0) (f : X → List Y) → ((x : X) → AllByRecursion P (f x)) → (xs : List X) → AllByRecursion P (flat_map f xs)
all_flat P f each [] = tt
all_flat P f each (x ∷ xs) = joined P (f x) (flat_map f xs) (each x) (all_flat P f each xs)

mapped_of : {X Y : Type 0} (Q : X → Type 0) (P : Y → Type 0) (f : X → Y) → ((x : X) → Q x → P (f x)) → (xs : List X) → AllByRecursion Q xs → AllByRecursion P (map f xs)
mapped_of Q P f each [] all = tt
mapped_of Q P f each (x ∷ xs) all = (each x all.0, mapped_of Q P f each xs all.1)

flat_of : {X Y : Type 0} (Q : X → Type 0) (P : Y → Type 0) (f : X → List Y) → ((x : X) → Q x → AllByRecursion P (f x)) → (xs : List X) → AllByRecursion Q xs → AllByRecursion P (flat_map f xs)
flat_of Q P f each [] all = tt
flat_of Q P f each (x ∷ xs) all = joined P (f x) (flat_map f xs) (each x all.0) (flat_of Q P f each xs all.1)

-- what stands in a list, or the other where nothing does
read_or : {X : Type 0} (P : X → Type 0) (xs : List X) (i : ℕ) (other : X) → AllByRecursion P xs → P other → P (slice_index_or xs i other)
read_or P [] i other all rest = rest
read_or P (x ∷ xs) zero other all rest = all.0
read_or P (x ∷ xs) (suc i) other all rest = read_or P xs i other all.1 rest

-- ---- values and stores

addr : (meta : ℕ) → IsValue (address meta)
addr meta = record { sorted = (tt, tt); is_value = refl }

before_store : IsStore before
before_store = record { sorted = (tt, tt); is_store = refl }

selected : (store at : Tree) → IsStore store → IsValue at → IsValue (Select store at)
selected store at s a = record { sorted = (s.sorted, a.sorted, s.is_store, a.is_value); is_value = refl }

updated : (store at new : Tree) → is_leaf store ≡ true → IsStore store → IsValue at → IsValue new → IsStore (Update store at new)
updated store at new leaf s a v = record { sorted = (s.sorted, a.sorted, v.sorted, s.is_store, a.is_value, v.is_value, leaf); is_store = refl }

number_value : (number : ℤ) → FitsI64 number → IsValue (Leaf (Num number))
number_value number fits = record { sorted = (tt, record { sfits = fits }); is_value = refl }

computed : (op : Op) (left right : Tree) → IsValue left → IsValue right → IsValue (Compute op left right)
computed op left right l r = record { sorted = (l.sorted, r.sorted, l.is_value, r.is_value); is_value = refl }

value_by_kind : (store : Tree) (meta : ℕ) (kind : Kind) → IsStore store → IsValue (value_tree store meta kind)
value_by_kind store meta Var s = selected store (address meta) s (addr meta)
value_by_kind store meta Const s = record { sorted = (tt, tt); is_value = refl }

operand_value : (params : List Param) (store : Tree) (base : RuleBase) → NumberFits base → IsStore store → IsValue (operand params store base)
operand_value params store (Meta meta) fits s = value_by_kind store meta (kind_of params meta) s
operand_value params store (ANumber number) fits s = number_value number fits
operand_value params store Wild fits s = record { sorted = (tt, tt); is_value = refl }

binding_value : (meta : ℕ) (kind : Kind) → IsValue (binding_tree meta kind)
binding_value meta Var = record { sorted = (tt, tt); is_value = refl }
binding_value meta Const = record { sorted = (tt, tt); is_value = refl }

-- ---- literals

equal_values : (left right : Tree) → IsValue left → IsValue right → IsLit (equals left right)
equal_values left right l r = record { left = l.sorted; right = r.sorted }

different_values : (left right : Tree) → IsValue left → IsValue right → IsLit (differs left right)
different_values left right l r = record { left = l.sorted; right = r.sorted }

number_lit : (tree : Tree) → IsValue tree → IsLit (number_tree tree)
number_lit tree v = record { left = (v.sorted, v.is_value); right = (tt, tt) }

pointer_lit : (tree : Tree) → IsValue tree → IsLit (pointer_tree tree)
pointer_lit tree v = record { left = (v.sorted, v.is_value); right = (tt, tt) }

unheld_lit : (store tree : Tree) → IsStore store → IsValue tree → IsLit (unheld_tree store tree)
unheld_lit store tree s v = record { left = (s.sorted, v.sorted, s.is_store, v.is_value); right = (tt, tt) }

units_clauses : (lits : List TreeLit) → AreLits lits → AreClauses (units lits)
units_clauses [] h = tt
units_clauses (lit ∷ lits) h = ((h.0, tt), units_clauses lits h.1)

-- ---- meanings

base_value : (params : List Param) (args : List RuleBase) (store : Tree) (base : MeaningBase) → NumbersFit args → MeaningNumberFits base → IsStore store → IsValue (meaning_operand params args store base)
base_value params args store (AParam param) given fits s = operand_value params store (arg_at args param) (read_or NumberFits args param Wild given tt) s
base_value params args store (ALiteral number) given fits s = number_value number fits

meaning_value : (params : List Param) (args : List RuleBase) (store : Tree) (term : MeaningTerm) → NumbersFit args → TermNumbersFit term → IsStore store → IsValue (meaning_tree params args store term)
meaning_value params args store (Plain base) given fits s = base_value params args store base given fits s
meaning_value params args store (AnAddress param) given fits s = record { sorted = (tt, tt); is_value = refl }
meaning_value params args store (Deref param) given fits s = selected store _ s (selected store (address_at args param) s (record { sorted = (tt, tt); is_value = refl }))
meaning_value params args store (AMeaning op left right) given fits s = computed op _ _ (base_value params args store left given fits.0 s) (base_value params args store right given fits.1 s)

atom_lit : (params : List Param) (args : List RuleBase) (store : Tree) → NumbersFit args → IsStore store → (atom : MeaningAtom) → AtomNumbersFit atom → IsLit (atom_literal params args store atom)
atom_lit params args store given s (Same left right) fits = equal_values _ _ (meaning_value params args store left given fits.0 s) (meaning_value params args store right given fits.1 s)
atom_lit params args store given s (Differ left right) fits = different_values _ _ (meaning_value params args store left given fits.0 s) (meaning_value params args store right given fits.1 s)
atom_lit params args store given s (IsNumber term) fits = number_lit _ (meaning_value params args store term given fits s)
atom_lit params args store given s (IsPointer term) fits = pointer_lit _ (meaning_value params args store term given fits s)
atom_lit params args store given s (Unaliased param) fits = unheld_lit store (address_at args param) s (record { sorted = (tt, tt); is_value = refl })

found_fits : (schemas : List Schema) (number : ℕ) → AllByRecursion SchemaNumbersFit schemas → IfSome (slice_get schemas number) SchemaNumbersFit
found_fits [] number fits = tt
found_fits (schema ∷ schemas) zero fits = fits.0
found_fits (schema ∷ schemas) (suc number) fits = found_fits schemas number fits.1

schema_lits : (params : List Param) (args : List RuleBase) (store : Tree) → NumbersFit args → IsStore store → (found : Option Schema) → IfSome found SchemaNumbersFit
    → AreLits (elim found as (λ _. List TreeLit) [ None ↦ [] | Some schema ↦ map (atom_literal params args store) schema.meaning ])
schema_lits params args store given s None fits = tt
schema_lits params args store given s (Some schema) fits = mapped_of AtomNumbersFit IsLit (atom_literal params args store) (atom_lit params args store given s) schema.meaning fits

fact_lits : (schemas : List Schema) (params : List Param) (store : Tree) → AllByRecursion SchemaNumbersFit schemas → IsStore store → (fact : FactUse) → UseNumbersFit fact
    → AreLits (fact_literals schemas params store fact)
fact_lits schemas params store known s fact given = schema_lits params fact.args store given s (slice_get schemas fact.schema) (found_fits schemas fact.schema known)

-- ---- statements

before_value : (params : List Param) (base : RuleBase) → NumberFits base → IsValue (value params base)
before_value params base fits = operand_value params before base fits before_store

variable_value : (meta : ℕ) → IsValue (variable meta)
variable_value meta = selected before (address meta) before_store (addr meta)

operator_lits : (op : Op) (left right : Tree) → IsValue left → IsValue right → AreLits (operator_literals op left right)
operator_lits Equal left right l r = tt
operator_lits Add left right l r = (number_lit left l, (number_lit right r, tt))
operator_lits Sub left right l r = (number_lit left l, (number_lit right r, tt))
operator_lits Mul left right l r = (number_lit left l, (number_lit right r, tt))
operator_lits Less left right l r = (number_lit left l, (number_lit right r, tt))

step_lits : (params : List Param) (form : Form) → NumbersFit (operands form) → AreLits (step_literals params form)
step_lits params (Load to from) fits = (pointer_lit _ (variable_value from), tt)
step_lits params (AComputation to op left right) fits = operator_lits op _ _ (before_value params left fits.1.0) (before_value params right fits.1.1.0)
step_lits params (Write to from) fits = (pointer_lit _ (variable_value to), tt)
step_lits params (If cond) fits = (number_lit _ (before_value params cond fits.0), tt)
step_lits params (Entry param) fits = tt
step_lits params Goto fits = tt
step_lits params Skip fits = tt
step_lits params (AnyAssign to) fits = tt
step_lits params (Assign to from) fits = tt
step_lits params (Address to of) fits = tt
step_lits params (New to) fits = tt
step_lits params (Call to arg) fits = tt
step_lits params (Return result) fits = tt

after_store : (params : List Param) (form : Form) → NumbersFit (operands form) → IsStore (store_after params form)
after_store params (Assign to from) fits = updated before _ _ refl before_store (addr to) (before_value params from fits.1.0)
after_store params (AnyAssign to) fits = updated before _ (Leaf Any) refl before_store (addr to) (record { sorted = (tt, tt); is_value = refl })
after_store params (Address to of) fits = updated before _ _ refl before_store (addr to) (addr of)
after_store params (Load to from) fits = updated before _ _ refl before_store (addr to) (selected before _ before_store (variable_value from))
after_store params (AComputation to op left right) fits = updated before _ _ refl before_store (addr to) (computed op _ _ (before_value params left fits.1.0) (before_value params right fits.1.1.0))
after_store params (Write to from) fits = updated before _ _ refl before_store (variable_value to) (before_value params from fits.1.0)
after_store params (New to) fits = updated before _ (Leaf Fresh) refl before_store (addr to) (record { sorted = (tt, tt); is_value = refl })
after_store params (Call to arg) fits = updated (Leaf After) _ (Leaf Answer) refl (record { sorted = (tt, tt); is_store = refl }) (addr to) (record { sorted = (tt, tt); is_value = refl })
after_store params (Entry param) fits = record { sorted = (tt, tt); is_store = refl }
after_store params Goto fits = before_store
after_store params Skip fits = before_store
after_store params (If cond) fits = before_store
after_store params (Return result) fits = before_store

-- ---- hypotheses

side_value : (params : List Param) (base : RuleBase) → NumberFits base → IsValue (side_operand params base)
side_value params (Meta meta) fits = binding_value meta (kind_of params meta)
side_value params (ANumber number) fits = number_value number fits
side_value params Wild fits = record { sorted = (tt, tt); is_value = refl }

side_term_value : (params : List Param) (term : SideTerm) → NumbersFit (term_operands term) → IsValue (side_tree params term)
side_term_value params (PlainSide base) fits = side_value params base fits.0
side_term_value params (ComputeSide op left right) fits = computed op _ _ (side_value params left fits.0) (side_value params right fits.1.0)

side_lit : (params : List Param) (side : Side) → SideNumbersFit side → IsLit (side_literal params side)
side_lit params (SameSide left right) fits = equal_values _ _ (side_term_value params left fits.0) (side_term_value params right fits.1)
side_lit params (DifferSide left right) fits = different_values _ _ (side_term_value params left fits.0) (side_term_value params right fits.1)

pub zero_value : IsValue (Leaf (Num (pos 0)))
zero_value = number_value (pos 0) (lit< tt)

slot_lits : (params : List Param) (pattern : Form) (slot : Slot) → NumbersFit (operands pattern) → AreLits (slot_literals params pattern slot)
slot_lits params (If cond) Then fits = (different_values _ _ (before_value params cond fits.0) zero_value, tt)
slot_lits params (If cond) Else fits = (equal_values _ _ (before_value params cond fits.0) zero_value, tt)
slot_lits params (If cond) Out fits = tt
slot_lits params (Entry param) slot fits = tt
slot_lits params Goto slot fits = tt
slot_lits params Skip slot fits = tt
slot_lits params (AnyAssign to) slot fits = tt
slot_lits params (Assign to from) slot fits = tt
slot_lits params (Address to of) slot fits = tt
slot_lits params (Load to from) slot fits = tt
slot_lits params (AComputation to op left right) slot fits = tt
slot_lits params (Write to from) slot fits = tt
slot_lits params (New to) slot fits = tt
slot_lits params (Call to arg) slot fits = tt
slot_lits params (Return result) slot fits = tt

fresh_value : IsValue (Leaf Fresh)
fresh_value = record { sorted = (tt, tt); is_value = refl }

new_lits : (metas : List ℕ) → AreClauses (new_clauses metas)
new_lits metas = (
  (pointer_lit (Leaf Fresh) fresh_value, tt),
  (
    (unheld_lit before (Leaf Fresh) before_store fresh_value, tt),
    (
      (equal_values _ _ (selected before (Leaf Fresh) before_store fresh_value) zero_value, tt),
      all_mapped AreLits (λ meta. differs (Leaf Fresh) (address meta) ∷ []) (λ meta. (different_values _ _ fresh_value (addr meta), tt)) metas,
    ),
  ),
)

after_leaf : IsStore (Leaf After)
after_leaf = record { sorted = (tt, tt); is_store = refl }

escaped_lit : (meta : ℕ) → IsLit (differs (Unheld before (address meta)) (Leaf Yes))
escaped_lit meta = record { left = ((tt, tt), (tt, tt), refl, refl); right = (tt, tt) }

call_lits : (meta : ℕ) → AreClauses (call_clauses_of meta)
call_lits meta = (
  (escaped_lit meta, (equal_values _ _ (selected (Leaf After) (address meta) after_leaf (addr meta)) (variable_value meta), tt)),
  (
    (escaped_lit meta, (unheld_lit (Leaf After) (address meta) after_leaf (addr meta), tt)),
    ((escaped_lit meta, (different_values (Leaf Answer) (address meta) (record { sorted = (tt, tt); is_value = refl }) (addr meta), tt)), tt),
  ),
)

start_store : IsStore (Leaf Start)
start_store = record { sorted = (tt, tt); is_store = refl }

local_lits : (param meta : ℕ) → AreLits (local_clause param meta)
local_lits param meta =
    (equal_values _ _ (addr meta) (addr param), (equal_values _ _ (selected (Leaf Start) (address meta) start_store (addr meta)) zero_value, tt))

entry_lits : (metas : List ℕ) (param : ℕ) → AreClauses (entry_clauses metas param)
entry_lits metas param =
    joined AreLits _ _
    (all_mapped AreLits (λ meta. unheld_tree (Leaf Start) (address meta) ∷ []) (λ meta. (unheld_lit (Leaf Start) (address meta) start_store (addr meta), tt)) metas)
    (all_mapped AreLits (local_clause param) (local_lits param) _)

own_lits : (params : List Param) (pattern : Form) → AreClauses (own_clauses params pattern)
own_lits params (New to) = new_lits (var_metas params)
own_lits params (Call to arg) = all_flat AreLits call_clauses_of call_lits (var_metas params)
own_lits params (Entry param) = entry_lits (var_metas params) param
own_lits params Goto = tt
own_lits params Skip = tt
own_lits params (AnyAssign to) = tt
own_lits params (Assign to from) = tt
own_lits params (Address to of) = tt
own_lits params (Load to from) = tt
own_lits params (AComputation to op left right) = tt
own_lits params (Write to from) = tt
own_lits params (If cond) = tt
own_lits params (Return result) = tt

conclusion_lits : (params : List Param) (pattern : Form) (conclusion : Conclusion) → NumbersFit (operands pattern) → AreClauses (conclusion_clauses params pattern conclusion)
conclusion_lits params pattern (Fact fact slot) fits =
    joined AreLits (units (slot_literals params pattern slot)) (own_clauses params pattern) (units_clauses _ (slot_lits params pattern slot fits)) (own_lits params pattern)
conclusion_lits params pattern (Transform template) fits = tt

hypotheses_lits : (schemas : List Schema) (rule : Rule) → AllByRecursion SchemaNumbersFit schemas → RuleNumbersFit rule → AreClauses (hypotheses schemas rule)
hypotheses_lits schemas rule known fits =
    let premises : AreClauses (units (flat_map (fact_literals schemas rule.params before) rule.premises)) =
    units_clauses (flat_map (fact_literals schemas rule.params before) rule.premises)
    (flat_of UseNumbersFit IsLit (fact_literals schemas rule.params before) (fact_lits schemas rule.params before known before_store) rule.premises fits.premises) in
    let sides : AreClauses (units (map (side_literal rule.params) rule.sides)) =
    units_clauses (map (side_literal rule.params) rule.sides) (mapped_of SideNumbersFit IsLit (side_literal rule.params) (side_lit rule.params) rule.sides fits.sides) in
    let step : AreClauses (units (step_literals rule.params rule.pattern)) = units_clauses (step_literals rule.params rule.pattern) (step_lits rule.params rule.pattern fits.pattern) in
    joined AreLits ((units (flat_map (fact_literals schemas rule.params before) rule.premises) ++ units (map (side_literal rule.params) rule.sides)) ++ units (step_literals rule.params rule.pattern))
    (conclusion_clauses rule.params rule.pattern rule.conclusion)
    (joined AreLits (units (flat_map (fact_literals schemas rule.params before) rule.premises) ++ units (map (side_literal rule.params) rule.sides)) (units (step_literals rule.params rule.pattern))
    (joined AreLits (units (flat_map (fact_literals schemas rule.params before) rule.premises)) (units (map (side_literal rule.params) rule.sides)) premises sides) step)
    (conclusion_lits rule.params rule.pattern rule.conclusion fits.pattern)

-- ---- goals

same_store_lit : (left right : Tree) → IsStore left → IsStore right → IsLit (equals left right)
same_store_lit left right l r = record { left = l.sorted; right = r.sorted }

plain_lits : (params : List Param) (pattern template : Form) → NumbersFit (operands pattern) → NumbersFit (operands template)
    → AreLits (step_literals params template ++ equals (store_after params pattern) (store_after params template) ∷ [])
plain_lits params pattern template old new =
    joined IsLit (step_literals params template) (equals (store_after params pattern) (store_after params template) ∷ []) (step_lits params template new)
    (same_store_lit _ _ (after_store params pattern old) (after_store params template new), tt)

same_value_lit : (params : List Param) (left right : RuleBase) → NumberFits left → NumberFits right → IsLit (equals (value params left) (value params right))
same_value_lit params left right l r = equal_values _ _ (before_value params left l) (before_value params right r)

template_lits : (params : List Param) (pattern template : Form) → NumbersFit (operands pattern) → NumbersFit (operands template) → AreLits (template_goals params pattern template)
template_lits params (Call to arg) (Call to' arg') old new = (equal_values _ _ (addr to) (addr to'), (same_value_lit params arg arg' old.1.0 new.1.0, tt))
template_lits params (If cond) (If cond') old new =
    joined IsLit (step_literals params (If cond')) (equals (value params cond) (value params cond') ∷ []) (step_lits params (If cond') new) (same_value_lit params cond cond' old.0 new.0, tt)
template_lits params (Return result) (Return result') old new = (same_value_lit params result result' old.0 new.0, tt)
template_lits params pattern template old new = plain_lits params pattern template old new

goals_lits : (schemas : List Schema) (params : List Param) (pattern : Form) (conclusion : Conclusion) → AllByRecursion SchemaNumbersFit schemas → NumbersFit (operands pattern) → ConclusionNumbersFit conclusion
    → AreLits (conclusion_goals schemas params pattern conclusion)
goals_lits schemas params pattern (Fact fact slot) known old new = fact_lits schemas params (store_after params pattern) known (after_store params pattern old) fact new
goals_lits schemas params pattern (Transform template) known old new = template_lits params pattern template old new

-- ---- all trees

lit_trees : (lits : List TreeLit) → AreLits lits → AllByRecursion IsSorted (flat_map literal_trees lits)
lit_trees [] h = tt
lit_trees (lit ∷ lits) h = (h.0.left, (h.0.right, lit_trees lits h.1))

clauses_trees : (clauses : List TreeClause) → AreClauses clauses → AllByRecursion IsSorted (flat_map clause_trees clauses)
clauses_trees [] h = tt
clauses_trees (clause ∷ clauses) h = joined IsSorted (clause_trees clause) (flat_map clause_trees clauses) (lit_trees clause h.0) (clauses_trees clauses h.1)

pub one_value : IsValue (Leaf (Num (pos 1)))
one_value = number_value (pos 1) (lit< tt)

-- the trees of the hypotheses
pub hypotheses_sorted : (schemas : List Schema) (rule : Rule) → AllByRecursion SchemaNumbersFit schemas → RuleNumbersFit rule → AllByRecursion IsSorted (flat_map clause_trees (hypotheses schemas rule))
hypotheses_sorted schemas rule known fits = clauses_trees (hypotheses schemas rule) (hypotheses_lits schemas rule known fits)

from_lits : (lits : List TreeLit) → AreLits lits → AllByRecursion (λ lit. AllByRecursion IsSorted (literal_trees lit)) lits
from_lits [] h = tt
from_lits (lit ∷ lits) h = ((h.0.left, (h.0.right, tt)), from_lits lits h.1)

-- the trees of the goals
pub goals_sorted : (schemas : List Schema) (rule : Rule) → AllByRecursion SchemaNumbersFit schemas → RuleNumbersFit rule
    → AllByRecursion (λ goal. AllByRecursion IsSorted (literal_trees goal)) (goals schemas rule)
goals_sorted schemas rule known fits = from_lits (goals schemas rule) (goals_lits schemas rule.params rule.pattern rule.conclusion known fits.pattern fits.conclusion)
