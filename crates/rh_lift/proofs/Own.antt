-- What new cells, calls and entries have of their own is true in the model of the step.
use Rattle.std.proofs.Common.{ℕ, ◌≡◌, ◌+◌, ◌<◌, ◌≤◌, Bool, true, false, not, ◌||◌, ◌==◌, List, [], ◌∷◌, map, length, pos, inl, inr, refl, ap, sym, ◌∙◌, subst, arith, pos_of_ne-zero, ⊎_elim}
use Rattle.std.specs.Bool.{beq}
use Rattle.std.specs.List.{filter, flat_map, list_all, list_any, range_with_len}
use Rattle.std.proofs.lemmas.Bool.{and_from, cases_Bool, cases_eq, false_from_ne_true, ne_eqb, not_from_false, or_left, or_right}
use Rattle.std.proofs.lemmas.List.{get_or_past}
use Rattle.std.proofs.lemmas.List.Folds.{list_all-append}
use Rattle.rh_il.specs.declared.value.Value.{Value}
use Rattle.rh_il.specs.declared.value.Value.TheVariants.{Num as ANumber, Ptr as APointer}
use Rattle.rh_il.specs.Value.{value_eq}
use Rattle.rh_il_step.specs.State.{IsHeld, cell}
use Rattle.rh_rule.specs.declared.schema.Kind.{Kind}
use Rattle.rh_rule.specs.declared.schema.Kind.TheVariants.{Var as AVar, Const as AConst}
use Rattle.rh_rule.specs.declared.schema.Param.{Param}
use Rattle.rh_rule.specs.Params.{kind_of}
use Rattle.rh_domain.specs.Binding.{Binding, FitsBinding, as_variable, bound}
use Rattle.rh_ground.proofs.Fitting.{variable_inside}
use Rattle.rh_ground.proofs.Members.{IsItem}
use Rattle.rh_term.specs.Model.{Model, is_number}
use Rattle.rh_term.specs.Store.{is_unheld, nothing, read, select}
use Rattle.rh_term.proofs.Stores.{unheld-true, value_eq-same, value_eq-true}
use Rattle.rh_goals.specs.Hypotheses.{call_clauses_of, entry_clauses, is_var, local_clause, new_clauses, var_metas}
use Rattle.rh_meaning.specs.Literal.{TreeClause, unheld_tree}
use Rattle.rh_goals.specs.Statement.{address}
use Rattle.rh_meaning.specs.Tree.{Leaf}
use Rattle.rh_meaning.specs.Denotation.{are_true_in, is_true_in}
use Rattle.rh_term.specs.declared.term.Term.TheVariants.{Start}
use Rattle.rh_lift.specs.Local.{LeavesVariables}
use Rattle.rh_lift.specs.Standing.{IsSafe}
use Rattle.rh_lift.proofs.Edges.{item_of_filter}
use Rattle.rh_lift.proofs.Models.{Around, model_of}

-- ---- lists of clauses

mapped_true : (good : TreeClause → Bool) (f : ℕ → TreeClause) (metas : List ℕ) → ((meta : ℕ) → IsItem meta metas → good (f meta) ≡ true) → list_all good (map f metas) ≡ true
mapped_true good f [] each = refl
mapped_true good f (meta ∷ metas) each = and_from _ _ (each meta (inl refl)) (mapped_true good f metas (λ m there. each m (inr there)))

flat_true : (good : TreeClause → Bool) (f : ℕ → List TreeClause) (metas : List ℕ) → ((meta : ℕ) → IsItem meta metas → list_all good (f meta) ≡ true) → list_all good (flat_map f metas) ≡ true
flat_true good f [] each = refl
flat_true good f (meta ∷ metas) each =
    list_all-append good (f meta) (flat_map f metas) ∙ and_from _ _ (each meta (inl refl)) (flat_true good f metas (λ m there. each m (inr there)))

var_kind : (kind : Kind) → is_var kind ≡ true → kind ≡ AVar
var_kind AVar is = refl
var_kind AConst is = absurd cc

-- a metavariable for a variable is one
meta_kind : (params : List Param) (meta : ℕ) → IsItem meta (var_metas params) → kind_of params meta ≡ AVar
meta_kind params meta there = var_kind (kind_of params meta) (item_of_filter (λ m. is_var (kind_of params m)) meta (range_with_len 0 (length params)) there).1

held_below : (size location : ℕ) (value : Value) → IsHeld size value → value ≡ APointer location → location < size
held_below size location value held is = subst (IsHeld size) is held

-- no cell points past the store
unheld_past : (cells : List Value) (size location : ℕ) → ((l : ℕ) → IsHeld size (cell cells l)) → size ≤ location → is_unheld cells (APointer location) ≡ true
unheld_past cells size location held past =
    unheld-true cells (APointer location) (λ l is. let below : location < size = held_below size location (cell cells l) (held l) is in absurd (omega (arith, below, past)))

module _ (width : ℕ) (params : List Param) (binding : Binding) (base : ℕ) (around : Around) (fits : FitsBinding width params binding) where
  abbrev model : Model
  model = model_of binding base around

  abbrev good : TreeClause → Bool
  good clause = list_any (is_true_in model) clause

  -- where a metavariable's variable stands
  abbrev at : ℕ → ℕ
  at meta = base + as_variable (bound binding meta)

  inside : (meta : ℕ) → IsItem meta (var_metas params) → as_variable (bound binding meta) < width
  inside meta there = variable_inside width params binding meta fits (meta_kind params meta there)

  pub new_own : around.fresh ≡ APointer (length around.before) → IsSafe width base around.before → are_true_in model (new_clauses (var_metas params)) ≡ true
  new_own fresh safe =
      let cells : List Value = around.before in
      let size : ℕ = length cells in
      let apart : (meta : ℕ) → IsItem meta (var_metas params) → (not (value_eq around.fresh (APointer (at meta))) || false) ≡ true =
      λ meta there.
      let below = inside meta there in
      let room = safe.inside in
      let differ : (size == at meta) ≡ false = ne_eqb size (at meta) (λ same. absurd (omega (arith, below, room, same))) in
      ap (λ f. not (value_eq f (APointer (at meta))) || false) fresh ∙ ap (λ b. not b || false) differ in
      and_from _ _ (ap (λ f. beq (is_number f) false || false) fresh)
      (and_from _ _ (ap (λ f. beq (is_unheld cells f) true || false) fresh ∙ ap (λ b. beq b true || false) (unheld_past cells size size safe.held (omega arith)))
      (and_from _ _ (ap (λ f. value_eq (select cells f) nothing || false) fresh ∙ ap (λ b. b || false) (value_eq-same (read cells size) nothing (get_or_past cells size nothing (omega arith))))
      (mapped_true good _ (var_metas params) apart)))

  pub call_own : (kept cells : List Value) → around.before ≡ kept → around.after ≡ cells → LeavesVariables width base kept cells around.answer
      → are_true_in model (flat_map call_clauses_of (var_metas params)) ≡ true
  call_own kept cells is_kept is_cells leaves = flat_true good call_clauses_of (var_metas params) each
    where
      each : (meta : ℕ) → IsItem meta (var_metas params) → list_all good (call_clauses_of meta) ≡ true
      each meta there =
          let pointer : Value = APointer (at meta) in
          let escaped : Bool = not (beq (is_unheld around.before pointer) true) in
          ⊎_elim
          (λ unheld.
          let left = leaves (as_variable (bound binding meta)) (inside meta there) (ap (λ s. is_unheld s pointer) (sym is_kept) ∙ unheld) in
          and_from _ _ (or_right escaped _ (or_left _ false (value_eq-same (read around.after (at meta)) (read around.before (at meta))
          (ap (λ s. read s (at meta)) is_cells ∙ left.0 ∙ sym (ap (λ s. read s (at meta)) is_kept)))))
          (and_from _ _ (or_right escaped _ (or_left _ false (ap (λ s. beq (is_unheld s pointer) true) is_cells ∙ ap (λ b. beq b true) left.1)))
          (and_from _ _ (or_right escaped _ (or_left _ false (not_from_false _ (false_from_ne_true _ (λ same. left.2 (value_eq-true around.answer pointer same)))))) refl)))
          (λ held.
          let out : escaped ≡ true = ap (λ b. not (beq b true)) held in
          and_from _ _ (or_left escaped _ out) (and_from _ _ (or_left escaped _ out) (and_from _ _ (or_left escaped _ out) refl)))
          (cases_Bool (is_unheld around.before pointer))

  pub entry_own : (cells : List Value) (param : ℕ) → around.after ≡ cells → as_variable (bound binding param) ≡ 0
      → ((variable : ℕ) → variable < width → is_unheld cells (APointer (base + variable)) ≡ true)
      → ((variable : ℕ) → 0 < variable → variable < width → cell cells (base + variable) ≡ ANumber (pos 0))
      → are_true_in model (entry_clauses (var_metas params) param) ≡ true
  entry_own cells param is_cells first unheld locals =
      let metas : List ℕ = var_metas params in
      let others : List ℕ = filter (λ meta. not (meta == param)) metas in
      list_all-append good (map (λ meta. unheld_tree (Leaf Start) (address meta) ∷ []) metas) (map (local_clause param) others)
      ∙ and_from _ _ (mapped_true good (λ meta. unheld_tree (Leaf Start) (address meta) ∷ []) metas alone) (mapped_true good (local_clause param) others local)
    where
      alone : (meta : ℕ) → IsItem meta (var_metas params) → (beq (is_unheld around.after (APointer (at meta))) true || false) ≡ true
      alone meta there =
          ap (λ s. beq (is_unheld s (APointer (at meta))) true || false) is_cells ∙ ap (λ b. beq b true || false) (unheld (as_variable (bound binding meta)) (inside meta there))

      local : (meta : ℕ) → IsItem meta (filter (λ m. not (m == param)) (var_metas params)) → good (local_clause param meta) ≡ true
      local meta there =
          let variable : ℕ = as_variable (bound binding meta) in
          let below : variable < width = inside meta (item_of_filter (λ m. not (m == param)) meta (var_metas params) there).0 in
          ⊎_elim
          (λ zero. or_left _ _ (value_eq-same (APointer (base + variable)) (APointer (at param)) (ap (λ n. APointer (base + n)) (zero ∙ sym first))))
          (λ more. or_right _ _ (or_left _ false (value_eq-same (read around.after (base + variable)) nothing
          (ap (λ s. read s (base + variable)) is_cells ∙ locals variable (pos_of_ne-zero more) below))))
          (cases_eq variable 0)
