-- The rows of a program are those of its instances.
use Rattle.std.proofs.Common.{ℕ, zero, suc, ◌≡◌, ◌+◌, ◌<◌, true, false, List, [], ◌∷◌, map, length, Option, Some, None, inl, inr, refl, ap, sym, ◌∙◌, subst, arith}
use Rattle.std.specs.List.{Contains, enumerate_from, range_with_len}
use Rattle.std.specs.Option.{option_map_or}
use Rattle.std.specs.Prelude.{◌↔◌, slice_get}
use Rattle.std.proofs.lemmas.Bool.{and_parts}
use Rattle.std.proofs.lemmas.Option.{same_Some, slice_get_within}
use Rattle.rh_il.specs.declared.program.Node.{Node}
use Rattle.rh_il.specs.declared.program.Node.TheVariants.{Entry, At}
use Rattle.rh_il.specs.declared.program.Proc.{Proc}
use Rattle.rh_il.specs.declared.program.Slot.{Slot}
use Rattle.rh_il.specs.declared.program.Stmt.{Stmt}
use Rattle.rh_rule.specs.declared.rule.Conclusion.{Conclusion}
use Rattle.rh_rule.specs.declared.rule.Conclusion.TheVariants.{Fact, Transform}
use Rattle.rh_rule.specs.declared.rule.FactUse.{FactUse}
use Rattle.rh_rule.specs.declared.rule.Rule.{Rule}
use Rattle.rh_rule.specs.declared.rule.Ruling.{Ruling}
use Rattle.rh_rule.specs.declared.rule.Ruling.TheVariants.{Admitted, Refused}
use Rattle.rh_rule.specs.declared.schema.Schema.{Schema}
use Rattle.rh_rule.specs.RuleFiles.{Rules}
use Rattle.rh_domain.specs.Binding.{Binding, bindings}
use Rattle.rh_domain.proofs.FactNumbers.{numbered_at, numbered_of}
use Rattle.rh_ground.specs.Instance.{fact_under, is_instance, matches_at}
use Rattle.rh_ground.specs.Match.{matches}
use Rattle.rh_ground.specs.Rows.{premises_at}
use Rattle.rh_ground.proofs.Members.{IsItem, item_of_append, item_of_flat_map}
use Rattle.rh_system.specs.declared.system.Row.{Row}
use Rattle.rh_rows.specs.BitRows.{IsRowOf, bit_of, nodes_of, row_under, rows_at, rows_by, rows_in, rows_of, rows_under}
use Rattle.rh_rows.proofs.Items.{contains_of_item, in_back, in_flat_map, in_front, in_if, in_map, in_range, item_at, item_of_contains, item_of_if, place_of}

-- the statement that an instance is about is one of the procedure's
node_stands : (proc : Proc) (rule : Rule) (binding : Binding) (node : Node) → is_instance proc rule binding node ≡ true → IsItem node (nodes_of proc)
node_stands proc rule binding Entry about = inl refl
node_stands proc rule binding (At number) about =
    inr (in_map At number (range_with_len 0 (length proc.body)) (subst (λ k. IsItem k (range_with_len 0 (length proc.body))) (let same : 0 + number ≡ number = omega arith in same) (in_range 0 number (length proc.body) below)))
  where
    by : (o : Option Stmt) → slice_get proc.body number ≡ o → option_map_or (matches binding rule.pattern) o false ≡ true → number < length proc.body
    by None read is = absurd cc
    by (Some stmt) read is = slice_get_within proc.body number stmt read

    below : number < length proc.body
    below = by (slice_get proc.body number) refl (and_parts (matches_at proc binding rule.pattern (At number)) _ about).0

module _ (schemas : List Schema) (procs : List Proc) (place : ℕ) (proc : Proc) (node : Node) where
  -- where a row is from
  pub record IsRowBy (rules : List Rule) (rulings : List Ruling) (row : Row) : Type 0 where
    pub number : ℕ
    pub rule : Rule
    pub fact : FactUse
    pub slot : Slot
    pub binding : Binding
    pub rule_at : slice_get rules number ≡ Some rule
    pub admitted : slice_get rulings number ≡ Some Admitted
    pub concludes : rule.conclusion ≡ Fact fact slot
    pub bound_by : IsItem binding (bindings proc rule.params)
    pub about : is_instance proc rule binding node ≡ true
    pub row_is : row ≡ row_under schemas procs place proc node rule fact slot binding

  later : (rule : Rule) (rules : List Rule) (ruling : Ruling) (rulings : List Ruling) (row : Row) → IsRowBy rules rulings row → IsRowBy (rule ∷ rules) (ruling ∷ rulings) row
  later rule rules ruling rulings row from = record {
    number = suc from.number;
    rule = from.rule;
    fact = from.fact;
    slot = from.slot;
    binding = from.binding;
    rule_at = from.rule_at;
    admitted = from.admitted;
    concludes = from.concludes;
    bound_by = from.bound_by;
    about = from.about;
    row_is = from.row_is;
  }

  from_rule : (rule : Rule) (rules : List Rule) (ruling : Ruling) (rulings : List Ruling) (conclusion : Conclusion) (row : Row)
      → rule.conclusion ≡ conclusion → IsItem row (rows_by schemas procs place proc node rule ruling conclusion) → IsRowBy (rule ∷ rules) (ruling ∷ rulings) row
  from_rule rule rules Admitted rulings (Fact fact slot) row is there =
      let found = item_of_flat_map (rows_under schemas procs place proc node rule fact slot) row (bindings proc rule.params) there in
      let inner = item_of_if (is_instance proc rule found.0 node) row (row_under schemas procs place proc node rule fact slot found.0) found.2 in
      record {
        number = 0;
        rule = rule;
        fact = fact;
        slot = slot;
        binding = found.0;
        rule_at = refl;
        admitted = refl;
        concludes = is;
        bound_by = found.1;
        about = inner.0;
        row_is = inner.1;
      }
  from_rule rule rules Admitted rulings (Transform template) row is there = absurd there
  from_rule rule rules (Refused obligation) rulings conclusion row is there = absurd there

  row_from : (rules : List Rule) (rulings : List Ruling) (row : Row) → IsItem row (rows_at schemas procs place proc node rules rulings) → IsRowBy rules rulings row
  row_from [] rulings row there = absurd there
  row_from (rule ∷ rules) [] row there = absurd there
  row_from (rule ∷ rules) (ruling ∷ rulings) row there =
      elim (item_of_append row (rows_by schemas procs place proc node rule ruling rule.conclusion) (rows_at schemas procs place proc node rules rulings) there)
      as (λ _. IsRowBy (rule ∷ rules) (ruling ∷ rulings) row) [
        | inl here ↦ from_rule rule rules ruling rulings rule.conclusion row refl here
        | inr behind ↦ later rule rules ruling rulings row (row_from rules rulings row behind)
      ]

  -- a rule's row stands among its own, and these among those of all rules
  by_rule : (rule : Rule) (fact : FactUse) (slot : Slot) (binding : Binding) → rule.conclusion ≡ Fact fact slot → IsItem binding (bindings proc rule.params) → is_instance proc rule binding node ≡ true
      → IsItem (row_under schemas procs place proc node rule fact slot binding) (rows_by schemas procs place proc node rule Admitted rule.conclusion)
  by_rule rule fact slot binding is bound_by about =
      subst (λ conclusion. IsItem (row_under schemas procs place proc node rule fact slot binding) (rows_by schemas procs place proc node rule Admitted conclusion)) (sym is)
      (in_flat_map (rows_under schemas procs place proc node rule fact slot) (row_under schemas procs place proc node rule fact slot binding) binding (bindings proc rule.params) bound_by
      (in_if (is_instance proc rule binding node) (row_under schemas procs place proc node rule fact slot binding) about))

  among_rules : (rules : List Rule) (rulings : List Ruling) (number : ℕ) (rule : Rule) (row : Row) → slice_get rules number ≡ Some rule → slice_get rulings number ≡ Some Admitted
      → IsItem row (rows_by schemas procs place proc node rule Admitted rule.conclusion) → IsItem row (rows_at schemas procs place proc node rules rulings)
  among_rules [] rulings number rule row at admitted there = absurd cc
  among_rules (first ∷ rules) [] number rule row at admitted there = absurd cc
  among_rules (first ∷ rules) (ruling ∷ rulings) zero rule row at admitted there =
      in_front row (rows_by schemas procs place proc node first ruling first.conclusion) (rows_at schemas procs place proc node rules rulings)
      (subst (λ (r : Rule). IsItem row (rows_by schemas procs place proc node r ruling r.conclusion)) (sym (same_Some first rule at))
      (subst (λ (r : Ruling). IsItem row (rows_by schemas procs place proc node rule r rule.conclusion)) (sym (same_Some ruling Admitted admitted)) there))
  among_rules (first ∷ rules) (ruling ∷ rulings) (suc number) rule row at admitted there =
      in_back row (rows_by schemas procs place proc node first ruling first.conclusion) (rows_at schemas procs place proc node rules rulings)
      (among_rules rules rulings number rule row at admitted there)

module _ (file : Rules) (rulings : List Ruling) (procs : List Proc) where
  abbrev rows_of_proc : ℕ × Proc → List Row
  rows_of_proc at = rows_in file.schemas procs file.rules rulings at.0 at.1

  pub out_of_rows : (row : Row) → IsItem row (rows_of file rulings procs) → IsRowOf file rulings procs row
  out_of_rows row there =
      let found = item_of_flat_map rows_of_proc row (enumerate_from 0 procs) there in
      let place = found.0.0 in
      let proc = found.0.1 in
      let numbered = place_of (enumerate_from 0 procs) found.0 found.1 in
      let at = numbered_of 0 procs numbered.0 found.0 numbered.1 in
      let same : place ≡ numbered.0 = (let is = at.1 in omega (arith, is)) in
      let inner = item_of_flat_map (λ node. rows_at file.schemas procs place proc node file.rules rulings) row (nodes_of proc) found.2 in
      let node = inner.0 in
      let from = row_from file.schemas procs place proc node file.rules rulings row inner.2 in
      record {
        conclusion = record { proc = place; edge = record { node = node; slot = from.slot }; fact = fact_under from.binding from.fact };
        premises = premises_at place proc from.rule from.binding node;
        is = record {
          number = from.number;
          rule = from.rule;
          proc = proc;
          binding = from.binding;
          node = node;
          fact = from.fact;
          slot = from.slot;
          rule_at = from.rule_at;
          admitted = from.admitted;
          proc_at = ap (slice_get procs) same ∙ at.0;
          instance = record { in_domain = contains_of_item (bindings proc from.rule.params) from.binding from.bound_by; about = from.about };
          concludes = from.concludes;
          conclusion_is = refl;
          premises_are = refl;
        };
        bit_is = ap (λ (r : Row). r.bit) from.row_is;
        premises_are = ap (λ (r : Row). r.premises) from.row_is;
      }

  pub into_rows : (row : Row) → IsRowOf file rulings procs row → IsItem row (rows_of file rulings procs)
  into_rows row of =
      let is = of.is in
      let place = of.conclusion.proc in
      let found = row_under file.schemas procs place is.proc is.node is.rule is.fact is.slot is.binding in
      let bits = of.bit_is ∙ ap (bit_of file.schemas procs) is.conclusion_is in
      let premises = of.premises_are ∙ ap (map (bit_of file.schemas procs)) is.premises_are in
      let same : row ≡ found = λ i. record { bit = bits i; premises = premises i } in
      let by = by_rule file.schemas procs place is.proc is.node is.rule is.fact is.slot is.binding is.concludes
      (item_of_contains (bindings is.proc is.rule.params) is.binding is.instance.in_domain) is.instance.about in
      let at_node = among_rules file.schemas procs place is.proc is.node file.rules rulings is.number is.rule found is.rule_at is.admitted by in
      let in_proc = in_flat_map (λ node. rows_at file.schemas procs place is.proc node file.rules rulings) found is.node (nodes_of is.proc)
      (node_stands is.proc is.rule is.binding is.node is.instance.about) at_node in
      let number : 0 + place ≡ place = omega arith in
      let stands = item_at (enumerate_from 0 procs) (place, is.proc) place (numbered_at 0 procs place is.proc is.proc_at ∙ ap (λ n. Some (n, is.proc)) number) in
      subst (λ r. IsItem r (rows_of file rulings procs)) (sym same) (in_flat_map rows_of_proc found (place, is.proc) (enumerate_from 0 procs) stands in_proc)

pub row_items : (file : Rules) (rulings : List Ruling) (procs : List Proc) (row : Row) → Contains (rows_of file rulings procs) row ↔ IsRowOf file rulings procs row
row_items file rulings procs row = (
  λ has. out_of_rows file rulings procs row (item_of_contains (rows_of file rulings procs) row has),
  λ of. contains_of_item (rows_of file rulings procs) row (into_rows file rulings procs row of),
)
