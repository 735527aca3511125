-- The bits that instances conclude are those that have a row.
use Rattle.std.proofs.Common.{ℕ, zero, suc, ◌≡◌, ◌+◌, ◌*◌, ◌<◌, ◌≤◌, ◌==◌, inl, inr, true, false, ◌&&◌, List, [], ◌∷◌, length, Option, Some, None, refl, ap, sym, ◌∙◌, subst, arith, eq-eqb}
use Rattle.std.specs.Cmp.{both_ways}
use Rattle.std.specs.List.{range_with_len}
use Rattle.std.specs.Option.{option_map_or}
use Rattle.std.specs.Prelude.{slice_get}
use Rattle.std.proofs.lemmas.Bool.{and_from, and_parts, eqb-true, false_from_ne_true, false≢true, or_cases, or_left, or_right}
use Rattle.std.proofs.lemmas.Option.{same_Some, slice_get_within}
use Rattle.rh_il.specs.declared.program.Edge.{Edge}
use Rattle.rh_il.specs.declared.program.Proc.{Proc}
use Rattle.rh_il.specs.declared.program.Slot.{Slot}
use Rattle.rh_il.specs.Flow.{edges_of}
use Rattle.rh_rule.specs.declared.rule.Conclusion.{Conclusion}
use Rattle.rh_rule.specs.declared.rule.Conclusion.TheVariants.{Fact, Transform}
use Rattle.rh_rule.specs.declared.rule.FactUse.{FactUse}
use Rattle.rh_rule.specs.declared.rule.Rule.{Rule}
use Rattle.rh_rule.specs.declared.rule.Ruling.{Ruling}
use Rattle.rh_rule.specs.declared.rule.Ruling.TheVariants.{Admitted, Refused}
use Rattle.rh_rule.specs.declared.schema.Schema.{Schema}
use Rattle.rh_rule.specs.RuleFiles.{IsRuleFile, Rules}
use Rattle.rh_domain.specs.declared.fact.FactAt.{FactAt}
use Rattle.rh_domain.specs.Binding.{Binding, bindings}
use Rattle.rh_ground.specs.Instance.{fact_under, is_instance}
use Rattle.rh_ground.specs.Rows.{IsRow, premises_at}
use Rattle.rh_ground.proofs.Members.{IsItem}
use Rattle.rh_layout.specs.Bits.{full_words, word_count}
use Rattle.rh_layout.proofs.EdgeWords.{words_counted}
use Rattle.rh_system.specs.declared.system.Row.{Row}
use Rattle.rh_system.specs.Bits.{bits_in}
use Rattle.rh_system.proofs.Supports.{bit_inside}
use Rattle.rh_rows.specs.BitRows.{HasBit, bit_of, row_under, rows_of}
use Rattle.rh_rows.specs.Known.{is_fact_of, slot_eq}
use Rattle.rh_rows.proofs.Covered.{conclusion_has_bit, rows_covered}
use Rattle.rh_rows.proofs.Items.{contains_of_item, in_range, item_has, item_of_contains, some_item, some_passes}
use Rattle.rh_rows.proofs.ProgramFacts.{is_fact, slot_eq-same, slot_eq-true}
use Rattle.rh_rows.proofs.RowItems.{into_rows, out_of_rows}
use Rattle.rh_sparse.specs.Candidates.{concluded_in, concluded_on, edge_count, fact_on, has_row, is_bit_of, is_concluded, rule_concludes, rules_conclude, some_concludes}

-- a number below a count is one of those from 0 on
number_stands : (number count : ℕ) → number < count → IsItem number (range_with_len 0 count)
number_stands number count below = let same : 0 + number ≡ number = omega arith in subst (λ n. IsItem n (range_with_len 0 count)) same (in_range 0 number count below)

module _ (file : Rules) (rulings : List Ruling) (procs : List Proc) (bit : ℕ) where
  abbrev schemas : List Schema
  schemas = file.schemas

  abbrev rows : List Row
  rows = rows_of file rulings procs

  -- ---- from a conclusion to its row

  -- an instance of a rule that concludes the fact of the bit on an edge
  pub record IsConcludedBy (place : ℕ) (proc : Proc) (edge : Edge) (rules : List Rule) (given : List Ruling) : Type 0 where
    pub number : ℕ
    pub rule : Rule
    pub fact : FactUse
    pub slot : Slot
    pub binding : Binding
    pub rule_at : slice_get rules number ≡ Some rule
    pub admitted : slice_get given number ≡ Some Admitted
    pub concludes : rule.conclusion ≡ Fact fact slot
    pub slot_is : slot ≡ edge.slot
    pub bound_by : IsItem binding (bindings proc rule.params)
    pub about : is_instance proc rule binding edge.node ≡ true
    pub bit_is : bit_of schemas procs (fact_on place edge fact binding) ≡ bit

  module _ (place : ℕ) (proc : Proc) (edge : Edge) where
    by_rule : (rule : Rule) (rules : List Rule) (ruling : Ruling) (given : List Ruling) (conclusion : Conclusion) → rule.conclusion ≡ conclusion → rule_concludes schemas procs place proc edge rule ruling conclusion bit ≡ true
        → IsConcludedBy place proc edge (rule ∷ rules) (ruling ∷ given)
    by_rule rule rules Admitted given (Fact fact slot) is concludes =
        let outer = and_parts (slot_eq slot edge.slot) (some_concludes schemas procs place proc edge rule fact bit) concludes in
        let found = some_item (λ binding. is_instance proc rule binding edge.node && is_bit_of schemas procs (fact_on place edge fact binding) bit) (bindings proc rule.params) outer.1 in
        let inner = and_parts (is_instance proc rule found.0 edge.node) (is_bit_of schemas procs (fact_on place edge fact found.0) bit) found.2 in
        let bits = and_parts (is_fact_of schemas procs (fact_on place edge fact found.0)) (bit_of schemas procs (fact_on place edge fact found.0) == bit) inner.1 in
        record {
          number = 0;
          rule = rule;
          fact = fact;
          slot = slot;
          binding = found.0;
          rule_at = refl;
          admitted = refl;
          concludes = is;
          slot_is = slot_eq-true slot edge.slot outer.0;
          bound_by = found.1;
          about = inner.0;
          bit_is = eqb-true (bit_of schemas procs (fact_on place edge fact found.0)) bit bits.1;
        }
    by_rule rule rules Admitted given (Transform template) is concludes = absurd (false≢true concludes)
    by_rule rule rules (Refused obligation) given conclusion is concludes = absurd (false≢true concludes)

    later : (rule : Rule) (rules : List Rule) (ruling : Ruling) (given : List Ruling) → IsConcludedBy place proc edge rules given → IsConcludedBy place proc edge (rule ∷ rules) (ruling ∷ given)
    later rule rules ruling given by = record {
      number = suc by.number;
      rule = by.rule;
      fact = by.fact;
      slot = by.slot;
      binding = by.binding;
      rule_at = by.rule_at;
      admitted = by.admitted;
      concludes = by.concludes;
      slot_is = by.slot_is;
      bound_by = by.bound_by;
      about = by.about;
      bit_is = by.bit_is;
    }

    by_rules : (rules : List Rule) (given : List Ruling) → rules_conclude schemas procs place proc edge rules given bit ≡ true → IsConcludedBy place proc edge rules given
    by_rules [] given concludes = absurd (false≢true concludes)
    by_rules (rule ∷ rules) [] concludes = absurd (false≢true concludes)
    by_rules (rule ∷ rules) (ruling ∷ given) concludes =
        elim (or_cases (rule_concludes schemas procs place proc edge rule ruling rule.conclusion bit) (rules_conclude schemas procs place proc edge rules given bit) concludes)
        as (λ _. IsConcludedBy place proc edge (rule ∷ rules) (ruling ∷ given))
        [ inl here ↦ by_rule rule rules ruling given rule.conclusion refl here | inr after ↦ later rule rules ruling given (by_rules rules given after) ]

    row_of : slice_get procs place ≡ Some proc → IsConcludedBy place proc edge file.rules rulings → has_row rows bit ≡ true
    row_of proc_at by =
        let row = row_under schemas procs place proc edge.node by.rule by.fact by.slot by.binding in
        let conclusion : FactAt = record { proc = place; edge = record { node = edge.node; slot = by.slot }; fact = fact_under by.binding by.fact } in
        let there = into_rows file rulings procs row (record {
          conclusion = conclusion;
          premises = premises_at place proc by.rule by.binding edge.node;
          is = record {
            number = by.number;
            rule = by.rule;
            proc = proc;
            binding = by.binding;
            node = edge.node;
            fact = by.fact;
            slot = by.slot;
            rule_at = by.rule_at;
            admitted = by.admitted;
            proc_at = proc_at;
            instance = record { in_domain = contains_of_item (bindings proc by.rule.params) by.binding by.bound_by; about = by.about };
            concludes = by.concludes;
            conclusion_is = refl;
            premises_are = refl;
          };
          bit_is = refl;
          premises_are = refl;
        }) in
        let same : row.bit ≡ bit = ap (λ (slot : Slot). bit_of schemas procs (record { proc = place; edge = record { node = edge.node; slot = slot }; fact = fact_under by.binding by.fact })) by.slot_is ∙ by.bit_is in
        some_passes (λ (r : Row). r.bit == bit) rows row there (eq-eqb row.bit bit same)

  edge_row : (place : ℕ) (proc : Proc) → slice_get procs place ≡ Some proc → (found : Option Edge)
      → option_map_or (λ (edge : Edge). rules_conclude schemas procs place proc edge file.rules rulings bit) found false ≡ true → has_row rows bit ≡ true
  edge_row place proc proc_at None concludes = absurd (false≢true concludes)
  edge_row place proc proc_at (Some edge) concludes = row_of place proc edge proc_at (by_rules place proc edge file.rules rulings concludes)

  on_row : (place number : ℕ) (found : Option Proc) → slice_get procs place ≡ found
      → option_map_or (λ (proc : Proc). option_map_or (λ (edge : Edge). rules_conclude schemas procs place proc edge file.rules rulings bit) (slice_get (edges_of proc) number) false) found false ≡ true
      → has_row rows bit ≡ true
  on_row place number None read concludes = absurd (false≢true concludes)
  on_row place number (Some proc) read concludes = edge_row place proc read (slice_get (edges_of proc) number) concludes

  concluded_row : is_concluded file rulings procs bit ≡ true → has_row rows bit ≡ true
  concluded_row concludes =
      let in_proc = some_item (λ place. concluded_in file rulings procs place bit) (range_with_len 0 (length procs)) concludes in
      let on_edge = some_item (λ number. concluded_on file rulings procs in_proc.0 number bit) (range_with_len 0 (edge_count procs in_proc.0)) in_proc.2 in
      on_row in_proc.0 on_edge.0 (slice_get procs in_proc.0) refl on_edge.2

  -- ---- and back

  module _ (place : ℕ) (proc : Proc) (edge : Edge) where
    among_rules : (rules : List Rule) (given : List Ruling) (number : ℕ) (rule : Rule) → slice_get rules number ≡ Some rule → slice_get given number ≡ Some Admitted
        → rule_concludes schemas procs place proc edge rule Admitted rule.conclusion bit ≡ true → rules_conclude schemas procs place proc edge rules given bit ≡ true
    among_rules [] given number rule at admitted concludes = absurd cc
    among_rules (first ∷ rules) [] number rule at admitted concludes = absurd cc
    among_rules (first ∷ rules) (ruling ∷ given) zero rule at admitted concludes =
        or_left (rule_concludes schemas procs place proc edge first ruling first.conclusion bit) (rules_conclude schemas procs place proc edge rules given bit)
        (ap (λ (r : Rule). rule_concludes schemas procs place proc edge r ruling r.conclusion bit) (same_Some first rule at)
        ∙ ap (λ (r : Ruling). rule_concludes schemas procs place proc edge rule r rule.conclusion bit) (same_Some ruling Admitted admitted) ∙ concludes)
    among_rules (first ∷ rules) (ruling ∷ given) (suc number) rule at admitted concludes =
        or_right (rule_concludes schemas procs place proc edge first ruling first.conclusion bit) (rules_conclude schemas procs place proc edge rules given bit)
        (among_rules rules given number rule at admitted concludes)

  module _ (is_file : IsRuleFile file) where
    module _ (conclusion : FactAt) (premises : List FactAt) (is : IsRow file.rules rulings procs conclusion premises) (bit_is : bit_of schemas procs conclusion ≡ bit) where
      abbrev edge : Edge
      edge = record { node = is.node; slot = is.slot }

      abbrev concluded : FactAt
      concluded = fact_on conclusion.proc edge is.fact is.binding

      has : HasBit schemas procs concluded
      has = subst (HasBit schemas procs) is.conclusion_is (conclusion_has_bit file rulings procs is_file conclusion premises is)

      own_bit : is_bit_of schemas procs concluded bit ≡ true
      own_bit =
          and_from (is_fact_of schemas procs concluded) (bit_of schemas procs concluded == bit) (is_fact schemas procs concluded has)
          (eq-eqb (bit_of schemas procs concluded) bit (ap (bit_of schemas procs) (sym is.conclusion_is) ∙ bit_is))

      rule_does : rule_concludes schemas procs conclusion.proc is.proc edge is.rule Admitted is.rule.conclusion bit ≡ true
      rule_does =
          ap (λ (c : Conclusion). rule_concludes schemas procs conclusion.proc is.proc edge is.rule Admitted c bit) is.concludes
          ∙ and_from (slot_eq is.slot is.slot) (some_concludes schemas procs conclusion.proc is.proc edge is.rule is.fact bit) (slot_eq-same is.slot)
          (some_passes (λ binding. is_instance is.proc is.rule binding is.node && is_bit_of schemas procs (fact_on conclusion.proc edge is.fact binding) bit) (bindings is.proc is.rule.params)
          is.binding (item_of_contains (bindings is.proc is.rule.params) is.binding is.instance.in_domain)
          (and_from (is_instance is.proc is.rule is.binding is.node) (is_bit_of schemas procs concluded bit) is.instance.about own_bit))

      row_concluded : is_concluded file rulings procs bit ≡ true
      row_concluded =
          let place = conclusion.proc in
          let at = has.1 in
          let same : at.proc ≡ is.proc = same_Some at.proc is.proc (sym at.proc_at ∙ is.proc_at) in
          let edge_at : slice_get (edges_of is.proc) at.edge ≡ Some edge = ap (λ (p : Proc). slice_get (edges_of p) at.edge) (sym same) ∙ at.edge_at in
          let on_edge : concluded_on file rulings procs place at.edge bit ≡ true =
          ap (λ found. option_map_or (λ (proc : Proc). option_map_or (λ (e : Edge). rules_conclude schemas procs place proc e file.rules rulings bit) (slice_get (edges_of proc) at.edge) false) found false) is.proc_at
          ∙ ap (λ found. option_map_or (λ (e : Edge). rules_conclude schemas procs place is.proc e file.rules rulings bit) found false) edge_at
          ∙ among_rules place is.proc edge file.rules rulings is.number is.rule is.rule_at is.admitted rule_does in
          let count : edge_count procs place ≡ length (edges_of is.proc) = ap (λ found. option_map_or (λ (proc : Proc). length (edges_of proc)) found 0) is.proc_at in
          let edge_below = slice_get_within (edges_of is.proc) at.edge edge edge_at in
          let proc_below = slice_get_within procs place is.proc is.proc_at in
          some_passes (λ p. concluded_in file rulings procs p bit) (range_with_len 0 (length procs)) place (number_stands place (length procs) proc_below)
          (some_passes (λ number. concluded_on file rulings procs place number bit) (range_with_len 0 (edge_count procs place)) at.edge
          (number_stands at.edge (edge_count procs place) (subst (λ n. at.edge < n) (sym count) edge_below)) on_edge)

    row_bit : has_row rows bit ≡ true → is_concluded file rulings procs bit ≡ true
    row_bit some =
        let found = some_item (λ (r : Row). r.bit == bit) rows some in
        let of = out_of_rows file rulings procs found.0 found.1 in
        row_concluded of.conclusion of.premises of.is (sym of.bit_is ∙ eqb-true found.0.bit bit found.2)

    pub concluded_has_row : is_concluded file rulings procs bit ≡ has_row rows bit
    concluded_has_row = both_ways (is_concluded file rulings procs bit) (has_row rows bit) concluded_row row_bit

    -- past the words no bit has a row
    pub past_full : (count : ℕ) → count ≡ word_count schemas procs → 64 * count ≤ bit → is_concluded file rulings procs bit ≡ false
    past_full count size past =
        false_from_ne_true (is_concluded file rulings procs bit)
        (λ is.
        let found = some_item (λ (r : Row). r.bit == bit) rows (concluded_row is) in
        let full = full_words schemas procs in
        let stands = item_has (λ (r : Row). bits_in full r.bit ≡ true) rows found.0 (rows_covered file rulings procs is_file) found.1 in
        let same = eqb-true found.0.bit bit found.2 in
        let inside = bit_inside full found.0.bit stands in
        let words = words_counted schemas procs in
        absurd (omega (arith, same, inside, words, size, past)))
