-- The facts of a row are facts of the program, so its bits are bits of the full words.
use Rattle.std.proofs.Common.{ℕ, ◌≡◌, ◌+◌, ◌*◌, true, List, take, refl, ap, sym, ◌∙◌, subst}
use Rattle.std.specs.List.{All, list_all}
use Rattle.std.specs.Prelude.{IsTrue}
use Rattle.std.proofs.lemmas.Bool.{and_parts}
use Rattle.std.proofs.lemmas.List.Sums.{list_all-from_AllPass}
use Rattle.rh_il.specs.declared.program.Edge.{Edge}
use Rattle.rh_il.specs.declared.program.Proc.{Proc}
use Rattle.rh_il.specs.Flow.{edges_of}
use Rattle.rh_rule.specs.declared.rule.FactUse.{FactUse}
use Rattle.rh_rule.specs.declared.rule.Ruling.{Ruling}
use Rattle.rh_rule.specs.Kinds.{conclusion_has_kinds, fact_has_kinds, form_has_kinds, side_has_kinds}
use Rattle.rh_rule.specs.Numbers.{conclusion_has_arity, fact_has_arity}
use Rattle.rh_rule.specs.RuleFiles.{IsRuleFile, RulePassed, Rules}
use Rattle.rh_rule.specs.Shapes.{conclusion_has_slot}
use Rattle.rh_rule.proofs.Passed.{rule_passed}
use Rattle.rh_domain.specs.declared.fact.FactAt.{FactAt}
use Rattle.rh_domain.specs.declared.fact.GroundFact.{GroundFact}
use Rattle.rh_domain.specs.Binding.{bindings}
use Rattle.rh_domain.specs.Facts.{facts_of}
use Rattle.rh_ground.specs.Instance.{fact_under, is_conclusion_in_domain, is_fact_in_domain, matches_at, side_holds}
use Rattle.rh_ground.specs.Rows.{IsRow, edges_before, on_edges, premises_at}
use Rattle.rh_ground.proofs.Members.{IsItem, item_of_flat_map, item_of_map}
use Rattle.rh_layout.specs.Bits.{full_words, is_full_at, width_of, count_on, word_count}
use Rattle.rh_layout.proofs.FactBits.{facts_full}
use Rattle.rh_system.specs.declared.system.Row.{Row}
use Rattle.rh_system.specs.Bits.{bits_in}
use Rattle.rh_system.specs.Rows.{IsCovered}
use Rattle.rh_rows.specs.BitRows.{HasBit, IsRowOf, rows_of}
use Rattle.rh_rows.proofs.BitNumbers.{bit_is}
use Rattle.rh_rows.proofs.EdgeStands.{edge_enters, edge_leaves}
use Rattle.rh_rows.proofs.FactStands.{fact_stands_under}
use Rattle.rh_rows.proofs.Items.{all_of_items, item_of_contains, passes_item, place_of}
use Rattle.rh_rows.proofs.RowItems.{out_of_rows}

module _ (file : Rules) (rulings : List Ruling) (procs : List Proc) (is_file : IsRuleFile file) where
  module _ (conclusion : FactAt) (premises : List FactAt) (is : IsRow file.rules rulings procs conclusion premises) where
    abbrev place : ℕ
    place = conclusion.proc

    passed : RulePassed file.schemas is.rule
    passed = rule_passed file is.number is.rule is_file is.rule_at

    -- a fact on an edge of the procedure
    has_bit : (edge : Edge) (fact : GroundFact) → IsItem edge (edges_of is.proc) → IsItem fact (facts_of file.schemas is.proc) → HasBit file.schemas procs (record { proc = place; edge = edge; fact = fact })
    has_bit edge fact edge_there fact_there =
        let edge_place = place_of (edges_of is.proc) edge edge_there in
        let fact_place = place_of (facts_of file.schemas is.proc) fact fact_there in (
          64 * (word_count file.schemas (take place procs) + edge_place.0 * width_of (count_on file.schemas is.proc)) + fact_place.0,
          record { proc = is.proc; edge = edge_place.0; number = fact_place.0; proc_at = is.proc_at; edge_at = edge_place.1; fact_at = fact_place.1; bit_is = refl },
        )

    fact_there : (fact : FactUse) → fact_has_arity file.schemas fact ≡ true → fact_has_kinds file.schemas is.rule.params fact ≡ true → is_fact_in_domain is.proc fact ≡ true
        → IsItem (fact_under is.binding fact) (facts_of file.schemas is.proc)
    fact_there = fact_stands_under is.proc is.rule.params is.binding (item_of_contains (bindings is.proc is.rule.params) is.binding is.instance.in_domain) file.schemas

    matched : matches_at is.proc is.binding is.rule.pattern is.node ≡ true
    matched = (and_parts (matches_at is.proc is.binding is.rule.pattern is.node) _ is.instance.about).0

    inside : (list_all (is_fact_in_domain is.proc) is.rule.premises ≡ true) × (is_conclusion_in_domain is.proc is.rule.conclusion ≡ true)
    inside = and_parts _ _ (and_parts (list_all (side_holds is.binding) is.rule.sides) _ (and_parts (matches_at is.proc is.binding is.rule.pattern is.node) _ is.instance.about).1).1

    arities : (list_all (fact_has_arity file.schemas) is.rule.premises ≡ true) × (conclusion_has_arity file.schemas is.rule.conclusion ≡ true)
    arities = and_parts _ _ passed.arity

    kinds : (list_all (fact_has_kinds file.schemas is.rule.params) is.rule.premises ≡ true)
        × ((list_all (side_has_kinds is.rule.params) is.rule.sides ≡ true) × (conclusion_has_kinds file.schemas is.rule.params is.rule.conclusion ≡ true))
    kinds =
        let behind = and_parts _ _ (and_parts (form_has_kinds is.rule.params is.rule.pattern) _ passed.kinds).1 in
        (behind.0, and_parts _ _ behind.1)

    pub conclusion_has_bit : HasBit file.schemas procs conclusion
    conclusion_has_bit =
        let leaves = sym (ap (conclusion_has_slot is.rule.pattern) is.concludes) ∙ (and_parts _ (conclusion_has_slot is.rule.pattern is.rule.conclusion) passed.slots).1 in
        let arity = sym (ap (conclusion_has_arity file.schemas) is.concludes) ∙ arities.1 in
        let kind = sym (ap (conclusion_has_kinds file.schemas is.rule.params) is.concludes) ∙ kinds.1.1 in
        let within = sym (ap (is_conclusion_in_domain is.proc) is.concludes) ∙ inside.1 in
        subst (HasBit file.schemas procs) (sym is.conclusion_is)
        (has_bit (record { node = is.node; slot = is.slot }) (fact_under is.binding is.fact) (edge_leaves is.proc is.binding is.rule.pattern is.node is.slot matched leaves) (fact_there is.fact arity kind within))

    premise_has_bit : (premise : FactAt) → IsItem premise (premises_at place is.proc is.rule is.binding is.node) → HasBit file.schemas procs premise
    premise_has_bit premise there =
        let outer = item_of_flat_map (λ (premise_use : FactUse). on_edges place (edges_before is.proc is.node) (fact_under is.binding premise_use)) premise is.rule.premises there in
        let premise_use = outer.0 in
        let inner = item_of_map (λ (edge : Edge). record { proc = place; edge = edge; fact = fact_under is.binding premise_use }) premise (edges_before is.proc is.node) outer.2 in
        subst (HasBit file.schemas procs) (sym inner.2)
        (has_bit inner.0 (fact_under is.binding premise_use) (edge_enters is.proc is.node inner.0 inner.1)
        (fact_there premise_use (passes_item (fact_has_arity file.schemas) is.rule.premises premise_use arities.0 outer.1)
        (passes_item (fact_has_kinds file.schemas is.rule.params) is.rule.premises premise_use kinds.0 outer.1) (passes_item (is_fact_in_domain is.proc) is.rule.premises premise_use inside.0 outer.1)))

    pub premises_have_bits : (premise : FactAt) → IsItem premise premises → HasBit file.schemas procs premise
    premises_have_bits premise there = premise_has_bit premise (subst (IsItem premise) is.premises_are there)

  -- the bit of a row stands in the full words
  full_bit : (row : Row) → IsRowOf file rulings procs row → is_full_at file.schemas procs row.bit ≡ true
  full_bit row of =
      let has = conclusion_has_bit of.conclusion of.premises of.is in
      ap (is_full_at file.schemas procs) (of.bit_is ∙ sym (bit_is file.schemas procs has.0 of.conclusion has.1)) ∙ facts_full file.schemas procs has.0 of.conclusion has.1

  stands_full : (row : Row) → IsItem row (rows_of file rulings procs) → IsTrue (bits_in (full_words file.schemas procs) row.bit)
  unfolding bits_in
  stands_full row there = full_bit row (out_of_rows file rulings procs row there)

pub rows_have_bits : (file : Rules) (rulings : List Ruling) (procs : List Proc) (conclusion : FactAt) (premises : List FactAt) → IsRuleFile file → IsRow file.rules rulings procs conclusion premises
    → HasBit file.schemas procs conclusion × All (HasBit file.schemas procs) premises
rows_have_bits file rulings procs conclusion premises is_file is =
    (conclusion_has_bit file rulings procs is_file conclusion premises is, all_of_items (HasBit file.schemas procs) premises (premises_have_bits file rulings procs is_file conclusion premises is))

pub rows_covered : (file : Rules) (rulings : List Ruling) (procs : List Proc) → IsRuleFile file → IsCovered (full_words file.schemas procs) (rows_of file rulings procs)
rows_covered file rulings procs is_file = all_of_items (λ (row : Row). IsTrue (bits_in (full_words file.schemas procs) row.bit)) (rows_of file rulings procs) (stands_full file rulings procs is_file)

pub all_covered : (file : Rules) (rulings : List Ruling) (procs : List Proc) → IsRuleFile file → list_all (λ row. bits_in (full_words file.schemas procs) row.bit) (rows_of file rulings procs) ≡ true
all_covered file rulings procs is_file = list_all-from_AllPass (λ row. bits_in (full_words file.schemas procs) row.bit) (rows_of file rulings procs) (rows_covered file rulings procs is_file)
