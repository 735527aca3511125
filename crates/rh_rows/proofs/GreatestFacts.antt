-- Sets of facts that are supported, and sets of bits that are.
use Rattle.std.proofs.Common.{ℕ, ◌≡◌, true, ◌&&◌, ◌==◌, List, map, refl, ap, sym, ◌∙◌, subst, eq-eqb}
use Rattle.std.specs.List.{list_all, list_any}
use Rattle.std.specs.Prelude.{IsTrue}
use Rattle.std.proofs.lemmas.Bool.{and_from, and_parts, eqb-true}
use Rattle.rh_il.specs.declared.program.Proc.{Proc}
use Rattle.rh_rule.specs.declared.rule.Ruling.{Ruling}
use Rattle.rh_rule.specs.RuleFiles.{IsRuleFile, Rules}
use Rattle.rh_domain.specs.declared.fact.FactAt.{FactAt}
use Rattle.rh_domain.specs.Facts.{Known, all_facts}
use Rattle.rh_ground.specs.Rows.{IsGreatest, IsRow, IsSupported}
use Rattle.rh_ground.proofs.Members.{IsItem, item_of_map}
use Rattle.rh_layout.specs.Bits.{IsBitOf}
use Rattle.rh_layout.proofs.FactBits.{one_fact}
use Rattle.rh_system.specs.declared.system.Row.{Row}
use Rattle.rh_system.specs.Bits.{BitSet, bits_in}
use Rattle.rh_system.specs.Rows.{IsGreatest as HasGreatestBits, IsSupported as HasRows, supports}
use Rattle.rh_rows.specs.BitRows.{HasBit, bit_of, rows_of}
use Rattle.rh_rows.specs.Known.{is_fact_of, known_by, known_in}
use Rattle.rh_rows.proofs.BitNumbers.{bit_is}
use Rattle.rh_rows.proofs.Covered.{conclusion_has_bit, premises_have_bits}
use Rattle.rh_rows.proofs.Items.{all_of_items, each_passes, in_map, item_has, passes_item, some_item, some_passes}
use Rattle.rh_rows.proofs.ProgramFacts.{fact_stands, has_bit, is_fact}
use Rattle.rh_rows.proofs.RowItems.{into_rows, out_of_rows}

-- a row of the bit whose premises are in the set
pub record Supporting (rows : List Row) (set : BitSet) (bit : ℕ) : Type 0 where
  pub row : Row
  pub there : IsItem row rows
  pub bit_is : row.bit ≡ bit
  pub within : list_all set row.premises ≡ true

pub supporting : (rows : List Row) (set : BitSet) (bit : ℕ) → IsTrue (supports rows set bit) → Supporting rows set bit
unfolding supports
supporting rows set bit is =
    let found = some_item (λ (row : Row). (row.bit == bit) && list_all set row.premises) rows is in
    let parts = and_parts (found.0.bit == bit) (list_all set found.0.premises) found.2 in
    record { row = found.0; there = found.1; bit_is = eqb-true found.0.bit bit parts.0; within = parts.1 }

pub supported_by : (rows : List Row) (set : BitSet) (bit : ℕ) → Supporting rows set bit → IsTrue (supports rows set bit)
unfolding supports
supported_by rows set bit by =
    some_passes (λ (row : Row). (row.bit == bit) && list_all set row.premises) rows by.row by.there
    (and_from (by.row.bit == bit) (list_all set by.row.premises) (eq-eqb by.row.bit bit by.bit_is) by.within)

module _ (file : Rules) (rulings : List Ruling) (procs : List Proc) (is_file : IsRuleFile file) where
  abbrev rows : List Row
  rows = rows_of file rulings procs

  abbrev bit_at : FactAt → ℕ
  bit_at = bit_of file.schemas procs

  pub is_bit : (fact : FactAt) → HasBit file.schemas procs fact → IsBitOf file.schemas procs (bit_at fact) fact
  is_bit fact has = subst (λ bit. IsBitOf file.schemas procs bit fact) (bit_is file.schemas procs has.0 fact has.1) has.1

  facts_supported : (set : BitSet) → HasRows rows set → IsSupported file.rules rulings procs (known_by file.schemas procs set)
  facts_supported set supported fact is_known =
      let parts = and_parts (is_fact_of file.schemas procs fact) (set (bit_at fact)) is_known in
      let by = supporting rows set (bit_at fact) (supported (bit_at fact) parts.1) in
      let of = out_of_rows file rulings procs by.row by.there in
      let has = conclusion_has_bit file rulings procs is_file of.conclusion of.premises of.is in
      let bits : bit_at of.conclusion ≡ bit_at fact = sym of.bit_is ∙ by.bit_is in
      let same = one_fact file.schemas procs (bit_at fact) of.conclusion fact
      (subst (λ bit. IsBitOf file.schemas procs bit of.conclusion) bits (is_bit of.conclusion has)) (is_bit fact (has_bit file.schemas procs fact parts.0)) in
      let within = sym (ap (list_all set) of.premises_are) ∙ by.within in (
        of.premises,
        subst (λ (c : FactAt). IsRow file.rules rulings procs c of.premises) same of.is,
        all_of_items (λ (premise : FactAt). IsTrue (known_by file.schemas procs set premise)) of.premises
            (λ premise there. and_from (is_fact_of file.schemas procs premise) (set (bit_at premise))
            (is_fact file.schemas procs premise (premises_have_bits file rulings procs is_file of.conclusion of.premises of.is premise there))
            (passes_item set (map bit_at of.premises) (bit_at premise) within (in_map bit_at premise of.premises there))),
      )

  -- the bits of a set of facts
  abbrev bits_with : Known → BitSet
  bits_with known bit = list_any (λ fact. (bit_at fact == bit) && known fact) (all_facts file.schemas procs)

  bit_there : (known : Known) (fact : FactAt) → HasBit file.schemas procs fact → IsTrue (known fact) → IsTrue (bits_with known (bit_at fact))
  bit_there known fact has is =
      some_passes (λ other. (bit_at other == bit_at fact) && known other) (all_facts file.schemas procs) fact (fact_stands file.schemas procs fact has)
      (and_from (bit_at fact == bit_at fact) (known fact) (eq-eqb (bit_at fact) (bit_at fact) refl) is)

  module _ (known : Known) (supported : IsSupported file.rules rulings procs known) where
    row_for : (fact : FactAt) → IsTrue (known fact) → Supporting rows (bits_with known) (bit_at fact)
    row_for fact is =
        let by = supported fact is in
        let premises = by.0 in
        let row : Row = record { bit = bit_at fact; premises = map bit_at premises } in
        record {
          row = row;
          there = into_rows file rulings procs row (record { conclusion = fact; premises = premises; is = by.1; bit_is = refl; premises_are = refl });
          bit_is = refl;
          within = each_passes (bits_with known) (map bit_at premises)
              (λ bit there.
              let found = item_of_map bit_at bit premises there in
              ap (bits_with known) found.2
              ∙ bit_there known found.0 (premises_have_bits file rulings procs is_file fact premises by.1 found.0 found.1) (item_has (λ (premise : FactAt). IsTrue (known premise)) premises found.0 by.2 found.1));
        }

    bits_supported : HasRows rows (bits_with known)
    bits_supported bit is =
        let found = some_item (λ fact. (bit_at fact == bit) && known fact) (all_facts file.schemas procs) is in
        let parts = and_parts (bit_at found.0 == bit) (known found.0) found.2 in
        subst (λ b. IsTrue (supports rows (bits_with known) b)) (eqb-true (bit_at found.0) bit parts.0) (supported_by rows (bits_with known) (bit_at found.0) (row_for found.0 parts.1))

    has_its_bit : (fact : FactAt) → IsTrue (known fact) → HasBit file.schemas procs fact
    has_its_bit fact is = let by = supported fact is in conclusion_has_bit file rulings procs is_file fact by.0 by.1

  -- the facts whose bits are in the greatest set are the greatest set of facts
  facts_greatest : (words : List ℕ) → HasGreatestBits rows words → IsGreatest file.rules rulings procs (known_in file.schemas procs words)
  facts_greatest words greatest fact = (
    λ is.
        let parts = and_parts (is_fact_of file.schemas procs fact) (bits_in words (bit_at fact)) is in
        let within = (greatest (bit_at fact)).0 parts.1 in
        (known_by file.schemas procs within.0, facts_supported within.0 within.1, and_from (is_fact_of file.schemas procs fact) (within.0 (bit_at fact)) parts.0 within.2),
    λ other.
        let has = has_its_bit other.0 other.1 fact other.2 in
        and_from (is_fact_of file.schemas procs fact) (bits_in words (bit_at fact)) (is_fact file.schemas procs fact has)
        ((greatest (bit_at fact)).1 (bits_with other.0, bits_supported other.0 other.1, bit_there other.0 fact has other.2)),
  )

pub greatest_is_known : (file : Rules) (rulings : List Ruling) (procs : List Proc) (words : List ℕ) → IsRuleFile file → HasGreatestBits (rows_of file rulings procs) words
    → IsGreatest file.rules rulings procs (known_in file.schemas procs words)
greatest_is_known file rulings procs words is_file greatest = facts_greatest file rulings procs is_file words greatest
