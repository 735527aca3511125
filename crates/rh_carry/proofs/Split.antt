-- The rows of the rules that carry and those of the others are all rows.
use Rattle.std.proofs.Common.{ℕ, ◌≡◌, ◌==◌, ◌&&◌, ◌||◌, ◌⊎◌, inl, inr, Bool, true, false, not, List, [], map, refl, ap, sym, ◌∙◌, subst, eq-eqb}
use Rattle.std.specs.Cmp.{both_ways}
use Rattle.std.specs.List.{list_all}
use Rattle.std.specs.Option.{option_map_or}
use Rattle.std.specs.Prelude.{IsTrue}
use Rattle.std.proofs.lemmas.Bool.{and_from, and_parts, eqb-true, false_from_ne_true, false≢true, or_cases, or_left, or_right}
use Rattle.rh_il.specs.declared.program.Proc.{Proc}
use Rattle.rh_rule.specs.declared.rule.Rule.{Rule}
use Rattle.rh_rule.specs.declared.rule.Ruling.{Ruling}
use Rattle.rh_rule.specs.RuleFiles.{IsRuleFile, Rules}
use Rattle.rh_domain.specs.declared.fact.FactAt.{FactAt}
use Rattle.rh_ground.specs.Rows.{IsRow, edges_before, on_edges}
use Rattle.rh_ground.proofs.Members.{IsItem}
use Rattle.rh_layout.specs.Bits.{IsBitOf}
use Rattle.rh_system.specs.declared.system.Row.{Row}
use Rattle.rh_system.specs.Bits.{BitSet}
use Rattle.rh_system.specs.Rows.{supports}
use Rattle.rh_rows.specs.BitRows.{bit_of, rows_of}
use Rattle.rh_rows.proofs.Covered.{conclusion_has_bit}
use Rattle.rh_rows.proofs.GreatestFacts.{is_bit, supported_by, supporting}
use Rattle.rh_rows.proofs.Items.{some_item, some_passes}
use Rattle.rh_rows.proofs.RowItems.{into_rows, out_of_rows}
use Rattle.rh_carry.specs.Carry.{IsBefore, carried_rows, carries, has_row, only, other_rows}
use Rattle.rh_carry.proofs.Carrying.{carried_premises, into_only, out_of_only}

module _ (file : Rules) (rulings : List Ruling) (procs : List Proc) where
  abbrev rows : List Row
  rows = rows_of file rulings procs

  abbrev carried : List Row
  carried = carried_rows file rulings procs

  abbrev others : List Row
  others = other_rows file rulings procs

  abbrev is_other : Rule → Bool
  is_other rule = not (carries rule)

  -- ---- rows by some of the rules

  among_all : (passes : Rule → Bool) (conclusion : FactAt) (premises : List FactAt) → IsRow file.rules (only passes file.rules rulings) procs conclusion premises → IsRow file.rules rulings procs conclusion premises
  among_all passes conclusion premises is = record {
    number = is.number;
    rule = is.rule;
    proc = is.proc;
    binding = is.binding;
    node = is.node;
    fact = is.fact;
    slot = is.slot;
    rule_at = is.rule_at;
    admitted = (out_of_only passes file.rules rulings is.number is.rule is.rule_at is.admitted).0;
    proc_at = is.proc_at;
    instance = is.instance;
    concludes = is.concludes;
    conclusion_is = is.conclusion_is;
    premises_are = is.premises_are;
  }

  among_some : (passes : Rule → Bool) (conclusion : FactAt) (premises : List FactAt) (is : IsRow file.rules rulings procs conclusion premises) → passes is.rule ≡ true
      → IsRow file.rules (only passes file.rules rulings) procs conclusion premises
  among_some passes conclusion premises is passed = record {
    number = is.number;
    rule = is.rule;
    proc = is.proc;
    binding = is.binding;
    node = is.node;
    fact = is.fact;
    slot = is.slot;
    rule_at = is.rule_at;
    admitted = into_only passes file.rules rulings is.number is.rule is.rule_at is.admitted passed;
    proc_at = is.proc_at;
    instance = is.instance;
    concludes = is.concludes;
    conclusion_is = is.conclusion_is;
    premises_are = is.premises_are;
  }

  -- a row by some of the rules is one of all
  all_of : (passes : Rule → Bool) (row : Row) → IsItem row (rows_of file (only passes file.rules rulings) procs) → IsItem row rows
  all_of passes row there =
      let of = out_of_rows file (only passes file.rules rulings) procs row there in
      into_rows file rulings procs row (record {
        conclusion = of.conclusion;
        premises = of.premises;
        is = among_all passes of.conclusion of.premises of.is;
        bit_is = of.bit_is;
        premises_are = of.premises_are;
      })

  -- each row is one by the rules that carry or by the others
  one_of : (row : Row) → IsItem row rows → IsItem row carried ⊎ IsItem row others
  one_of row there =
      let of = out_of_rows file rulings procs row there in
      let by : (passes : Rule → Bool) → passes of.is.rule ≡ true → IsItem row (rows_of file (only passes file.rules rulings) procs) =
      (λ passes passed. into_rows file (only passes file.rules rulings) procs row (record {
        conclusion = of.conclusion;
        premises = of.premises;
        is = among_some passes of.conclusion of.premises of.is passed;
        bit_is = of.bit_is;
        premises_are = of.premises_are;
      })) in
      elim (carries of.is.rule) as (λ b. carries of.is.rule ≡ b → IsItem row carried ⊎ IsItem row others) [
        | true ↦ λ is. inl (by carries is)
        | false ↦ λ is. inr (by is_other (ap not is))
      ] refl

  abbrev is_row_of : ℕ → Row → Bool
  is_row_of bit row = row.bit == bit

  has : (bit : ℕ) (list : List Row) (row : Row) → IsItem row list → row.bit ≡ bit → has_row list bit ≡ true
  has bit list row there same = some_passes (is_row_of bit) list row there (eq-eqb row.bit bit same)

  -- ---- bits that have rows

  into_split : (bit : ℕ) → has_row rows bit ≡ true → (has_row carried bit || has_row others bit) ≡ true
  into_split bit is =
      let found = some_item (is_row_of bit) rows is in
      let same = eqb-true found.0.bit bit found.2 in
      elim (one_of found.0 found.1) as (λ _. (has_row carried bit || has_row others bit) ≡ true) [
        | inl there ↦ or_left (has_row carried bit) (has_row others bit) (has bit carried found.0 there same)
        | inr there ↦ or_right (has_row carried bit) (has_row others bit) (has bit others found.0 there same)
      ]

  out_of_split : (bit : ℕ) → (has_row carried bit || has_row others bit) ≡ true → has_row rows bit ≡ true
  out_of_split bit is =
      elim (or_cases (has_row carried bit) (has_row others bit) is) as (λ _. has_row rows bit ≡ true) [
        | inl one ↦ let found = some_item (is_row_of bit) carried one in has bit rows found.0 (all_of carries found.0 found.1) (eqb-true found.0.bit bit found.2)
        | inr one ↦ let found = some_item (is_row_of bit) others one in has bit rows found.0 (all_of is_other found.0 found.1) (eqb-true found.0.bit bit found.2)
      ]

  pub rows_split : (bit : ℕ) → has_row rows bit ≡ (has_row carried bit || has_row others bit)
  rows_split bit = both_ways (has_row rows bit) (has_row carried bit || has_row others bit) (into_split bit) (out_of_split bit)

  -- ---- bits that are supported

  module _ (set : BitSet) (bit : ℕ) where
    into_support : IsTrue (supports rows set bit) → (supports carried set bit || supports others set bit) ≡ true
    into_support is =
        let by = supporting rows set bit is in
        elim (one_of by.row by.there) as (λ _. (supports carried set bit || supports others set bit) ≡ true) [
          | inl there ↦ or_left (supports carried set bit) (supports others set bit) (supported_by carried set bit (record { row = by.row; there = there; bit_is = by.bit_is; within = by.within }))
          | inr there ↦ or_right (supports carried set bit) (supports others set bit) (supported_by others set bit (record { row = by.row; there = there; bit_is = by.bit_is; within = by.within }))
        ]

    -- what some of the rows support, all do
    all_support : (passes : Rule → Bool) → IsTrue (supports (rows_of file (only passes file.rules rulings) procs) set bit) → IsTrue (supports rows set bit)
    all_support passes is =
        let by = supporting (rows_of file (only passes file.rules rulings) procs) set bit is in
        supported_by rows set bit (record { row = by.row; there = all_of passes by.row by.there; bit_is = by.bit_is; within = by.within })

    out_of_support : (supports carried set bit || supports others set bit) ≡ true → IsTrue (supports rows set bit)
    out_of_support is =
        elim (or_cases (supports carried set bit) (supports others set bit) is) as (λ _. IsTrue (supports rows set bit))
        [ inl one ↦ all_support carries one | inr one ↦ all_support is_other one ]

    pub support_split : supports rows set bit ≡ (supports carried set bit || supports others set bit)
    support_split = both_ways (supports rows set bit) (supports carried set bit || supports others set bit) into_support out_of_support

  -- ---- bits that are carried

  module _ (set : BitSet) (bit : ℕ) (before : Bool) (is_file : IsRuleFile file) (is_before : IsBefore file.schemas procs set bit before) where
    -- the premises of a row by a rule that carries are in the set where the fact is known before
    within_before : (row : Row) → IsItem row carried → row.bit ≡ bit → list_all set row.premises ≡ before
    within_before row there same =
        let some = only carries file.rules rulings in
        let of = out_of_rows file some procs row there in
        let is = of.is in
        let at = of.conclusion in
        let has_bit = conclusion_has_bit file some procs is_file at of.premises is in
        let own = subst (λ b. IsBitOf file.schemas procs b at) (sym of.bit_is ∙ same) (is_bit file some procs is_file at has_bit) in
        let carry = (out_of_only carries file.rules rulings is.number is.rule is.rule_at is.admitted).1 in
        let premises =
        is.premises_are ∙ carried_premises is.fact at.proc is.proc is.binding is.node is.rule is.slot is.concludes carry
        ∙ ap (λ (f : FactAt). on_edges at.proc (edges_before is.proc f.edge.node) f.fact) (sym is.conclusion_is) in
        let listed = ap (λ found. option_map_or (λ (proc : Proc). map (bit_of file.schemas procs) (on_edges at.proc (edges_before proc at.edge.node) at.fact)) found []) is.proc_at in
        ap (list_all set) (of.premises_are ∙ ap (map (bit_of file.schemas procs)) premises ∙ sym listed) ∙ sym (is_before at own)

    into_carried : IsTrue (supports carried set bit) → (has_row carried bit && before) ≡ true
    into_carried is =
        let by = supporting carried set bit is in
        and_from (has_row carried bit) before (has bit carried by.row by.there by.bit_is) (sym (within_before by.row by.there by.bit_is) ∙ by.within)

    out_of_carried : (has_row carried bit && before) ≡ true → IsTrue (supports carried set bit)
    out_of_carried is =
        let parts = and_parts (has_row carried bit) before is in
        let found = some_item (is_row_of bit) carried parts.0 in
        let same = eqb-true found.0.bit bit found.2 in
        supported_by carried set bit (record { row = found.0; there = found.1; bit_is = same; within = within_before found.0 found.1 same ∙ parts.1 })

    pub support_carried : supports carried set bit ≡ (has_row carried bit && before)
    support_carried = both_ways (supports carried set bit) (has_row carried bit && before) into_carried out_of_carried

-- a bit without a row is not supported
pub no_support : (rows : List Row) (set : BitSet) (bit : ℕ) → has_row rows bit ≡ false → supports rows set bit ≡ false
no_support rows set bit none =
    false_from_ne_true (supports rows set bit)
    (λ is.
    let by = supporting rows set bit is in
    false≢true (sym none ∙ some_passes (λ (row : Row). row.bit == bit) rows by.row by.there (eq-eqb by.row.bit bit by.bit_is)))
