-- The rows support the bits of the facts that rules give, and no others.
use Rattle.std.proofs.Common.{ℕ, zero, suc, ◌≡◌, true, false, ◌&&◌, ◌==◌, ◌||◌, List, [], ◌∷◌, map, Some, refl, ap, sym, ◌∙◌, subst, eq-eqb}
use Rattle.std.specs.Cmp.{both_ways}
use Rattle.std.specs.List.{list_all}
use Rattle.std.specs.Option.{option_map_or}
use Rattle.std.specs.Prelude.{IsTrue, slice_get}
use Rattle.std.proofs.lemmas.Bool.{and_from, and_parts, false_from_ne_true, false≢true, or_left, or_right}
use Rattle.std.proofs.lemmas.Option.{same_Some}
use Rattle.rh_il.specs.declared.program.Proc.{Proc}
use Rattle.rh_il.specs.declared.program.Slot.{Slot}
use Rattle.rh_rule.specs.declared.rule.Conclusion.{Conclusion}
use Rattle.rh_rule.specs.declared.rule.Conclusion.TheVariants.{Fact, Transform}
use Rattle.rh_rule.specs.declared.rule.FactUse.{FactUse}
use Rattle.rh_rule.specs.declared.rule.Rule.{Rule}
use Rattle.rh_rule.specs.declared.rule.Ruling.{Ruling}
use Rattle.rh_rule.specs.declared.rule.Ruling.TheVariants.{Admitted, Refused}
use Rattle.rh_rule.specs.declared.schema.Schema.{Schema}
use Rattle.rh_rule.specs.RuleFiles.{IsRuleFile, Rules}
use Rattle.rh_domain.specs.declared.fact.FactAt.{FactAt}
use Rattle.rh_domain.specs.Binding.{Binding, bindings}
use Rattle.rh_ground.specs.Instance.{fact_under, is_instance}
use Rattle.rh_ground.specs.Rows.{IsRow, premises_at}
use Rattle.rh_ground.specs.SameFact.{is_fact_under}
use Rattle.rh_ground.proofs.Members.{IsItem, item_of_map}
use Rattle.rh_ground.proofs.SameFacts.{fact_eq-same, fact_eq-true}
use Rattle.rh_layout.specs.Bits.{IsBitOf}
use Rattle.rh_layout.proofs.FactBits.{one_fact}
use Rattle.rh_system.specs.Bits.{BitSet}
use Rattle.rh_system.specs.Rows.{supports}
use Rattle.rh_rows.specs.BitRows.{bit_of, rows_of}
use Rattle.rh_rows.specs.Known.{is_fact_of, known_by, slot_eq}
use Rattle.rh_rows.specs.Support.{gives, is_given, is_headed, rests_on, rule_gives, rules_give, some_gives}
use Rattle.rh_rows.proofs.BitNumbers.{bit_is}
use Rattle.rh_rows.proofs.Covered.{conclusion_has_bit, premises_have_bits}
use Rattle.rh_rows.proofs.GreatestFacts.{is_bit, supported_by, supporting}
use Rattle.rh_rows.proofs.Items.{contains_of_item, each_passes, in_map, item_of_contains, passes_item, some_item, some_passes}
use Rattle.rh_rows.proofs.ProgramFacts.{is_fact, slot_eq-same, slot_eq-true}
use Rattle.rh_rows.proofs.RowItems.{into_rows, out_of_rows}

-- ---- rules that give a fact

module _ (schemas : List Schema) (procs : List Proc) (set : BitSet) (at : FactAt) (proc : Proc) where
  -- how a rule gives the fact
  record IsGiven (rules : List Rule) (rulings : List Ruling) : Type 0 where
    pub number : ℕ
    pub rule : Rule
    pub concluded : FactUse
    pub slot : Slot
    pub binding : Binding
    pub rule_at : slice_get rules number ≡ Some rule
    pub admitted : slice_get rulings number ≡ Some Admitted
    pub concludes : rule.conclusion ≡ Fact concluded slot
    pub bound_by : IsItem binding (bindings proc rule.params)
    pub about : is_instance proc rule binding at.edge.node ≡ true
    pub fact_is : at.fact ≡ fact_under binding concluded
    pub slot_is : at.edge.slot ≡ slot
    pub rests : rests_on schemas procs set at proc rule binding ≡ true

  given_later : (rule : Rule) (rules : List Rule) (ruling : Ruling) (rulings : List Ruling) → IsGiven rules rulings → IsGiven (rule ∷ rules) (ruling ∷ rulings)
  given_later rule rules ruling rulings by = record {
    number = suc by.number;
    rule = by.rule;
    concluded = by.concluded;
    slot = by.slot;
    binding = by.binding;
    rule_at = by.rule_at;
    admitted = by.admitted;
    concludes = by.concludes;
    bound_by = by.bound_by;
    about = by.about;
    fact_is = by.fact_is;
    slot_is = by.slot_is;
    rests = by.rests;
  }

  given_by : (rule : Rule) (rules : List Rule) (ruling : Ruling) (rulings : List Ruling) (conclusion : Conclusion) → rule.conclusion ≡ conclusion
      → rule_gives schemas procs set at proc rule ruling conclusion ≡ true → IsGiven (rule ∷ rules) (ruling ∷ rulings)
  given_by rule rules Admitted rulings (Fact concluded slot) is given =
      let parts = and_parts (is_headed at concluded slot) (some_gives schemas procs set at proc rule concluded) given in
      let head = and_parts (concluded.schema == at.fact.schema) (slot_eq slot at.edge.slot) parts.0 in
      let found = some_item (gives schemas procs set at proc rule concluded) (bindings proc rule.params) parts.1 in
      let outer = and_parts (is_instance proc rule found.0 at.edge.node) (is_fact_under found.0 concluded at.fact.schema at.fact.args && rests_on schemas procs set at proc rule found.0) found.2 in
      let inner = and_parts (is_fact_under found.0 concluded at.fact.schema at.fact.args) (rests_on schemas procs set at proc rule found.0) outer.1 in
      record {
        number = 0;
        rule = rule;
        concluded = concluded;
        slot = slot;
        binding = found.0;
        rule_at = refl;
        admitted = refl;
        concludes = is;
        bound_by = found.1;
        about = outer.0;
        fact_is = sym (fact_eq-true (fact_under found.0 concluded) at.fact inner.0);
        slot_is = sym (slot_eq-true slot at.edge.slot head.1);
        rests = inner.1;
      }
  given_by rule rules Admitted rulings (Transform template) is given = absurd (false≢true given)
  given_by rule rules (Refused obligation) rulings conclusion is given = absurd (false≢true given)

  given : (rules : List Rule) (rulings : List Ruling) → rules_give schemas procs set at proc rules rulings ≡ true → IsGiven rules rulings
  given [] rulings is = absurd (false≢true is)
  given (rule ∷ rules) [] is = absurd (false≢true is)
  given (rule ∷ rules) (ruling ∷ rulings) is =
      elim (rule_gives schemas procs set at proc rule ruling rule.conclusion)
      as (λ b. rule_gives schemas procs set at proc rule ruling rule.conclusion ≡ b → (b || rules_give schemas procs set at proc rules rulings) ≡ true → IsGiven (rule ∷ rules) (ruling ∷ rulings)) [
        | true ↦ λ here told. given_by rule rules ruling rulings rule.conclusion refl here
        | false ↦ λ here told. given_later rule rules ruling rulings (given rules rulings told)
      ] refl is

  -- and the other way round
  by_conclusion : (rule : Rule) (concluded : FactUse) (slot : Slot) (binding : Binding) → IsItem binding (bindings proc rule.params) → is_instance proc rule binding at.edge.node ≡ true
      → at.fact ≡ fact_under binding concluded → at.edge.slot ≡ slot → rests_on schemas procs set at proc rule binding ≡ true
      → rule_gives schemas procs set at proc rule Admitted (Fact concluded slot) ≡ true
  by_conclusion rule concluded slot binding bound_by about fact_is slot_is rests =
      let schema = ap (λ (f : _). f.schema) fact_is in
      let headed = and_from (concluded.schema == at.fact.schema) (slot_eq slot at.edge.slot) (eq-eqb concluded.schema at.fact.schema (sym schema)) (ap (slot_eq slot) slot_is ∙ slot_eq-same slot) in
      let same = fact_eq-same (fact_under binding concluded) at.fact (sym fact_is) in
      and_from (is_headed at concluded slot) (some_gives schemas procs set at proc rule concluded) headed
      (some_passes (gives schemas procs set at proc rule concluded) (bindings proc rule.params) binding bound_by
      (and_from (is_instance proc rule binding at.edge.node) _ about (and_from (is_fact_under binding concluded at.fact.schema at.fact.args) (rests_on schemas procs set at proc rule binding) same rests)))

  among_rules : (rules : List Rule) (rulings : List Ruling) (number : ℕ) (rule : Rule) → slice_get rules number ≡ Some rule → slice_get rulings number ≡ Some Admitted
      → rule_gives schemas procs set at proc rule Admitted rule.conclusion ≡ true → rules_give schemas procs set at proc rules rulings ≡ true
  among_rules [] rulings number rule read admitted is = absurd cc
  among_rules (first ∷ rules) [] number rule read admitted is = absurd cc
  among_rules (first ∷ rules) (ruling ∷ rulings) zero rule read admitted is =
      or_left (rule_gives schemas procs set at proc first ruling first.conclusion) (rules_give schemas procs set at proc rules rulings)
      (ap (λ (r : Rule). rule_gives schemas procs set at proc r ruling r.conclusion) (same_Some first rule read)
      ∙ ap (λ (r : Ruling). rule_gives schemas procs set at proc rule r rule.conclusion) (same_Some ruling Admitted admitted) ∙ is)
  among_rules (first ∷ rules) (ruling ∷ rulings) (suc number) rule read admitted is =
      or_right (rule_gives schemas procs set at proc first ruling first.conclusion) (rules_give schemas procs set at proc rules rulings) (among_rules rules rulings number rule read admitted is)

-- ---- rows that support the bit of a fact

module _ (file : Rules) (rulings : List Ruling) (procs : List Proc) (is_file : IsRuleFile file) (set : BitSet) where
  -- the premises of a row are facts of the program
  all_known : (conclusion : FactAt) (premises : List FactAt) → IsRow file.rules rulings procs conclusion premises → list_all set (map (bit_of file.schemas procs) premises) ≡ true
      → list_all (known_by file.schemas procs set) premises ≡ true
  all_known conclusion premises is within =
      each_passes (known_by file.schemas procs set) premises
      (λ premise there. and_from (is_fact_of file.schemas procs premise) (set (bit_of file.schemas procs premise))
      (is_fact file.schemas procs premise (premises_have_bits file rulings procs is_file conclusion premises is premise there))
      (passes_item set (map (bit_of file.schemas procs) premises) (bit_of file.schemas procs premise) within (in_map (bit_of file.schemas procs) premise premises there)))

  all_bits : (premises : List FactAt) → list_all (known_by file.schemas procs set) premises ≡ true → list_all set (map (bit_of file.schemas procs) premises) ≡ true
  all_bits premises all =
      each_passes set (map (bit_of file.schemas procs) premises)
      (λ bit there.
      let found = item_of_map (bit_of file.schemas procs) bit premises there in
      ap set found.2
      ∙ (and_parts (is_fact_of file.schemas procs found.0) (set (bit_of file.schemas procs found.0)) (passes_item (known_by file.schemas procs set) premises found.0 all found.1)).1)

  -- a row of the bit is that of an instance, with a conclusion whose bit this is
  row_of : (bit : ℕ) → IsTrue (supports (rows_of file rulings procs) set bit)
      → (conclusion : FactAt) × (premises : List FactAt) × IsBitOf file.schemas procs bit conclusion × IsRow file.rules rulings procs conclusion premises × (list_all (known_by file.schemas procs set) premises ≡ true)
  row_of bit is =
      let by = supporting (rows_of file rulings procs) set bit is in
      let of = out_of_rows file rulings procs by.row by.there in
      let has = conclusion_has_bit file rulings procs is_file of.conclusion of.premises of.is in
      let same : bit_of file.schemas procs of.conclusion ≡ bit = sym of.bit_is ∙ by.bit_is in
      let within = sym (ap (list_all set) of.premises_are) ∙ by.within in (
        of.conclusion,
        of.premises,
        subst (λ b. IsBitOf file.schemas procs b of.conclusion) same (is_bit file rulings procs is_file of.conclusion has),
        of.is,
        all_known of.conclusion of.premises of.is within,
      )

  module _ (bit : ℕ) (at : FactAt) (proc : Proc) (is_bit_of : IsBitOf file.schemas procs bit at) (proc_at : slice_get procs at.proc ≡ Some proc) where
    into_given : IsTrue (supports (rows_of file rulings procs) set bit) → rules_give file.schemas procs set at proc file.rules rulings ≡ true
    into_given supported =
        let row = row_of bit supported in
        let same = one_fact file.schemas procs bit row.0 at row.2 is_bit_of in
        let is = subst (λ (c : FactAt). IsRow file.rules rulings procs c row.1) same row.3 in
        let proc_is : is.proc ≡ proc = same_Some is.proc proc (sym is.proc_at ∙ proc_at) in
        let node_is : at.edge.node ≡ is.node = ap (λ (f : FactAt). f.edge.node) is.conclusion_is in
        let gives_it = by_conclusion file.schemas procs set at is.proc is.rule is.fact is.slot is.binding (item_of_contains (bindings is.proc is.rule.params) is.binding is.instance.in_domain)
        (ap (is_instance is.proc is.rule is.binding) node_is ∙ is.instance.about) (ap (λ (f : FactAt). f.fact) is.conclusion_is) (ap (λ (f : FactAt). f.edge.slot) is.conclusion_is)
        (ap (λ node. list_all (known_by file.schemas procs set) (premises_at at.proc is.proc is.rule is.binding node)) node_is ∙ sym (ap (list_all (known_by file.schemas procs set)) is.premises_are) ∙ row.4) in
        among_rules file.schemas procs set at proc file.rules rulings is.number is.rule is.rule_at is.admitted
        (ap (rule_gives file.schemas procs set at proc is.rule Admitted) is.concludes ∙ subst (λ (p : Proc). rule_gives file.schemas procs set at p is.rule Admitted (Fact is.fact is.slot) ≡ true) proc_is gives_it)

    out_of_given : rules_give file.schemas procs set at proc file.rules rulings ≡ true → IsTrue (supports (rows_of file rulings procs) set bit)
    out_of_given is =
        let by = given file.schemas procs set at proc file.rules rulings is in
        let premises = premises_at at.proc proc by.rule by.binding at.edge.node in
        let row : IsRow file.rules rulings procs at premises = record {
          number = by.number;
          rule = by.rule;
          proc = proc;
          binding = by.binding;
          node = at.edge.node;
          fact = by.concluded;
          slot = by.slot;
          rule_at = by.rule_at;
          admitted = by.admitted;
          proc_at = proc_at;
          instance = record { in_domain = contains_of_item (bindings proc by.rule.params) by.binding by.bound_by; about = by.about };
          concludes = by.concludes;
          conclusion_is = λ i. record { proc = at.proc; edge = record { node = at.edge.node; slot = by.slot_is i }; fact = by.fact_is i };
          premises_are = refl;
        } in
        let bits = map (bit_of file.schemas procs) premises in
        supported_by (rows_of file rulings procs) set bit (record {
          row = record { bit = bit_of file.schemas procs at; premises = bits };
          there = into_rows file rulings procs (record { bit = bit_of file.schemas procs at; premises = bits }) (record { conclusion = at; premises = premises; is = row; bit_is = refl; premises_are = refl });
          bit_is = sym (bit_is file.schemas procs bit at is_bit_of);
          within = all_bits premises by.rests;
        })

pub support_is : (file : Rules) (rulings : List Ruling) (procs : List Proc) (set : BitSet) (bit : ℕ) (at : FactAt) → IsRuleFile file → IsBitOf file.schemas procs bit at
    → supports (rows_of file rulings procs) set bit ≡ is_given file rulings procs set at
support_is file rulings procs set bit at is_file is =
    both_ways (supports (rows_of file rulings procs) set bit) (rules_give file.schemas procs set at is.proc file.rules rulings)
    (into_given file rulings procs is_file set bit at is.proc is is.proc_at) (out_of_given file rulings procs is_file set bit at is.proc is is.proc_at)
    ∙ sym (ap (λ found. option_map_or (λ (proc : Proc). rules_give file.schemas procs set at proc file.rules rulings) found false) is.proc_at)

pub nothing_supported : (file : Rules) (rulings : List Ruling) (procs : List Proc) (set : BitSet) (bit : ℕ) → IsRuleFile file → ((at : FactAt) → ¬ IsBitOf file.schemas procs bit at)
    → supports (rows_of file rulings procs) set bit ≡ false
nothing_supported file rulings procs set bit is_file none =
    false_from_ne_true (supports (rows_of file rulings procs) set bit) (λ supported. let row = row_of file rulings procs is_file set bit supported in none row.0 row.2)
