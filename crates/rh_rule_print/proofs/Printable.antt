-- A rule file that passes every check may be printed.
use Rattle.std.proofs.Common.{◌≡◌, ℕ, ◌≤◌, true, false, ◌==◌, List, [], ◌∷◌, length, Option, Some, None, refl, sym, ap, ◌∙◌, arith, ⊎_elim}
use Rattle.std.proofs.lemmas.Bool.{and_parts, or_cases, eqb-true, false≢true}
use Rattle.std.proofs.lemmas.Option.{slice_get_within}
use Rattle.std.specs.Prelude.{slice_get, nat_lt}
use Rattle.std.specs.List.{list_all, AllByRecursion}
use Rattle.std.specs.Option.{option_and_then, option_map_or}
use Rattle.rh_il.specs.Checks.{first_some}
use Rattle.rh_rule.specs.declared.schema.Param.{Param}
use Rattle.rh_rule.specs.declared.schema.Schema.{Schema}
use Rattle.rh_rule.specs.declared.rule.RuleBase.{RuleBase}
use Rattle.rh_rule.specs.declared.rule.RuleBase.TheVariants.{Meta, Num, Wild}
use Rattle.rh_rule.specs.declared.rule.Form.{Form}
use Rattle.rh_rule.specs.declared.rule.FactUse.{FactUse}
use Rattle.rh_rule.specs.declared.rule.SideTerm.TheVariants.{Plain, Compute}
use Rattle.rh_rule.specs.declared.rule.Side.{Side}
use Rattle.rh_rule.specs.declared.rule.Side.TheVariants.{Same, Differ}
use Rattle.rh_rule.specs.declared.rule.Conclusion.{Conclusion}
use Rattle.rh_rule.specs.declared.rule.Conclusion.TheVariants.{Fact, Transform}
use Rattle.rh_rule.specs.declared.rule.Rule.{Rule}
use Rattle.rh_rule.specs.Words.{is_proper, are_proper_params, schema_is_proper, rule_is_proper}
use Rattle.rh_rule.specs.Operands.{operands, term_operands, side_terms, is_wild}
use Rattle.rh_rule.specs.Numbers.{is_below, are_below, fact_is_below, side_is_below, conclusion_is_below, fact_has_arity, conclusion_has_arity}
use Rattle.rh_rule.specs.Kinds.{is_var_base, is_const_base, is_of_variables, is_of_numbers, side_has_kinds, form_has_kinds, fact_has_kinds}
use Rattle.rh_rule.specs.Shapes.{has_wild, is_pattern, is_statement, fact_has_shape, conclusion_has_shape}
use Rattle.rh_rule.specs.Checks.{schema_fault, rule_fault}
use Rattle.rh_rule.specs.RuleFiles.{FileNumbersFit, Rules, IsRuleFile, SchemaPassed, RulePassed}
use Rattle.rh_rule.proofs.Passed.{passed, schema_passed, rule_passed}
use Rattle.rh_list.proofs.AtPlace.{has_at, passes_at}
use Rattle.rh_rule.specs.Ranges.{NumberFits, NumbersFit, SchemaNumbersFit, UseNumbersFit, SideNumbersFit, ConclusionNumbersFit, RuleNumbersFit}
use Rattle.rh_rule_source.proofs.SourceInRange.{IsFilled}
use Rattle.rh_rule_print.proofs.Each.{not_true, each_has, each_passes, each_of_three, some_first}
use Rattle.rh_il.proofs.Passed.{none_at}
use Rattle.rh_rule_print.proofs.DistinctNames.{schema_params_distinct, rule_params_distinct, schemas_distinct}
use Rattle.rh_rule_print.proofs.PrintedFacts.{SchemaFits}
use Rattle.rh_rule_print.proofs.PrintedConditions.{UseFits, SideFits, BasesFit}
use Rattle.rh_rule_print.proofs.PrintedRules.{RuleFits, ConclusionFits}
use Rattle.rh_rule_print.proofs.PrintedFiles.{FileFits}

-- what is read of a list has no fault, where no place has
no_fault : {X Y : Type 0} (fault : ℕ → X → Option Y) (xs : List X) (i : ℕ) (x : X) → first_some (length xs) (λ k. option_and_then (fault k) (slice_get xs k)) ≡ None → slice_get xs i ≡ Some x → fault i x ≡ None
no_fault fault xs i x none read =
    ap (option_and_then (fault i)) (sym read) ∙ none_at (length xs) (λ k. option_and_then (fault k) (slice_get xs k)) i none (slice_get_within xs i x read)

-- ---- uses of facts

module _ (file : Rules) (is : IsRuleFile file) where
  some_args : (fact : FactUse) → fact_has_arity file.schemas fact ≡ true → IsFilled fact.args
  some_args fact arity = some_first fact.args (at (slice_get file.schemas fact.schema) refl arity)
    where
      at : (found : Option Schema) → slice_get file.schemas fact.schema ≡ found → option_map_or (λ (schema : Schema). length fact.args == length schema.params) found false ≡ true → 1 ≤ length fact.args
      at None read h = absurd (false≢true h)
      at (Some schema) read h =
          let same = eqb-true (length fact.args) (length schema.params) h in
          let some = (schema_passed file fact.schema schema is read).some_params in
          omega (arith, same, some)

  module _ (params : List Param) where
    use_fits : (fact : FactUse) → fact_is_below (length file.schemas) (length params) fact ≡ true → fact_has_arity file.schemas fact ≡ true → fact_has_shape fact ≡ true → UseNumbersFit fact → UseFits file.schemas params fact
    use_fits fact below arity shape numbers =
        let parts = and_parts (nat_lt fact.schema (length file.schemas)) (are_below (length params) fact.args) below in
        record { schema = parts.0; below = parts.1; plain = not_true (has_wild fact.args) shape; some_args = some_args fact arity; numbers = numbers }

    uses_fit : (facts : List FactUse) → list_all (fact_is_below (length file.schemas) (length params)) facts ≡ true → list_all (fact_has_arity file.schemas) facts ≡ true → list_all fact_has_shape facts ≡ true
        → AllByRecursion UseNumbersFit facts → AllByRecursion (UseFits file.schemas params) facts
    uses_fit [] below arity shape numbers = tt
    uses_fit (fact ∷ facts) below arity shape numbers =
        let b = and_parts _ (list_all (fact_is_below (length file.schemas) (length params)) facts) below in
        let a = and_parts _ (list_all (fact_has_arity file.schemas) facts) arity in
        let s = and_parts _ (list_all fact_has_shape facts) shape in
        (use_fits fact b.0 a.0 s.0 numbers.0, uses_fit facts b.1 a.1 s.1 numbers.1)

    -- ---- side conditions

    -- an operand of a side condition is no `_`
    var_is_plain : (base : RuleBase) → is_var_base params base ≡ true → is_wild base ≡ false
    var_is_plain (Meta meta) h = refl
    var_is_plain (Num number) h = refl
    var_is_plain Wild h = absurd (false≢true h)

    const_is_plain : (base : RuleBase) → is_const_base params base ≡ true → is_wild base ≡ false
    const_is_plain (Meta meta) h = refl
    const_is_plain (Num number) h = refl
    const_is_plain Wild h = absurd (false≢true h)

    abbrev ArePlain : List RuleBase → Type 0
    ArePlain bases = AllByRecursion (λ base. is_wild base ≡ false) bases

    abbrev SideIsPlain : Side → Type 0
    SideIsPlain side = ArePlain (term_operands (side_terms side).0) × ArePlain (term_operands (side_terms side).1)

    consts_plain : (bases : List RuleBase) → list_all (is_const_base params) bases ≡ true → ArePlain bases
    consts_plain [] h = tt
    consts_plain (base ∷ bases) h =
        let parts = and_parts (is_const_base params base) (list_all (is_const_base params) bases) h in
        (const_is_plain base parts.0, consts_plain bases parts.1)

    numbers_plain : (side : Side) → is_of_numbers params side ≡ true → SideIsPlain side
    numbers_plain side h =
        let parts = and_parts (list_all (is_const_base params) (term_operands (side_terms side).0)) (list_all (is_const_base params) (term_operands (side_terms side).1)) h in
        (consts_plain _ parts.0, consts_plain _ parts.1)

    variables_plain : (side : Side) → is_of_variables params side ≡ true → SideIsPlain side
    variables_plain (Differ (Plain a) (Plain b)) h =
        let parts = and_parts (is_var_base params a) (is_var_base params b) h in
        ((var_is_plain a parts.0, tt), (var_is_plain b parts.1, tt))
    variables_plain (Differ (Plain a) (Compute op left right)) h = absurd (false≢true h)
    variables_plain (Differ (Compute op left right) t) h = absurd (false≢true h)
    variables_plain (Same s t) h = absurd (false≢true h)

    side_plain : (side : Side) → side_has_kinds params side ≡ true → SideIsPlain side
    side_plain side h = ⊎_elim (variables_plain side) (numbers_plain side) (or_cases (is_of_variables params side) (is_of_numbers params side) h)

    bases_fit : (bases : List RuleBase) → are_below (length params) bases ≡ true → ArePlain bases → NumbersFit bases → BasesFit params bases
    bases_fit bases below plain numbers =
        each_of_three (λ base. is_below (length params) base ≡ true) (λ base. is_wild base ≡ false) NumberFits
        (λ base. (is_below (length params) base ≡ true) × (is_wild base ≡ false) × NumberFits base)
        (λ base b p n. (b, p, n)) bases (each_passes (is_below (length params)) bases below) plain numbers

    side_fits : (side : Side) → side_is_below (length params) side ≡ true → side_has_kinds params side ≡ true → SideNumbersFit side → SideFits params side
    side_fits side below kinds numbers =
        let parts = and_parts (are_below (length params) (term_operands (side_terms side).0)) (are_below (length params) (term_operands (side_terms side).1)) below in
        let plain = side_plain side kinds in
        (bases_fit _ parts.0 plain.0 numbers.0, bases_fit _ parts.1 plain.1 numbers.1)

    sides_fit : (sides : List Side) → list_all (side_is_below (length params)) sides ≡ true → list_all (side_has_kinds params) sides ≡ true → AllByRecursion SideNumbersFit sides → AllByRecursion (SideFits params) sides
    sides_fit [] below kinds numbers = tt
    sides_fit (side ∷ sides) below kinds numbers =
        let b = and_parts _ (list_all (side_is_below (length params)) sides) below in
        let k = and_parts _ (list_all (side_has_kinds params) sides) kinds in
        (side_fits side b.0 k.0 numbers.0, sides_fit sides b.1 k.1 numbers.1)

    -- ---- conclusions

    conclusion_fits : (pattern : Form) (conclusion : Conclusion) → conclusion_is_below (length file.schemas) (length params) conclusion ≡ true → conclusion_has_arity file.schemas conclusion ≡ true
        → conclusion_has_shape pattern conclusion ≡ true → ConclusionNumbersFit conclusion → ConclusionFits file.schemas params conclusion
    conclusion_fits pattern (Fact fact slot) below arity shape numbers = use_fits fact below arity shape numbers
    conclusion_fits pattern (Transform form) below arity shape numbers =
        let parts = and_parts (is_statement pattern) _ shape in
        let statement = and_parts (is_statement form) _ parts.1 in
        record { below = below; statement = statement.0; numbers = numbers }

  -- ---- schemas and rules

  names_proper : (list_all schema_is_proper file.schemas ≡ true) × (list_all rule_is_proper file.rules ≡ true)
  names_proper = and_parts (list_all schema_is_proper file.schemas) (list_all rule_is_proper file.rules) is.names

  schema_fits : (i : ℕ) (schema : Schema) → slice_get file.schemas i ≡ Some schema → SchemaNumbersFit schema → SchemaFits schema
  schema_fits i schema read numbers =
      let has : SchemaPassed schema = schema_passed file i schema is read in
      let proper = and_parts (is_proper schema.name) (are_proper_params schema.params) (passes_at schema_is_proper file.schemas i schema names_proper.0 read) in
      let none : schema_fault i schema ≡ None = no_fault schema_fault file.schemas i schema (passed file.schemas file.rules is.passes).each_schema read in
      record {
        name = proper.0;
        metas = record { few = has.few_params; proper = proper.1; distinct = schema_params_distinct i schema none };
        some_params = some_first schema.params has.some_params;
        some_atoms = some_first schema.meaning has.some_atoms;
        below = has.numbers;
        numbers = numbers;
      }

  rule_fits : (i : ℕ) (rule : Rule) → slice_get file.rules i ≡ Some rule → RuleNumbersFit rule → RuleFits file.schemas rule
  rule_fits i rule read numbers =
      let has : RulePassed file.schemas rule = rule_passed file i rule is read in
      let proper = and_parts (is_proper rule.name) (are_proper_params rule.params) (passes_at rule_is_proper file.rules i rule names_proper.1 read) in
      let none : rule_fault file.schemas i rule ≡ None = no_fault (rule_fault file.schemas) file.rules i rule (passed file.schemas file.rules is.passes).each_rule read in
      let in_pattern = and_parts (are_below (length rule.params) (operands rule.pattern)) _ has.numbers in
      let in_premises = and_parts (list_all (fact_is_below (length file.schemas) (length rule.params)) rule.premises) _ in_pattern.1 in
      let in_sides = and_parts (list_all (side_is_below (length rule.params)) rule.sides) _ in_premises.1 in
      let arity = and_parts (list_all (fact_has_arity file.schemas) rule.premises) _ has.arity in
      let shape = and_parts (is_pattern rule.pattern) _ has.shape in
      let shapes = and_parts (list_all fact_has_shape rule.premises) _ shape.1 in
      let kinds = and_parts (form_has_kinds rule.params rule.pattern) _ has.kinds in
      let premise_kinds = and_parts (list_all (fact_has_kinds file.schemas rule.params) rule.premises) _ kinds.1 in
      let side_kinds = and_parts (list_all (side_has_kinds rule.params) rule.sides) _ premise_kinds.1 in
      record {
        name = proper.0;
        metas = record { few = has.params; proper = proper.1; distinct = rule_params_distinct file.schemas i rule none };
        below = in_pattern.0;
        shape = shape.0;
        numbers = numbers.pattern;
        premises = uses_fit rule.params rule.premises in_premises.0 arity.0 shapes.0 numbers.premises;
        sides = sides_fit rule.params rule.sides in_sides.0 side_kinds.0 numbers.sides;
        conclusion = conclusion_fits rule.params rule.pattern rule.conclusion in_sides.1 arity.1 shapes.1 numbers.conclusion;
      }

  pub file_fits : FileNumbersFit file → FileFits file
  file_fits numbers = record {
    facts = record {
      few = (passed file.schemas file.rules is.passes).few_schemas;
      proper = names_proper.0;
      distinct = schemas_distinct file.schemas file.rules is.passes;
    };
    schemas = each_has SchemaFits file.schemas (λ i schema read. schema_fits i schema read (has_at SchemaNumbersFit file.schemas i schema numbers.schemas read));
    rules = each_has (RuleFits file.schemas) file.rules (λ i rule read. rule_fits i rule read (has_at RuleNumbersFit file.rules i rule numbers.rules read));
  }
