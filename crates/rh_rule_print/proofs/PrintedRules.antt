-- Rules as they are printed.
use Rattle.std.proofs.Common.{◌≡◌, ℕ, true, List, [], ◌∷◌, ◌++◌, length, refl, ap, ◌∙◌, append_assoc}
use Rattle.std.specs.List.{flat_map, AllByRecursion}
use Rattle.rh_rule.specs.declared.schema.Schema.{Schema}
use Rattle.rh_rule.specs.declared.schema.Param.{Param}
use Rattle.rh_rule.specs.declared.rule.Form.{Form}
use Rattle.rh_rule.specs.declared.rule.Conclusion.{Conclusion}
use Rattle.rh_rule.specs.declared.rule.Conclusion.TheVariants.{Fact as ConcludesFact, Transform as ConcludesForm}
use Rattle.rh_rule.specs.declared.rule.Rule.{Rule}
use Rattle.rh_rule.specs.Words.{is_proper}
use Rattle.rh_rule.specs.Numbers.{are_below}
use Rattle.rh_rule.specs.Operands.{operands}
use Rattle.rh_rule.specs.Shapes.{is_pattern, is_statement}
use Rattle.rh_rule_source.specs.declared.word.Word.{Word}
use Rattle.rh_rule_source.specs.declared.word.Word.TheVariants.{Fixed, Lower}
use Rattle.rh_rule_source.specs.declared.source.SourceConclusion.TheVariants.{Fact as FactConclusion, Transform}
use Rattle.rh_rule_source.specs.Grammar.{AT, RULE, OPEN_PAREN, CLOSE_PAREN, OPEN_BRACE, CLOSE_BRACE, ARROW}
use Rattle.rh_rule_source.specs.Source.{form_words, conclusion_words, rule_words, params_words, pattern_words, when_words}
use Rattle.rh_rule_text.specs.Resolve.{rule_form, conclusion_of, rule_of, rule_pattern, premises_of, sides_of, metas_of}
use Rattle.rh_rule_text.specs.Unknown.{unknown_form, unknown_conclusion, unknown_rule, unknown_pattern, unknown_cond, first_of}
use Rattle.rh_rule_print.specs.Text.{conclusion_text, rule_text}
use Rattle.rh_rule.specs.Ranges.{NumbersFit}
use Rattle.rh_rule_source.proofs.SourceInRange.{FormInRange, ConclusionInRange, RuleInRange}
use Rattle.rh_rule_print.proofs.Prints.{Prints, Always, Ends, tells, behind, fixed_behind, fixed_before}
use Rattle.rh_rule_print.proofs.FixedTexts.{at_text, slot_printed, transform_text, rule_word_text, open_brace_text, close_brace_text, arrow_text}
use Rattle.rh_rule_print.proofs.PrintedNames.{lower_printed}
use Rattle.rh_rule_print.proofs.Tells.{Tells, both_known, led_printed}
use Rattle.rh_rule_print.proofs.PrintedBases.{AreMetas, names_of, params_printed}
use Rattle.rh_rule_print.proofs.PrintedFacts.{metas_named}
use Rattle.rh_rule_print.proofs.PrintedForms.{form_printed, pattern_printed, statement_is_form, statement_is_pattern}
use Rattle.rh_rule_print.proofs.PrintedConditions.{AreFacts, facts_of, UseFits, use_printed, SideFits, conditions_printed, conditions_end}

-- what is asked of what a rule concludes
pub record TemplateFits (params : List Param) (form : Form) : Type 0 where
  pub below : are_below (length params) (operands form) ≡ true
  pub statement : is_statement form ≡ true
  pub numbers : NumbersFit (operands form)

abbrev pub ConclusionFits : List Schema → List Param → Conclusion → Type 0
ConclusionFits schemas params (ConcludesFact fact slot) = UseFits schemas params fact
ConclusionFits schemas params (ConcludesForm form) = TemplateFits params form

-- what is asked of a rule
pub record RuleFits (schemas : List Schema) (rule : Rule) : Type 0 where
  pub name : is_proper rule.name ≡ true
  pub metas : AreMetas rule.params
  pub below : are_below (length rule.params) (operands rule.pattern) ≡ true
  pub shape : is_pattern rule.pattern ≡ true
  pub numbers : NumbersFit (operands rule.pattern)
  pub premises : AllByRecursion (UseFits schemas rule.params) rule.premises
  pub sides : AllByRecursion (SideFits rule.params) rule.sides
  pub conclusion : ConclusionFits schemas rule.params rule.conclusion

module _ (schemas : List Schema) (facts : AreFacts schemas) where
  abbrev names : List (List ℕ)
  names = facts_of schemas

  module _ (params : List Param) (metas : AreMetas params) where
    abbrev TellsConclusion : Conclusion → List Word → Type 0
    TellsConclusion = Tells conclusion_words (conclusion_of names (names_of params)) (unknown_conclusion names (names_of params)) ConclusionInRange

    conclusion_printed : (conclusion : Conclusion) → ConclusionFits schemas params conclusion → Prints Ends (conclusion_text schemas params conclusion) (TellsConclusion conclusion)
    conclusion_printed (ConcludesFact fact slot) fits =
        behind (slot_printed slot) (λ rest h. tt)
        (fixed_behind at_text (λ rest h. tt)
        (tells (use_printed schemas facts params metas fact fits)
        (λ v told w slot_same. record {
          source = FactConclusion told.source slot;
          same = append_assoc v (Fixed AT ∷ []) w ∙ (λ i. told.same i ++ (Fixed AT ∷ slot_same i));
          means = ap (λ fact. ConcludesFact fact slot) told.means;
          known = told.known;
          in_range = told.in_range;
        })))
    conclusion_printed (ConcludesForm form) fits =
        tells
        (led_printed form_words (rule_form (names_of params)) (unknown_form (names_of params)) FormInRange transform_text
        (form_printed params metas form (statement_is_form form fits.statement) fits.below (statement_is_pattern form fits.statement) fits.numbers))
        (λ w told. record { source = Transform told.source; same = told.same; means = ap ConcludesForm told.means; known = told.known; in_range = told.in_range })

  rule_arranged : (name : Word) (params pattern conditions conclusion : List Word)
      → (((((((Fixed RULE ∷ name ∷ []) ++ (Fixed OPEN_PAREN ∷ (params ++ (Fixed CLOSE_PAREN ∷ [])))) ++ (Fixed OPEN_BRACE ∷ [])) ++ pattern) ++ conditions) ++ (Fixed ARROW ∷ [])) ++ conclusion) ++ (Fixed CLOSE_BRACE ∷ [])
      ≡ Fixed RULE ∷ name ∷ Fixed OPEN_PAREN ∷ (params ++ (Fixed CLOSE_PAREN ∷ Fixed OPEN_BRACE ∷ ((pattern ++ (conditions ++ (Fixed ARROW ∷ conclusion))) ++ (Fixed CLOSE_BRACE ∷ []))))
  rule_arranged name params pattern conditions conclusion = simp append_assoc

  abbrev pub TellsRule : Rule → List Word → Type 0
  TellsRule = Tells rule_words (rule_of names) (unknown_rule names) RuleInRange

  pub rule_printed : (rule : Rule) → RuleFits schemas rule → Prints Always (rule_text schemas rule) (TellsRule rule)
  rule_printed rule fits =
      fixed_behind close_brace_text (λ rest h. refl)
      (behind (conclusion_printed rule.params fits.metas rule.conclusion fits.conclusion) (λ rest h. tt)
      (fixed_behind arrow_text (λ rest h. refl)
      (behind (conditions_printed schemas facts rule.params fits.metas rule.premises rule.sides fits.premises fits.sides) (conditions_end schemas facts rule.params fits.metas rule.premises rule.sides fits.premises fits.sides)
      (behind (pattern_printed rule.params fits.metas rule.pattern fits.below fits.shape fits.numbers) (λ rest h. tt)
      (fixed_behind open_brace_text (λ rest h. tt)
      (behind (params_printed rule.params fits.metas.proper) (λ rest h. refl)
      (fixed_before rule_word_text
      (tells (lower_printed rule.name fits.name)
      (λ v name w params u pattern x conditions y conclusion.
      let same_names = metas_named params.source rule.params params.means in
      let pattern_means : rule_pattern (metas_of params.source) pattern.source ≡ rule.pattern =
      ap (λ metas. rule_pattern metas pattern.source) same_names ∙ pattern.means in
      let premises_mean : flat_map (premises_of names (metas_of params.source)) conditions.source ≡ rule.premises =
      ap (λ metas. flat_map (premises_of names metas) conditions.source) same_names ∙ ap (λ both. both.0) conditions.means in
      let sides_mean : flat_map (sides_of (metas_of params.source)) conditions.source ≡ rule.sides =
      ap (λ metas. flat_map (sides_of metas) conditions.source) same_names ∙ ap (λ both. both.1) conditions.means in
      let conclusion_means : conclusion_of names (metas_of params.source) conclusion.source ≡ rule.conclusion =
      ap (λ metas. conclusion_of names metas conclusion.source) same_names ∙ conclusion.means in
      record {
        source = record { name = name.0; params = params.source; pattern = pattern.source; conds = conditions.source; conclusion = conclusion.source };
        same =
            (λ i. ((((((Fixed RULE ∷ name.1 i) ++ params.same i ++ (Fixed OPEN_BRACE ∷ [])) ++ pattern.same i) ++ conditions.same i) ++ (Fixed ARROW ∷ [])) ++ conclusion.same i) ++ (Fixed CLOSE_BRACE ∷ []))
            ∙ rule_arranged (Lower name.0) (params_words params.source) (pattern_words pattern.source) (when_words conditions.source) (conclusion_words conclusion.source);
        means = λ i. record { name = name.2 i; params = params.means i; pattern = pattern_means i; premises = premises_mean i; sides = sides_mean i; conclusion = conclusion_means i };
        known =
            both_known _ _ (ap (λ metas. unknown_pattern metas pattern.source) same_names ∙ pattern.known)
            (both_known _ _ (ap (λ metas. first_of (unknown_cond names metas) conditions.source) same_names ∙ conditions.known)
            (ap (λ metas. unknown_conclusion names metas conclusion.source) same_names ∙ conclusion.known));
        in_range = record { pattern = pattern.in_range; conds = conditions.in_range; conclusion = conclusion.in_range };
      })))))))))
