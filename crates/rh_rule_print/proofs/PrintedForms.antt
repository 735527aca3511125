-- Forms of statements, as they are printed in patterns and templates.
use Rattle.std.proofs.Common.{◌≡◌, ℕ, Bool, true, false, not, ◌&&◌, ◌||◌, List, [], ◌∷◌, ◌++◌, length, codes, refl, sym, ap, ◌∙◌, append_assoc}
use Rattle.std.proofs.lemmas.Bool.{and_parts, false≢true}
use Rattle.std.specs.Prelude.{nat_lt}
use Rattle.rh_rule.specs.declared.schema.Param.{Param}
use Rattle.rh_rule.specs.declared.rule.RuleBase.{RuleBase}
use Rattle.rh_rule.specs.declared.rule.Form.{Form as RuleForm}
use Rattle.rh_rule.specs.declared.rule.Form.TheVariants.{Entry as EntryForm, Goto as GotoForm, Skip as SkipForm, AnyAssign as AnyAssignForm, Assign as AssignForm, Address as AddressForm, Load as LoadForm, Compute as ComputeForm, Write as WriteForm, New as NewForm, Call as CallForm, If as IfForm, Return as ReturnForm}
use Rattle.rh_rule.specs.Numbers.{is_below, are_below}
use Rattle.rh_rule.specs.Operands.{operands, is_wild}
use Rattle.rh_rule.specs.Shapes.{is_pattern, is_statement}
use Rattle.rh_rule_source.specs.declared.word.Word.{Word}
use Rattle.rh_rule_source.specs.declared.word.Word.TheVariants.{Fixed, Upper}
use Rattle.rh_rule_source.specs.declared.source.SourceRight.TheVariants.{Any, New, Address as AddressRight, Load, Call, Plain as PlainRight, Compute as ComputedRight}
use Rattle.rh_rule_source.specs.declared.source.SourceForm.TheVariants.{Skip, Write, If, Return, Assign}
use Rattle.rh_rule_source.specs.declared.source.SourcePattern.TheVariants.{Entry, Goto, Form}
use Rattle.rh_rule_source.specs.Grammar.{BECOMES, STAR}
use Rattle.rh_rule_source.specs.Source.{operand_words, right_words, form_words, pattern_words}
use Rattle.rh_rule_text.specs.Resolve.{place_of, rule_operand, rule_base, assigned, rule_form, rule_pattern}
use Rattle.rh_rule_text.specs.Unknown.{unknown, unknown_operand, unknown_right, unknown_form, unknown_pattern}
use Rattle.rh_rule_print.specs.Text.{to_text, form_text, operand_text, param_name}
use Rattle.rh_rule.specs.Ranges.{NumberFits, NumbersFit}
use Rattle.rh_rule_source.proofs.SourceInRange.{OperandInRange, RightInRange, FormInRange, PatternInRange}
use Rattle.rh_rule_print.proofs.Each.{not_true}
use Rattle.rh_rule_print.proofs.Prints.{Prints, Exactly, Always, Ends, tells, as_text, behind, fixed_behind, fixed_before, anywhere}
use Rattle.rh_rule_print.proofs.FixedTexts.{ampersand_text, star_text, underscore_text, becomes_text, call_text, new_text, if_text, return_text, skip_text, goto_text, entry_text}
use Rattle.rh_rule_print.proofs.Tells.{Tells, Led, both_known, led_printed, bracketed_printed}
use Rattle.rh_rule_print.proofs.PrintedBases.{AreMetas, names_of, meta_printed, base_printed, operand_printed, operation_printed}

-- a form that a template may have too
abbrev pub IsForm : RuleForm → Type 0
IsForm (EntryForm param) = ⊥
IsForm GotoForm = ⊥
IsForm form = Unit {0}

module _ (params : List Param) (metas : AreMetas params) where
  -- what stands to the right of `:=`, with the form that it makes of a variable
  abbrev TellsRight : (ℕ → RuleForm) → List Word → Type 0
  TellsRight = Tells right_words (λ right to. assigned (names_of params) to right) (unknown_right (names_of params)) RightInRange

  abbrev pub TellsForm : RuleForm → List Word → Type 0
  TellsForm = Tells form_words (rule_form (names_of params)) (unknown_form (names_of params)) FormInRange

  assign_printed : {allowed : List ℕ → Type 0} {text : List ℕ} (make : ℕ → RuleForm) (to : ℕ) → nat_lt to (length params) ≡ true → Prints allowed text (TellsRight make) → Prints allowed (to_text params to ++ text) (TellsForm (make to))
  assign_printed make to below right =
      behind right (λ rest h. tt)
      (fixed_behind becomes_text (λ rest h. refl)
      (tells (meta_printed params metas to below)
      (λ v to w right. record {
        source = Assign to.source right.source;
        same = λ i. (to.same i ++ (Fixed BECOMES ∷ [])) ++ right.same i;
        means = λ i. right.means i (to.means i);
        known = both_known _ _ to.known right.known;
        in_range = right.in_range;
      })))

  -- a part after `:=` that itself has two parts
  regrouped : {allowed : List ℕ → Type 0} {P : List Word → Type 0} (a b c : List ℕ) → Prints allowed (a ++ (b ++ c)) P → Prints allowed (a ++ b ++ c) P
  regrouped a b c part = as_text (sym (append_assoc a b c)) part

  call_printed : (arg : RuleBase) → is_below (length params) arg ≡ true → NumberFits arg → Prints Always (codes "call(" ++ operand_text params arg ++ codes ")") (TellsRight (λ to. CallForm to arg))
  call_printed arg below fits =
      tells
      (bracketed_printed operand_words (rule_operand (names_of params)) (unknown_operand (names_of params)) OperandInRange call_text (operand_printed params metas arg below fits))
      (λ w told. record { source = Call told.source; same = told.same; means = ap (λ arg to. CallForm to arg) told.means; known = told.known; in_range = told.in_range })

  -- a word before an operand
  led_operand : {lead : List ℕ} {words : List Word} → Prints Always lead (Exactly words) → (base : RuleBase) → is_below (length params) base ≡ true → NumberFits base
      → Prints Ends (lead ++ operand_text params base) (Led operand_words (rule_operand (names_of params)) (unknown_operand (names_of params)) OperandInRange words base)
  led_operand lead base below fits = led_printed operand_words (rule_operand (names_of params)) (unknown_operand (names_of params)) OperandInRange lead (operand_printed params metas base below fits)

  -- a sign before a metavariable
  led_meta : {lead : List ℕ} {words : List Word} → Prints Always lead (Exactly words) → (number : ℕ) → nat_lt number (length params) ≡ true
      → Prints Ends (lead ++ param_name params number) (Led (λ s. Upper s ∷ []) (place_of (names_of params)) (unknown (names_of params)) (λ s. Unit) words number)
  led_meta lead number below = led_printed (λ s. Upper s ∷ []) (place_of (names_of params)) (unknown (names_of params)) (λ s. Unit) lead (meta_printed params metas number below)

  pub form_printed : (form : RuleForm) → IsForm form → are_below (length params) (operands form) ≡ true → is_pattern form ≡ true → NumbersFit (operands form) → Prints Ends (form_text params form) (TellsForm form)
  form_printed (EntryForm param) is below shape fits = absurd is
  form_printed GotoForm is below shape fits = absurd is
  form_printed SkipForm is below shape fits =
      tells skip_text (λ w same. record { source = Skip; same = same; means = refl; known = refl; in_range = tt })
  form_printed (AnyAssignForm to) is below shape fits =
      assign_printed AnyAssignForm to (and_parts _ _ below).0
      (anywhere (tells underscore_text (λ w same. record { source = Any; same = same; means = refl; known = refl; in_range = tt })))
  form_printed (AssignForm to from) is below shape fits =
      let parts = and_parts _ _ below in
      assign_printed (λ to. AssignForm to from) to parts.0
      (tells (base_printed params metas from (and_parts _ _ parts.1).0 (not_true (is_wild from) shape) fits.1.0)
      (λ w told. record { source = PlainRight told.source; same = told.same; means = ap (λ base to. AssignForm to base) told.means; known = told.known; in_range = told.in_range }))
  form_printed (AddressForm to of) is below shape fits =
      let parts = and_parts _ _ below in
      regrouped (to_text params to) (codes "&") (param_name params of)
      (assign_printed (λ to. AddressForm to of) to parts.0
      (tells (led_meta ampersand_text of (and_parts _ _ parts.1).0)
      (λ w told. record { source = AddressRight told.source; same = told.same; means = ap (λ of to. AddressForm to of) told.means; known = told.known; in_range = tt })))
  form_printed (LoadForm to from) is below shape fits =
      let parts = and_parts _ _ below in
      regrouped (to_text params to) (codes "*") (param_name params from)
      (assign_printed (λ to. LoadForm to from) to parts.0
      (tells (led_meta star_text from (and_parts _ _ parts.1).0)
      (λ w told. record { source = Load told.source; same = told.same; means = ap (λ from to. LoadForm to from) told.means; known = told.known; in_range = tt })))
  form_printed (ComputeForm to op left right) is below shape fits =
      let parts = and_parts _ _ below in
      let others = and_parts _ _ parts.1 in
      let plain = and_parts (not (is_wild left)) (not (is_wild right)) shape in
      assign_printed (λ to. ComputeForm to op left right) to parts.0
      (tells
      (operation_printed (names_of params) (rule_base (names_of params)) left op right
      (base_printed params metas left others.0 (not_true (is_wild left) plain.0) fits.1.0)
      (base_printed params metas right (and_parts _ _ others.1).0 (not_true (is_wild right) plain.1) fits.1.1.0))
      (λ w told. record {
        source = ComputedRight told.source;
        same = told.same;
        means = ap (λ parts to. ComputeForm to parts.1 parts.0 parts.2) told.means;
        known = told.known;
        in_range = told.in_range;
      }))
  form_printed (WriteForm to from) is below shape fits =
      let parts = and_parts _ _ below in
      behind (operand_printed params metas from (and_parts _ _ parts.1).0 fits.1.0) (λ rest h. tt)
      (fixed_before star_text
      (fixed_behind becomes_text (λ rest h. refl)
      (tells (meta_printed params metas to parts.0)
      (λ v to w from. record {
        source = Write to.source from.source;
        same = λ i. Fixed STAR ∷ ((to.same i ++ (Fixed BECOMES ∷ [])) ++ from.same i);
        means = λ i. WriteForm (to.means i) (from.means i);
        known = both_known _ _ to.known from.known;
        in_range = from.in_range;
      }))))
  form_printed (NewForm to) is below shape fits =
      assign_printed NewForm to (and_parts _ _ below).0
      (tells new_text (λ w same. record { source = New; same = same; means = refl; known = refl; in_range = tt }))
  form_printed (CallForm to arg) is below shape fits =
      let parts = and_parts _ _ below in
      anywhere
      (as_text (sym (append_assoc (to_text params to ++ codes "call(") (operand_text params arg) (codes ")") ∙ append_assoc (to_text params to) (codes "call(") (operand_text params arg ++ codes ")")))
      (assign_printed (λ to. CallForm to arg) to parts.0 (call_printed arg (and_parts _ _ parts.1).0 fits.1.0)))
  form_printed (IfForm condition) is below shape fits =
      tells (led_operand if_text condition (and_parts _ _ below).0 fits.0)
      (λ w told. record { source = If told.source; same = told.same; means = ap IfForm told.means; known = told.known; in_range = told.in_range })
  form_printed (ReturnForm value) is below shape fits =
      tells (led_operand return_text value (and_parts _ _ below).0 fits.0)
      (λ w told. record { source = Return told.source; same = told.same; means = ap ReturnForm told.means; known = told.known; in_range = told.in_range })

  abbrev pub TellsPattern : RuleForm → List Word → Type 0
  TellsPattern = Tells pattern_words (rule_pattern (names_of params)) (unknown_pattern (names_of params)) PatternInRange

  of_form : (form : RuleForm) → IsForm form → are_below (length params) (operands form) ≡ true → is_pattern form ≡ true → NumbersFit (operands form) → Prints Ends (form_text params form) (TellsPattern form)
  of_form form is below shape fits =
      tells (form_printed form is below shape fits)
      (λ w told. record { source = Form told.source; same = told.same; means = told.means; known = told.known; in_range = told.in_range })

  pub pattern_printed : (form : RuleForm) → are_below (length params) (operands form) ≡ true → is_pattern form ≡ true → NumbersFit (operands form) → Prints Ends (form_text params form) (TellsPattern form)
  pattern_printed (EntryForm param) below shape fits =
      tells
      (anywhere (bracketed_printed (λ s. Upper s ∷ []) (place_of (names_of params)) (unknown (names_of params)) (λ s. Unit) entry_text (meta_printed params metas param (and_parts _ _ below).0)))
      (λ w told. record { source = Entry told.source; same = told.same; means = ap EntryForm told.means; known = told.known; in_range = tt })
  pattern_printed GotoForm below shape fits =
      tells goto_text (λ w same. record { source = Goto; same = same; means = refl; known = refl; in_range = tt })
  pattern_printed SkipForm below shape fits = of_form SkipForm tt below shape fits
  pattern_printed (AnyAssignForm to) below shape fits = of_form (AnyAssignForm to) tt below shape fits
  pattern_printed (AssignForm to from) below shape fits = of_form (AssignForm to from) tt below shape fits
  pattern_printed (AddressForm to of) below shape fits = of_form (AddressForm to of) tt below shape fits
  pattern_printed (LoadForm to from) below shape fits = of_form (LoadForm to from) tt below shape fits
  pattern_printed (ComputeForm to op left right) below shape fits = of_form (ComputeForm to op left right) tt below shape fits
  pattern_printed (WriteForm to from) below shape fits = of_form (WriteForm to from) tt below shape fits
  pattern_printed (NewForm to) below shape fits = of_form (NewForm to) tt below shape fits
  pattern_printed (CallForm to arg) below shape fits = of_form (CallForm to arg) tt below shape fits
  pattern_printed (IfForm condition) below shape fits = of_form (IfForm condition) tt below shape fits
  pattern_printed (ReturnForm value) below shape fits = of_form (ReturnForm value) tt below shape fits

-- ---- templates

-- the form of a template may stand after `transform`, with no `_` where no pattern has one
pub statement_is_form : (form : RuleForm) → is_statement form ≡ true → IsForm form
statement_is_form (EntryForm param) h = absurd (false≢true h)
statement_is_form GotoForm h = absurd (false≢true h)
statement_is_form SkipForm h = tt
statement_is_form (AnyAssignForm to) h = tt
statement_is_form (AssignForm to from) h = tt
statement_is_form (AddressForm to of) h = tt
statement_is_form (LoadForm to from) h = tt
statement_is_form (ComputeForm to op left right) h = tt
statement_is_form (WriteForm to from) h = tt
statement_is_form (NewForm to) h = tt
statement_is_form (CallForm to arg) h = tt
statement_is_form (IfForm condition) h = tt
statement_is_form (ReturnForm value) h = tt

-- with neither there is not the first, and not the second
neither : (a b : Bool) → not (a || (b || false)) ≡ true → (not a && not b) ≡ true
neither true b h = h
neither false true h = h
neither false false h = refl

alone : (a : Bool) → not (a || false) ≡ true → not a ≡ true
alone true h = h
alone false h = refl

pub statement_is_pattern : (form : RuleForm) → is_statement form ≡ true → is_pattern form ≡ true
statement_is_pattern (EntryForm param) h = refl
statement_is_pattern GotoForm h = refl
statement_is_pattern SkipForm h = refl
statement_is_pattern (AnyAssignForm to) h = refl
statement_is_pattern (AssignForm to from) h = alone (is_wild from) h
statement_is_pattern (AddressForm to of) h = refl
statement_is_pattern (LoadForm to from) h = refl
statement_is_pattern (ComputeForm to op left right) h = neither (is_wild left) (is_wild right) h
statement_is_pattern (WriteForm to from) h = refl
statement_is_pattern (NewForm to) h = refl
statement_is_pattern (CallForm to arg) h = refl
statement_is_pattern (IfForm condition) h = refl
statement_is_pattern (ReturnForm value) h = refl
