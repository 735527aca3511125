-- Rules are spelled in one way.
use Rattle.std.proofs.Common.{◌≡◌, ℕ, ◌==◌, true, false, if◌then◌else◌, List, [], ◌∷◌, ◌++◌, refl, sym, ap, ◌∙◌, append_assoc, arith}
use Rattle.rh_il.specs.declared.program.Slot.{Slot}
use Rattle.rh_il.specs.declared.program.Slot.TheVariants.{Out, Then, Else}
use Rattle.rh_rule_source.specs.declared.word.Word.{Word}
use Rattle.rh_rule_source.specs.declared.word.Word.TheVariants.{Fixed}
use Rattle.rh_rule_source.specs.declared.source.SourceBase.TheVariants.{Named, Num}
use Rattle.rh_rule_source.specs.declared.source.SourceSide.{SourceSide}
use Rattle.rh_rule_source.specs.declared.source.SourceSide.TheVariants.{Plain as PlainSide, Compute as ComputedSide}
use Rattle.rh_rule_source.specs.declared.source.SourceCond.{SourceCond}
use Rattle.rh_rule_source.specs.declared.source.SourceCond.TheVariants.{Fact as FactCond, Side}
use Rattle.rh_rule_source.specs.declared.source.SourceConclusion.{SourceConclusion}
use Rattle.rh_rule_source.specs.declared.source.SourceConclusion.TheVariants.{Fact as FactConclusion, Transform}
use Rattle.rh_rule_source.specs.declared.source.SourceRule.{SourceRule}
use Rattle.rh_rule_source.specs.Grammar.{ARROW, COMMA, OPEN_PAREN, CLOSE_PAREN, OPEN_BRACE, CLOSE_BRACE, AT, IN, OUT, THEN, TRANSFORM, LOWER}
use Rattle.rh_rule_source.specs.Source.{base_words, args_words, use_words, side_words, relation_word, cond_words, when_words, slot_word, conclusion_words, pattern_words, body_words, rule_words}
use Rattle.rh_rule_source.proofs.OneWay.{Same, OneWay, OneWayBefore, NoneBegins, class_in, first_class, first_word, other_words, one_lower, in_turn, from_word, one_joined, one_separated}
use Rattle.rh_rule_source.proofs.OneOperand.{one_base, one_computed}
use Rattle.rh_rule_source.proofs.OneFact.{one_relation, one_params}
use Rattle.rh_rule_source.proofs.OneForm.{NoOperator, one_form, one_pattern}

no_arg : (r : List Word) → NoneBegins base_words (Fixed CLOSE_PAREN ∷ r)
no_arg r (Named name) ws e = absurd cc
no_arg r (Num true size) ws e = absurd cc
no_arg r (Num false size) ws e = absurd cc

one_use : OneWay use_words
one_use a b r s e =
    let name = one_lower a.name b.name (first_word _ _ _ _ e) in
    let args = one_separated base_words one_base (Fixed COMMA) a.args b.args (Fixed CLOSE_PAREN ∷ r) (Fixed CLOSE_PAREN ∷ s)
    (λ ws e. absurd cc) (λ ws e. absurd cc) (no_arg r) (no_arg s)
    (in_turn (args_words a.args) (Fixed CLOSE_PAREN ∷ []) r (args_words b.args) (Fixed CLOSE_PAREN ∷ []) s (other_words _ _ _ _ (other_words _ _ _ _ e))) in
    record { value = λ i. record { name = name i; args = args.value i }; rest = other_words _ _ _ _ args.rest }

abbrev side_shape : SourceSide → ℕ
side_shape (PlainSide base) = 0
side_shape (ComputedSide operation) = 1

abbrev side_begins : List Word → ℕ
side_begins ws = if first_class ws == OPEN_PAREN then 1 else 0

side_told : (x : SourceSide) (r : List Word) → side_begins (side_words x ++ r) ≡ side_shape x
side_told (PlainSide (Named name)) r = refl
side_told (PlainSide (Num true size)) r = refl
side_told (PlainSide (Num false size)) r = refl
side_told (ComputedSide operation) r = refl

one_side : OneWay side_words
one_side (PlainSide a) (PlainSide b) r s e =
    let base = one_base a b r s e in
    record { value = ap PlainSide base.value; rest = base.rest }
one_side (ComputedSide a) (ComputedSide b) r s e =
    let operation = one_computed a b r s e in
    record { value = ap ComputedSide operation.value; rest = operation.rest }
one_side a b r s e =
    let shapes : side_shape a ≡ side_shape b = sym (side_told a r) ∙ ap side_begins e ∙ side_told b s in
    absurd (omega arith)

abbrev cond_shape : SourceCond → ℕ
cond_shape (FactCond u) = 1
cond_shape (Side left relation right) = 0

-- told by the first word; at `=>` there is none
abbrev cond_begins : List Word → ℕ
cond_begins ws = if first_class ws == LOWER then 1 else (if first_class ws == ARROW then 2 else 0)

cond_told : (x : SourceCond) (r : List Word) → cond_begins (cond_words x ++ r) ≡ cond_shape x
cond_told (FactCond u) r = refl
cond_told (Side (PlainSide (Named name)) relation right) r = refl
cond_told (Side (PlainSide (Num true size)) relation right) r = refl
cond_told (Side (PlainSide (Num false size)) relation right) r = refl
cond_told (Side (ComputedSide operation) relation right) r = refl

one_cond : OneWay cond_words
one_cond (FactCond a) (FactCond b) r s e =
    let fact = one_use a b (Fixed AT ∷ Fixed IN ∷ r) (Fixed AT ∷ Fixed IN ∷ s)
    (in_turn (use_words a) (Fixed AT ∷ Fixed IN ∷ []) r (use_words b) (Fixed AT ∷ Fixed IN ∷ []) s e) in
    record { value = ap FactCond fact.value; rest = other_words _ _ _ _ (other_words _ _ _ _ fact.rest) }
one_cond (Side left relation right) (Side left' relation' right') r s e =
    let parts = one_joined side_words relation_word side_words one_side one_relation one_side left left' relation relation' right right' r s e in
    record { value = λ i. Side (parts.left i) (parts.middle i) (parts.right i); rest = parts.rest }
one_cond a b r s e =
    let shapes : cond_shape a ≡ cond_shape b = sym (cond_told a r) ∙ ap cond_begins e ∙ cond_told b s in
    absurd (omega arith)

shape_is_no_arrow : (x : SourceCond) → cond_shape x ≡ 2 → ⊥
shape_is_no_arrow (FactCond u) e = absurd (omega arith)
shape_is_no_arrow (Side left relation right) e = absurd (omega arith)

no_cond : (r : List Word) → NoneBegins cond_words (Fixed ARROW ∷ r)
no_cond r x ws e = shape_is_no_arrow x (sym (cond_told x ws) ∙ ap cond_begins (sym e))

-- conditions before `=>`
one_when : (xs ys : List SourceCond) (r s : List Word) → when_words xs ++ Fixed ARROW ∷ r ≡ when_words ys ++ Fixed ARROW ∷ s → Same xs ys r s
one_when [] [] r s e = record { value = refl; rest = other_words _ _ _ _ e }
one_when [] (y ∷ ys) r s e = absurd cc
one_when (x ∷ xs) [] r s e = absurd cc
one_when (x ∷ xs) (y ∷ ys) r s e =
    let conds = one_separated cond_words one_cond (Fixed COMMA) (x ∷ xs) (y ∷ ys) (Fixed ARROW ∷ r) (Fixed ARROW ∷ s)
    (λ ws e. absurd cc) (λ ws e. absurd cc) (no_cond r) (no_cond s) (other_words _ _ _ _ e) in
    record { value = conds.value; rest = other_words _ _ _ _ conds.rest }

abbrev slot_of : ℕ → Slot
slot_of class = if class == OUT then Out else (if class == THEN then Then else Else)

slot_back : (slot : Slot) → slot_of (class_in (slot_word slot)) ≡ slot
slot_back Out = refl
slot_back Then = refl
slot_back Else = refl

abbrev conclusion_shape : SourceConclusion → ℕ
conclusion_shape (FactConclusion u slot) = 0
conclusion_shape (Transform form) = 1

abbrev conclusion_begins : List Word → ℕ
conclusion_begins ws = if first_class ws == TRANSFORM then 1 else 0

conclusion_told : (x : SourceConclusion) (r : List Word) → conclusion_begins (conclusion_words x ++ r) ≡ conclusion_shape x
conclusion_told (FactConclusion u slot) r = refl
conclusion_told (Transform form) r = refl

one_conclusion : OneWayBefore NoOperator conclusion_words
one_conclusion (FactConclusion a slot) (FactConclusion b slot') r s none_r none_s e =
    let fact = one_use a b (Fixed AT ∷ slot_word slot ∷ r) (Fixed AT ∷ slot_word slot' ∷ s)
    (in_turn (use_words a) (Fixed AT ∷ slot_word slot ∷ []) r (use_words b) (Fixed AT ∷ slot_word slot' ∷ []) s e) in
    let behind = other_words _ _ _ _ fact.rest in
    let told = from_word slot_word slot_of slot_back slot slot' (first_word _ _ _ _ behind) in
    record { value = λ i. FactConclusion (fact.value i) (told i); rest = other_words _ _ _ _ behind }
one_conclusion (Transform a) (Transform b) r s none_r none_s e =
    let form = one_form a b r s none_r none_s (other_words _ _ _ _ e) in
    record { value = ap Transform form.value; rest = form.rest }
one_conclusion a b r s none_r none_s e =
    let shapes : conclusion_shape a ≡ conclusion_shape b = sym (conclusion_told a r) ∙ ap conclusion_begins e ∙ conclusion_told b s in
    absurd (omega arith)

-- what follows a pattern
none_behind : (conds : List SourceCond) (r : List Word) → NoOperator (when_words conds ++ Fixed ARROW ∷ r)
none_behind [] r = refl
none_behind (x ∷ xs) r = refl

record SameBody (a b : SourceRule) (r s : List Word) : Type 0 where
  pattern : a.pattern ≡ b.pattern
  conds : a.conds ≡ b.conds
  conclusion : a.conclusion ≡ b.conclusion
  rest : r ≡ s

one_body : (a b : SourceRule) (r s : List Word) → NoOperator r → NoOperator s → body_words a ++ r ≡ body_words b ++ s → SameBody a b r s
one_body a b r s none_r none_s e =
    let ended = λ (x : SourceRule). when_words x.conds ++ Fixed ARROW ∷ conclusion_words x.conclusion in
    let after = λ (x : SourceRule) (ws : List Word). when_words x.conds ++ Fixed ARROW ∷ (conclusion_words x.conclusion ++ ws) in
    let pattern = one_pattern a.pattern b.pattern (after a r) (after b s)
    (none_behind a.conds (conclusion_words a.conclusion ++ r)) (none_behind b.conds (conclusion_words b.conclusion ++ s))
    (ap (λ (ws : List Word). pattern_words a.pattern ++ ws) (sym (append_assoc (when_words a.conds) (Fixed ARROW ∷ conclusion_words a.conclusion) r))
    ∙ in_turn (pattern_words a.pattern) (ended a) r (pattern_words b.pattern) (ended b) s e
    ∙ ap (λ (ws : List Word). pattern_words b.pattern ++ ws) (append_assoc (when_words b.conds) (Fixed ARROW ∷ conclusion_words b.conclusion) s)) in
    let conds = one_when a.conds b.conds (conclusion_words a.conclusion ++ r) (conclusion_words b.conclusion ++ s) pattern.rest in
    let conclusion = one_conclusion a.conclusion b.conclusion r s none_r none_s conds.rest in
    record { pattern = pattern.value; conds = conds.value; conclusion = conclusion.value; rest = conclusion.rest }

pub one_rule : OneWay rule_words
one_rule a b r s e =
    let behind = λ (x : SourceRule). body_words x ++ Fixed CLOSE_BRACE ∷ [] in
    let named = other_words _ _ _ _ e in
    let name = one_lower a.name b.name (first_word _ _ _ _ named) in
    let params = one_params a.params b.params (Fixed OPEN_BRACE ∷ behind a) (Fixed OPEN_BRACE ∷ behind b) r s (other_words _ _ _ _ (other_words _ _ _ _ named)) in
    let body = one_body a b (Fixed CLOSE_BRACE ∷ r) (Fixed CLOSE_BRACE ∷ s) refl refl
    (in_turn (body_words a) (Fixed CLOSE_BRACE ∷ []) r (body_words b) (Fixed CLOSE_BRACE ∷ []) s (other_words _ _ _ _ params.rest)) in
    record {
      value = λ i. record { name = name i; params = params.value i; pattern = body.pattern i; conds = body.conds i; conclusion = body.conclusion i };
      rest = other_words _ _ _ _ body.rest;
    }
