-- The words of rules, and of a rule file, are derived.
use Rattle.std.proofs.Common.{List, [], ◌∷◌, ◌++◌, append-nil, true, false, Bool, map, refl, subst}
use Rattle.std.specs.List.{AllByRecursion, flat_map}
use Rattle.rh_il.specs.declared.program.Slot.{Slot}
use Rattle.rh_il.specs.declared.program.Slot.TheVariants.{Out, Then, Else}
use Rattle.rh_grammar.specs.declared.grammar.Symbol.{Symbol}
use Rattle.rh_grammar.specs.declared.grammar.Symbol.TheVariants.{Token, Rule}
use Rattle.rh_grammar.specs.Derivation.{Derivable, done}
use Rattle.rh_rule_source.specs.declared.word.Word.{Word}
use Rattle.rh_rule_source.specs.declared.word.Word.TheVariants.{Fixed}
use Rattle.rh_rule_source.specs.declared.source.SourceOperand.{SourceOperand}
use Rattle.rh_rule_source.specs.declared.source.SourceOperand.TheVariants.{Wild, Plain as PlainOperand}
use Rattle.rh_rule_source.specs.declared.source.SourceParam.{SourceParam}
use Rattle.rh_rule_source.specs.declared.source.SourceRight.{SourceRight}
use Rattle.rh_rule_source.specs.declared.source.SourceRight.TheVariants.{Any, New, Address as AddressRight, Load, Call, Plain as PlainRight, Compute as ComputedRight}
use Rattle.rh_rule_source.specs.declared.source.SourceForm.{SourceForm}
use Rattle.rh_rule_source.specs.declared.source.SourceForm.TheVariants.{Skip, Write, If, Return, Assign}
use Rattle.rh_rule_source.specs.declared.source.SourcePattern.{SourcePattern}
use Rattle.rh_rule_source.specs.declared.source.SourcePattern.TheVariants.{Entry, Goto, Form}
use Rattle.rh_rule_source.specs.declared.source.SourceUse.{SourceUse}
use Rattle.rh_rule_source.specs.declared.source.SourceSide.{SourceSide}
use Rattle.rh_rule_source.specs.declared.source.SourceSide.TheVariants.{Plain as PlainSide, Compute as ComputedSide}
use Rattle.rh_rule_source.specs.declared.source.SourceCond.{SourceCond}
use Rattle.rh_rule_source.specs.declared.source.SourceCond.TheVariants.{Fact as FactCond, Side}
use Rattle.rh_rule_source.specs.declared.source.SourceConclusion.{SourceConclusion}
use Rattle.rh_rule_source.specs.declared.source.SourceConclusion.TheVariants.{Fact as FactConclusion, Transform}
use Rattle.rh_rule_source.specs.declared.source.SourceRule.{SourceRule}
use Rattle.rh_rule_source.specs.declared.source.SourceItem.{SourceItem}
use Rattle.rh_rule_source.specs.declared.source.SourceItem.TheVariants.{Fact as FactItem, Rule as RuleItem}
use Rattle.rh_rule_source.specs.declared.source.SourceFile.{SourceFile}
use Rattle.rh_rule_source.specs.Grammar.{productions, file, items, item, rule, metas, pattern, form, right, wbase, when, conds, cond, fact_use, mbase, args, sterm, conclusion, slot, COMMA, OPEN_PAREN, CLOSE_PAREN, OPEN_BRACE, CLOSE_BRACE, ARROW, AT, IN}
use Rattle.rh_rule_source.specs.Words.{class_of}
use Rattle.rh_rule_source.specs.Source.{base_words, operand_words, bracketed_operand_words, relation_word, right_words, form_words, pattern_words, params_words, args_words, use_words, side_words, cond_words, when_words, slot_word, conclusion_words, body_words, rule_words, item_words, header_words, file_words, op_word}
use Rattle.rh_rule_source.proofs.SourceInRange.{BaseInRange, OperandInRange, RightInRange, FormInRange, PatternInRange, UseInRange, SideInRange, CondInRange, ConclusionInRange, RuleInRange, ItemInRange, InRange}
use Rattle.rh_rule_parse.proofs.DerivedParts.{Derived, next, by, regrouped, base_derived, op_derived, relation_derived}
use Rattle.rh_rule_parse.proofs.DerivedLists.{separated_derived, repeated_derived}
use Rattle.rh_rule_parse.proofs.DerivedFacts.{computed_derived, params_derived, fact_derived}
use Rattle.rh_rule_parse.proofs.Lists.{args_separated, conds_separated, items_repeated}

-- ---- statements

operand_derived : (x : SourceOperand) (symbols : List Symbol) (rest : List Word) → OperandInRange x → Derived symbols rest → Derived (Rule wbase ∷ symbols) (operand_words x ++ rest)
unfolding productions
operand_derived Wild symbols rest in_range d = by 0 refl (next _ d)
operand_derived (PlainOperand base) symbols rest in_range d = by 1 refl (base_derived base in_range d)

bracketed_derived : (x : SourceOperand) (symbols : List Symbol) (rest : List Word) → OperandInRange x → Derived symbols rest → Derived (Token OPEN_PAREN ∷ Rule wbase ∷ Token CLOSE_PAREN ∷ symbols) (bracketed_operand_words x ++ rest)
bracketed_derived x symbols rest in_range d =
    next (Fixed OPEN_PAREN)
    (regrouped (operand_words x) (Fixed CLOSE_PAREN ∷ []) rest
    (operand_derived x (Token CLOSE_PAREN ∷ symbols) (Fixed CLOSE_PAREN ∷ rest) in_range (next (Fixed CLOSE_PAREN) d)))

right_derived : (r : SourceRight) (symbols : List Symbol) (rest : List Word) → RightInRange r → Derived symbols rest → Derived (Rule right ∷ symbols) (right_words r ++ rest)
unfolding productions
right_derived Any symbols rest in_range d = by 0 refl (next _ d)
right_derived New symbols rest in_range d = by 1 refl (next _ d)
right_derived (AddressRight name) symbols rest in_range d = by 2 refl (next _ (next _ d))
right_derived (Load name) symbols rest in_range d = by 3 refl (next _ (next _ d))
right_derived (Call x) symbols rest in_range d = by 4 refl (next _ (bracketed_derived x symbols rest in_range d))
right_derived (PlainRight base) symbols rest in_range d = by 5 refl (base_derived base in_range (by 1 refl d))
right_derived (ComputedRight o) symbols rest in_range d =
    by 5 refl
    (regrouped (base_words o.left) (op_word o.op ∷ base_words o.right) rest
    (base_derived o.left in_range.0 (by 0 refl (op_derived o.op (base_derived o.right in_range.1 d)))))

form_derived : (f : SourceForm) (symbols : List Symbol) (rest : List Word) → FormInRange f → Derived symbols rest → Derived (Rule form ∷ symbols) (form_words f ++ rest)
unfolding productions
form_derived Skip symbols rest in_range d = by 0 refl (next _ d)
form_derived (Write to from) symbols rest in_range d = by 1 refl (next _ (next _ (next _ (operand_derived from symbols rest in_range d))))
form_derived (If x) symbols rest in_range d = by 2 refl (next _ (operand_derived x symbols rest in_range d))
form_derived (Return x) symbols rest in_range d = by 3 refl (next _ (operand_derived x symbols rest in_range d))
form_derived (Assign to r) symbols rest in_range d = by 4 refl (next _ (next _ (right_derived r symbols rest in_range d)))

pattern_derived : (p : SourcePattern) (symbols : List Symbol) (rest : List Word) → PatternInRange p → Derived symbols rest → Derived (Rule pattern ∷ symbols) (pattern_words p ++ rest)
unfolding productions
pattern_derived (Entry name) symbols rest in_range d = by 0 refl (next _ (next _ (next _ (next _ d))))
pattern_derived Goto symbols rest in_range d = by 1 refl (next _ d)
pattern_derived (Form f) symbols rest in_range d = by 2 refl (form_derived f symbols rest in_range d)

-- ---- conditions and conclusions

use_derived : (u : SourceUse) (symbols : List Symbol) (rest : List Word) → UseInRange u → Derived symbols rest → Derived (Rule fact_use ∷ symbols) (use_words u ++ rest)
unfolding productions
use_derived u symbols rest in_range d =
    let closed = next (Fixed CLOSE_PAREN) d in
    let given = separated_derived BaseInRange base_words mbase args COMMA 0 args_separated (λ x α r good e. base_derived x good e) u.args (Token CLOSE_PAREN ∷ symbols) (Fixed CLOSE_PAREN ∷ rest) in_range.some_args in_range.args closed in
    by 0 refl (next _ (next _ (regrouped (args_words u.args) (Fixed CLOSE_PAREN ∷ []) rest given)))

side_derived : (s : SourceSide) (symbols : List Symbol) (rest : List Word) → SideInRange s → Derived symbols rest → Derived (Rule sterm ∷ symbols) (side_words s ++ rest)
unfolding productions
side_derived (PlainSide base) symbols rest in_range d = by 1 refl (base_derived base in_range d)
side_derived (ComputedSide o) symbols rest in_range d = by 0 refl (computed_derived o symbols rest in_range d)

cond_derived : (c : SourceCond) (symbols : List Symbol) (rest : List Word) → CondInRange c → Derived symbols rest → Derived (Rule cond ∷ symbols) (cond_words c ++ rest)
unfolding productions
cond_derived (FactCond u) symbols rest in_range d =
    by 0 refl (regrouped (use_words u) (Fixed AT ∷ Fixed IN ∷ []) rest (use_derived u _ _ in_range (next (Fixed AT) (next (Fixed IN) d))))
cond_derived (Side left r right) symbols rest in_range d =
    by 1 refl
    (regrouped (side_words left) (relation_word r ∷ side_words right) rest
    (side_derived left _ _ in_range.0 (relation_derived r (side_derived right symbols rest in_range.1 d))))

when_derived : (cs : List SourceCond) (symbols : List Symbol) (rest : List Word) → AllByRecursion CondInRange cs → Derived symbols rest → Derived (Rule when ∷ symbols) (when_words cs ++ rest)
unfolding productions
when_derived [] symbols rest all d = by 1 refl d
when_derived (first ∷ others) symbols rest all d =
    by 0 refl (next _ (separated_derived CondInRange cond_words cond conds COMMA 0 conds_separated cond_derived (first ∷ others) symbols rest tt all d))

slot_derived : (s : Slot) (symbols : List Symbol) (rest : List Word) → Derived symbols rest → Derived (Rule slot ∷ symbols) (slot_word s ∷ rest)
unfolding productions
slot_derived Out symbols rest d = by 0 refl (next _ d)
slot_derived Then symbols rest d = by 1 refl (next _ d)
slot_derived Else symbols rest d = by 2 refl (next _ d)

conclusion_derived : (c : SourceConclusion) (symbols : List Symbol) (rest : List Word) → ConclusionInRange c → Derived symbols rest → Derived (Rule conclusion ∷ symbols) (conclusion_words c ++ rest)
unfolding productions
conclusion_derived (FactConclusion u s) symbols rest in_range d =
    by 0 refl (regrouped (use_words u) (Fixed AT ∷ slot_word s ∷ []) rest (use_derived u _ _ in_range (next (Fixed AT) (slot_derived s symbols rest d))))
conclusion_derived (Transform f) symbols rest in_range d = by 1 refl (next _ (form_derived f symbols rest in_range d))

-- ---- rules and files

metas_derived : (ps : List SourceParam) (symbols : List Symbol) (rest : List Word) → Derived symbols rest → Derived (Rule metas ∷ symbols) (params_words ps ++ rest)
unfolding productions
metas_derived [] symbols rest d = by 1 refl d
metas_derived (p ∷ ps) symbols rest d = by 0 refl (params_derived (p ∷ ps) symbols rest tt d)

body_derived : (r : SourceRule) (symbols : List Symbol) (rest : List Word) → RuleInRange r → Derived symbols rest → Derived (Rule pattern ∷ Rule when ∷ Token ARROW ∷ Rule conclusion ∷ symbols) (body_words r ++ rest)
body_derived r symbols rest in_range d =
    let concluded = next (Fixed ARROW) (conclusion_derived r.conclusion symbols rest in_range.conclusion d) in
    let conditioned = when_derived r.conds _ _ in_range.conds concluded in
    let grouped = regrouped (when_words r.conds) (Fixed ARROW ∷ conclusion_words r.conclusion) rest conditioned in
    regrouped (pattern_words r.pattern) (when_words r.conds ++ Fixed ARROW ∷ conclusion_words r.conclusion) rest (pattern_derived r.pattern _ _ in_range.pattern grouped)

rule_derived : (r : SourceRule) (symbols : List Symbol) (rest : List Word) → RuleInRange r → Derived symbols rest → Derived (Rule rule ∷ symbols) (rule_words r ++ rest)
unfolding productions
rule_derived r symbols rest in_range d =
    let closed = next (Fixed CLOSE_BRACE) d in
    let body = regrouped (body_words r) (Fixed CLOSE_BRACE ∷ []) rest (body_derived r (Token CLOSE_BRACE ∷ symbols) (Fixed CLOSE_BRACE ∷ rest) in_range closed) in
    let opened = next (Fixed CLOSE_PAREN) (next (Fixed OPEN_BRACE) body) in
    by 0 refl
    (next _ (next _ (next _ (regrouped (params_words r.params) (Fixed CLOSE_PAREN ∷ Fixed OPEN_BRACE ∷ (body_words r ++ Fixed CLOSE_BRACE ∷ [])) rest (metas_derived r.params _ _ opened)))))

item_derived : (x : SourceItem) (symbols : List Symbol) (rest : List Word) → ItemInRange x → Derived symbols rest → Derived (Rule item ∷ symbols) (item_words x ++ rest)
unfolding productions
item_derived (FactItem f) symbols rest in_range d = by 0 refl (fact_derived f symbols rest in_range d)
item_derived (RuleItem r) symbols rest in_range d = by 1 refl (rule_derived r symbols rest in_range d)

items_derived : (xs : List SourceItem) (symbols : List Symbol) (rest : List Word) → AllByRecursion ItemInRange xs → Derived symbols rest → Derived (Rule items ∷ symbols) (flat_map item_words xs ++ rest)
items_derived xs symbols rest all d = repeated_derived ItemInRange item_words item items 0 items_repeated item_derived xs symbols rest all d

file_derived : (headed : Bool) (xs : List SourceItem) (symbols : List Symbol) (rest : List Word) → AllByRecursion ItemInRange xs → Derived symbols rest → Derived (Rule file ∷ symbols) ((header_words headed ++ flat_map item_words xs) ++ rest)
unfolding productions
file_derived true xs symbols rest all d = by 0 refl (next _ (next _ (next _ (items_derived xs symbols rest all d))))
file_derived false [] symbols rest all d = by 2 refl d
file_derived false (x ∷ xs) symbols rest all d =
    by 1 refl
    (regrouped (item_words x) (flat_map item_words xs) rest (item_derived x _ _ all.0 (items_derived xs symbols rest all.1 d)))

-- the words of a source that is in range are those of a rule file
pub words_are_derivable : (s : SourceFile) → InRange s → Derivable productions file (map class_of (file_words s))
words_are_derivable s in_range =
    let d = file_derived s.headed s.items [] [] in_range (record { leads = ([], done) }) in
    subst (λ words. Derivable productions file (map class_of words)) (append-nil (file_words s)) d.leads
