-- The forms of statements are spelled in one way, where no operator follows.
use Rattle.std.proofs.Common.{◌≡◌, ℕ, ◌==◌, ◌||◌, Bool, true, false, if◌then◌else◌, List, ◌∷◌, ◌++◌, refl, sym, ap, ◌∙◌, append_assoc, arith}
use Rattle.rh_il.specs.declared.value.Op.{Op}
use Rattle.rh_il.specs.declared.value.Op.TheVariants.{Add, Sub, Mul, Less, Equal}
use Rattle.rh_rule_source.specs.declared.word.Word.{Word}
use Rattle.rh_rule_source.specs.declared.source.SourceBase.{SourceBase}
use Rattle.rh_rule_source.specs.declared.source.SourceBase.TheVariants.{Named, Num}
use Rattle.rh_rule_source.specs.declared.source.SourceOperation.{SourceOperation}
use Rattle.rh_rule_source.specs.declared.source.SourceRight.{SourceRight}
use Rattle.rh_rule_source.specs.declared.source.SourceRight.TheVariants.{Any, New, Address as AddressRight, Load, Call, Plain as PlainRight, Compute as ComputedRight}
use Rattle.rh_rule_source.specs.declared.source.SourceForm.{SourceForm}
use Rattle.rh_rule_source.specs.declared.source.SourceForm.TheVariants.{Skip, Write, If, Return, Assign}
use Rattle.rh_rule_source.specs.declared.source.SourcePattern.{SourcePattern}
use Rattle.rh_rule_source.specs.declared.source.SourcePattern.TheVariants.{Entry, Goto, Form}
use Rattle.rh_rule_source.specs.Grammar.{PLUS, MINUS, STAR, LESS, EQUAL, AMPERSAND, UNDERSCORE, NEW, CALL, SKIP, IF, RETURN, ENTRY, GOTO}
use Rattle.rh_rule_source.specs.Source.{base_words, operand_words, op_word, bracketed_operand_words, right_words, form_words, pattern_words}
use Rattle.rh_rule_source.proofs.OneWay.{OneWay, OneWayBefore, first_class, first_word, other_words, one_upper, one_bracketed}
use Rattle.rh_rule_source.proofs.OneOperand.{one_base, one_operand, one_operation}

-- an operator stands there
abbrev begins_op : List Word → Bool
begins_op ws =
    (first_class ws == PLUS) || ((first_class ws == MINUS) || ((first_class ws == STAR) || ((first_class ws == LESS) || (first_class ws == EQUAL))))

abbrev pub NoOperator : List Word → Type 0
NoOperator r = begins_op r ≡ false

op_begins : (op : Op) (ws : List Word) → begins_op (op_word op ∷ ws) ≡ true
op_begins Add ws = refl
op_begins Sub ws = refl
op_begins Mul ws = refl
op_begins Less ws = refl
op_begins Equal ws = refl

true_or_false : (b : Bool) → b ≡ true → b ≡ false → ⊥
true_or_false b yes_ no_ = absurd cc

-- an operand alone, and one with an operator after
alone : (base : SourceBase) (o : SourceOperation) (r s : List Word) → NoOperator r → base_words base ++ r ≡ (base_words o.left ++ op_word o.op ∷ base_words o.right) ++ s → ⊥
alone base o r s none e =
    let behind = op_word o.op ∷ (base_words o.right ++ s) in
    let left = one_base base o.left r behind (e ∙ append_assoc (base_words o.left) (op_word o.op ∷ base_words o.right) s) in
    true_or_false (begins_op r) (ap begins_op left.rest ∙ op_begins o.op (base_words o.right ++ s)) none

abbrev right_shape : SourceRight → ℕ
right_shape Any = 1
right_shape New = 2
right_shape (AddressRight name) = 3
right_shape (Load name) = 4
right_shape (Call arg) = 5
right_shape (PlainRight base) = 0
right_shape (ComputedRight operation) = 0

-- told by the first word, but for what follows an operand
abbrev right_begins : List Word → ℕ
right_begins ws =
    if first_class ws == UNDERSCORE then 1
    else (if first_class ws == NEW then 2
    else (if first_class ws == AMPERSAND then 3
    else (if first_class ws == STAR then 4
    else (if first_class ws == CALL then 5
    else 0))))

base_told : (base : SourceBase) (r : List Word) → right_begins (base_words base ++ r) ≡ 0
base_told (Named name) r = refl
base_told (Num true size) r = refl
base_told (Num false size) r = refl

right_told : (x : SourceRight) (r : List Word) → right_begins (right_words x ++ r) ≡ right_shape x
right_told Any r = refl
right_told New r = refl
right_told (AddressRight name) r = refl
right_told (Load name) r = refl
right_told (Call arg) r = refl
right_told (PlainRight base) r = base_told base r
right_told (ComputedRight o) r =
    ap right_begins (append_assoc (base_words o.left) (op_word o.op ∷ base_words o.right) r) ∙ base_told o.left (op_word o.op ∷ (base_words o.right ++ r))

one_bracketed_operand : OneWay bracketed_operand_words
one_bracketed_operand = one_bracketed operand_words one_operand

one_right : OneWayBefore NoOperator right_words
one_right Any Any r s none_r none_s e = record { value = refl; rest = other_words _ _ _ _ e }
one_right New New r s none_r none_s e = record { value = refl; rest = other_words _ _ _ _ e }
one_right (AddressRight a) (AddressRight b) r s none_r none_s e = record { value = cc; rest = cc }
one_right (Load a) (Load b) r s none_r none_s e = record { value = cc; rest = cc }
one_right (Call a) (Call b) r s none_r none_s e =
    let arg = one_bracketed_operand a b r s (other_words _ _ _ _ e) in
    record { value = ap Call arg.value; rest = arg.rest }
one_right (PlainRight a) (PlainRight b) r s none_r none_s e =
    let base = one_base a b r s e in
    record { value = ap PlainRight base.value; rest = base.rest }
one_right (ComputedRight a) (ComputedRight b) r s none_r none_s e =
    let operation = one_operation a b r s e in
    record { value = ap ComputedRight operation.value; rest = operation.rest }
one_right (PlainRight a) (ComputedRight b) r s none_r none_s e = absurd (alone a b r s none_r e)
one_right (ComputedRight a) (PlainRight b) r s none_r none_s e = absurd (alone b a s r none_s (sym e))
one_right a b r s none_r none_s e =
    let shapes : right_shape a ≡ right_shape b = sym (right_told a r) ∙ ap right_begins e ∙ right_told b s in
    absurd (omega arith)

abbrev form_shape : SourceForm → ℕ
form_shape Skip = 1
form_shape (Write to from) = 2
form_shape (If operand) = 3
form_shape (Return operand) = 4
form_shape (Assign to right) = 0

abbrev form_begins : List Word → ℕ
form_begins ws =
    if first_class ws == SKIP then 1
    else (if first_class ws == STAR then 2
    else (if first_class ws == IF then 3
    else (if first_class ws == RETURN then 4
    else 0)))

form_told : (x : SourceForm) (r : List Word) → form_begins (form_words x ++ r) ≡ form_shape x
form_told Skip r = refl
form_told (Write to from) r = refl
form_told (If operand) r = refl
form_told (Return operand) r = refl
form_told (Assign to right) r = refl

pub one_form : OneWayBefore NoOperator form_words
one_form Skip Skip r s none_r none_s e = record { value = refl; rest = other_words _ _ _ _ e }
one_form (Write to from) (Write to' from') r s none_r none_s e =
    let named = other_words _ _ _ _ e in
    let name = one_upper to to' (first_word _ _ _ _ named) in
    let operand = one_operand from from' r s (other_words _ _ _ _ (other_words _ _ _ _ named)) in
    record { value = λ i. Write (name i) (operand.value i); rest = operand.rest }
one_form (If a) (If b) r s none_r none_s e =
    let operand = one_operand a b r s (other_words _ _ _ _ e) in
    record { value = ap If operand.value; rest = operand.rest }
one_form (Return a) (Return b) r s none_r none_s e =
    let operand = one_operand a b r s (other_words _ _ _ _ e) in
    record { value = ap Return operand.value; rest = operand.rest }
one_form (Assign to right) (Assign to' right') r s none_r none_s e =
    let name = one_upper to to' (first_word _ _ _ _ e) in
    let same = one_right right right' r s none_r none_s (other_words _ _ _ _ (other_words _ _ _ _ e)) in
    record { value = λ i. Assign (name i) (same.value i); rest = same.rest }
one_form a b r s none_r none_s e =
    let shapes : form_shape a ≡ form_shape b = sym (form_told a r) ∙ ap form_begins e ∙ form_told b s in
    absurd (omega arith)

abbrev pattern_shape : SourcePattern → ℕ
pattern_shape (Entry name) = 1
pattern_shape Goto = 2
pattern_shape (Form form) = 0

abbrev pattern_begins : List Word → ℕ
pattern_begins ws = if first_class ws == ENTRY then 1 else (if first_class ws == GOTO then 2 else 0)

pattern_told : (x : SourcePattern) (r : List Word) → pattern_begins (pattern_words x ++ r) ≡ pattern_shape x
pattern_told (Entry name) r = refl
pattern_told Goto r = refl
pattern_told (Form Skip) r = refl
pattern_told (Form (Write to from)) r = refl
pattern_told (Form (If operand)) r = refl
pattern_told (Form (Return operand)) r = refl
pattern_told (Form (Assign to right)) r = refl

pub one_pattern : OneWayBefore NoOperator pattern_words
one_pattern (Entry a) (Entry b) r s none_r none_s e = record { value = cc; rest = cc }
one_pattern Goto Goto r s none_r none_s e = record { value = refl; rest = other_words _ _ _ _ e }
one_pattern (Form a) (Form b) r s none_r none_s e =
    let form = one_form a b r s none_r none_s e in
    record { value = ap Form form.value; rest = form.rest }
one_pattern a b r s none_r none_s e =
    let shapes : pattern_shape a ≡ pattern_shape b = sym (pattern_told a r) ∙ ap pattern_begins e ∙ pattern_told b s in
    absurd (omega arith)
