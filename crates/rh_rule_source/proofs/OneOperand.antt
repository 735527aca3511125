-- Operands, and the operations and terms that are made of them, are spelled in one way.
use Rattle.std.proofs.Common.{◌≡◌, ℕ, ◌==◌, true, false, if◌then◌else◌, List, ◌++◌, refl, sym, ap, ◌∙◌, arith}
use Rattle.rh_il.specs.declared.value.Op.{Op}
use Rattle.rh_il.specs.declared.value.Op.TheVariants.{Add, Sub, Mul, Less, Equal}
use Rattle.rh_rule_source.specs.declared.word.Word.{Word}
use Rattle.rh_rule_source.specs.declared.source.SourceBase.TheVariants.{Named, Num}
use Rattle.rh_rule_source.specs.declared.source.SourceOperand.{SourceOperand}
use Rattle.rh_rule_source.specs.declared.source.SourceOperand.TheVariants.{Wild, Plain as PlainOperand}
use Rattle.rh_rule_source.specs.declared.source.SourceTerm.{SourceTerm}
use Rattle.rh_rule_source.specs.declared.source.SourceTerm.TheVariants.{Plain as PlainTerm, Address as AddressTerm, Deref, Compute as ComputedTerm}
use Rattle.rh_rule_source.specs.Grammar.{PLUS, MINUS, STAR, LESS, AMPERSAND, OPEN_PAREN, UNDERSCORE}
use Rattle.rh_rule_source.specs.Source.{base_words, operand_words, op_word, operation_words, computed_words, term_words}
use Rattle.rh_rule_source.proofs.OneWay.{OneWay, class_in, first_class, other_words, from_word, one_joined, one_bracketed}

abbrev op_of : ℕ → Op
op_of class =
    if class == PLUS then Add
    else (if class == MINUS then Sub
    else (if class == STAR then Mul
    else (if class == LESS then Less
    else Equal)))

op_back : (op : Op) → op_of (class_in (op_word op)) ≡ op
op_back Add = refl
op_back Sub = refl
op_back Mul = refl
op_back Less = refl
op_back Equal = refl

pub one_op : (a b : Op) → op_word a ≡ op_word b → a ≡ b
one_op = from_word op_word op_of op_back

pub one_base : OneWay base_words
one_base (Named a) (Named b) r s e = record { value = cc; rest = cc }
one_base (Num true a) (Num true b) r s e = record { value = cc; rest = cc }
one_base (Num false a) (Num false b) r s e = record { value = cc; rest = cc }
one_base (Named a) (Num true b) r s e = absurd cc
one_base (Named a) (Num false b) r s e = absurd cc
one_base (Num true a) (Named b) r s e = absurd cc
one_base (Num true a) (Num false b) r s e = absurd cc
one_base (Num false a) (Named b) r s e = absurd cc
one_base (Num false a) (Num true b) r s e = absurd cc

pub one_operation : OneWay operation_words
one_operation a b r s e =
    let parts = one_joined base_words op_word base_words one_base one_op one_base a.left b.left a.op b.op a.right b.right r s e in
    record { value = λ i. record { left = parts.left i; op = parts.middle i; right = parts.right i }; rest = parts.rest }

pub one_computed : OneWay computed_words
one_computed = one_bracketed operation_words one_operation

abbrev operand_shape : SourceOperand → ℕ
operand_shape Wild = 1
operand_shape (PlainOperand base) = 0

-- told by the first word
abbrev operand_begins : List Word → ℕ
operand_begins ws = if first_class ws == UNDERSCORE then 1 else 0

operand_told : (x : SourceOperand) (r : List Word) → operand_begins (operand_words x ++ r) ≡ operand_shape x
operand_told Wild r = refl
operand_told (PlainOperand (Named name)) r = refl
operand_told (PlainOperand (Num true size)) r = refl
operand_told (PlainOperand (Num false size)) r = refl

pub one_operand : OneWay operand_words
one_operand Wild Wild r s e = record { value = refl; rest = other_words _ _ _ _ e }
one_operand (PlainOperand a) (PlainOperand b) r s e =
    let base = one_base a b r s e in
    record { value = ap PlainOperand base.value; rest = base.rest }
one_operand a b r s e =
    let shapes : operand_shape a ≡ operand_shape b = sym (operand_told a r) ∙ ap operand_begins e ∙ operand_told b s in
    absurd (omega arith)

abbrev term_shape : SourceTerm → ℕ
term_shape (PlainTerm base) = 0
term_shape (AddressTerm name) = 1
term_shape (Deref name) = 2
term_shape (ComputedTerm operation) = 3

abbrev term_begins : List Word → ℕ
term_begins ws =
    if first_class ws == AMPERSAND then 1
    else (if first_class ws == STAR then 2
    else (if first_class ws == OPEN_PAREN then 3
    else 0))

term_told : (x : SourceTerm) (r : List Word) → term_begins (term_words x ++ r) ≡ term_shape x
term_told (PlainTerm (Named name)) r = refl
term_told (PlainTerm (Num true size)) r = refl
term_told (PlainTerm (Num false size)) r = refl
term_told (AddressTerm name) r = refl
term_told (Deref name) r = refl
term_told (ComputedTerm operation) r = refl

pub one_term : OneWay term_words
one_term (PlainTerm a) (PlainTerm b) r s e =
    let base = one_base a b r s e in
    record { value = ap PlainTerm base.value; rest = base.rest }
one_term (AddressTerm a) (AddressTerm b) r s e = record { value = cc; rest = cc }
one_term (Deref a) (Deref b) r s e = record { value = cc; rest = cc }
one_term (ComputedTerm a) (ComputedTerm b) r s e =
    let operation = one_computed a b r s e in
    record { value = ap ComputedTerm operation.value; rest = operation.rest }
one_term a b r s e =
    let shapes : term_shape a ≡ term_shape b = sym (term_told a r) ∙ ap term_begins e ∙ term_told b s in
    absurd (omega arith)
