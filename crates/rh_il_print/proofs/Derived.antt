-- The words of procedures whose numbers fit are derived from the grammar.
use Rattle.std.proofs.Common.{◌≡◌, ℕ, ◌<◌, ◌≤◌, ◌^◌, true, false, List, [], ◌∷◌, ◌++◌, length, Some, refl, sym, subst, arith, append_assoc, append-nil, ⊎_elim}
use Rattle.std.proofs.lemmas.Bool.{lt-ltb, le-ltb, cases_lt}
use Rattle.std.specs.List.{AllByRecursion, flat_map}
use Rattle.rh_text.specs.declared.sign.Sign.TheVariants.{Semicolon, CloseParen}
use Rattle.rh_text.specs.Words.{sign_number}
use Rattle.rh_grammar.specs.declared.grammar.Symbol.{Symbol}
use Rattle.rh_grammar.specs.declared.grammar.Symbol.TheVariants.{Token, Rule}
use Rattle.rh_grammar.specs.Derivation.{alternative, Derivable, Leads, done, token, expand}
use Rattle.rh_il.specs.declared.value.Op.{Op}
use Rattle.rh_il.specs.declared.value.Op.TheVariants.{Add, Sub, Mul, Less as LessOp, Equal as EqualOp}
use Rattle.rh_il.specs.declared.keyword.Keyword.TheVariants.{Goto as GotoWord, Else as ElseWord}
use Rattle.rh_il_source.specs.declared.word.Word.{Word}
use Rattle.rh_il_source.specs.declared.word.Word.TheVariants.{Sign as SignWord, Keyword as KeywordWord, Number}
use Rattle.rh_il_source.specs.declared.source.Operand.{Operand}
use Rattle.rh_il_source.specs.declared.source.Operand.TheVariants.{Var, Num}
use Rattle.rh_il_source.specs.declared.source.Line.{Line}
use Rattle.rh_il_source.specs.declared.source.Line.TheVariants.{Skip, Copy, Address, Load, Compute, Write, New, Call, Goto, If, Return}
use Rattle.rh_il_source.specs.declared.source.Source.{Source}
use Rattle.rh_il_source.specs.Grammar.{productions, program, becomes, procedure, locals, more_locals, body, statement, value, base, number, magnitude, operator, name, index, size, least, minus, close_paren, goto_word, else_word}
use Rattle.rh_il_source.specs.Words.{classes_of, number_class}
use Rattle.rh_il_source.specs.Source.{op_sign, operand_words, line_words, closed_words, more_words, locals_words, source_words, file_words}
use Rattle.rh_il_source.proofs.Joined.{regroup}
use Rattle.rh_il_print.proofs.Fits.{OperandFits, LineFits, SourceFits}

-- the classes of the words are derived from the symbols
abbrev Derived : List Symbol → List Word → Type 0
Derived symbols words = Leads productions symbols (classes_of words)

by : (p : ℕ) {rule : ℕ} {to α : List Symbol} {tokens : List ℕ} → alternative productions rule p ≡ Some to → Leads productions (to ++ α) tokens → Leads productions (Rule rule ∷ α) tokens
by p is leads = (p ∷ leads.0, expand is leads.1)

-- a word in front
word : {class : ℕ} {α : List Symbol} {tokens : List ℕ} → Leads productions α tokens → Leads productions (Token class ∷ α) (class ∷ tokens)
word leads = (leads.0, token leads.1)

sized : (n class : ℕ) {α : List Symbol} {tokens : List ℕ} → number_class n ≡ class → Leads productions α tokens → Leads productions (Token class ∷ α) (number_class n ∷ tokens)
sized n class {α} {tokens} is leads = subst (λ c. Leads productions (Token c ∷ α) (number_class n ∷ tokens)) is (word leads)

index_class : (n : ℕ) → n < 2 ^ 32 → number_class n ≡ index
index_class n lt = rw (lt-ltb n (2 ^ 32) lt) refl

size_class : (n : ℕ) → 2 ^ 32 ≤ n → n < 2 ^ 63 → number_class n ≡ size
size_class n ge lt = rw (le-ltb n (2 ^ 32) ge, lt-ltb n (2 ^ 63) lt) refl

least_class : (n : ℕ) → 2 ^ 63 ≤ n → number_class n ≡ least
least_class n ge =
    let above : 2 ^ 32 ≤ n = omega arith in rw (le-ltb n (2 ^ 32) above, le-ltb n (2 ^ 63) ge) refl

-- a target
target_derived : (n : ℕ) {α : List Symbol} {tokens : List ℕ} → n < 2 ^ 32 → Leads productions α tokens → Leads productions (Token index ∷ α) (number_class n ∷ tokens)
target_derived n fits leads = sized n index (index_class n fits) leads

-- a number without `-`
positive_derived : (n : ℕ) {α : List Symbol} {tokens : List ℕ} → n < 2 ^ 63 → Leads productions α tokens → Leads productions (Rule number ∷ α) (number_class n ∷ tokens)
unfolding productions
positive_derived n fits leads =
    ⊎_elim (λ low. by 0 refl (sized n index (index_class n low) leads)) (λ high. by 1 refl (sized n size (size_class n high fits) leads))
    (cases_lt n (2 ^ 32))

-- a number after `-`
magnitude_derived : (n : ℕ) {α : List Symbol} {tokens : List ℕ} → Leads productions α tokens → Leads productions (Rule magnitude ∷ α) (number_class n ∷ tokens)
unfolding productions
magnitude_derived n leads =
    ⊎_elim (λ low. by 0 refl (sized n index (index_class n low) leads))
    (λ high.
    ⊎_elim (λ below. by 1 refl (sized n size (size_class n high below) leads)) (λ above. by 2 refl (sized n least (least_class n above) leads))
    (cases_lt n (2 ^ 63)))
    (cases_lt n (2 ^ 32))

negative_derived : (n : ℕ) {α : List Symbol} {tokens : List ℕ} → Leads productions α tokens → Leads productions (Rule number ∷ α) (minus ∷ number_class n ∷ tokens)
unfolding productions
negative_derived n leads = by 2 refl (word (magnitude_derived n leads))

op_derived : (op : Op) {α : List Symbol} {tokens : List ℕ} → Leads productions α tokens → Leads productions (Rule operator ∷ α) (sign_number (op_sign op) ∷ tokens)
unfolding productions
op_derived Add leads = by 0 refl (word leads)
op_derived Sub leads = by 1 refl (word leads)
op_derived Mul leads = by 2 refl (word leads)
op_derived LessOp leads = by 3 refl (word leads)
op_derived EqualOp leads = by 4 refl (word leads)

operand_derived : (x : Operand) (α : List Symbol) (words : List Word) → OperandFits x → Derived α words → Derived (Rule base ∷ α) (operand_words x ++ words)
unfolding productions
operand_derived (Var x) α words fits d = by 0 refl (word d)
operand_derived (Num false n) α words fits d = by 1 refl (positive_derived n fits d)
operand_derived (Num true n) α words fits d = by 1 refl (negative_derived n d)

-- an operand that is assigned
value_derived : (x : Operand) (α : List Symbol) (words : List Word) → OperandFits x → Derived α words → Derived (Rule value ∷ α) (operand_words x ++ words)
unfolding productions
value_derived (Var x) α words fits d = by 3 refl (word (by 2 refl d))
value_derived (Num false n) α words fits d = by 4 refl (positive_derived n fits (by 1 refl d))
value_derived (Num true n) α words fits d = by 4 refl (negative_derived n (by 1 refl d))

-- two operands and the operator between them
computed_derived : (op : Op) (left right : Operand) (α : List Symbol) (words : List Word) → OperandFits left → OperandFits right → Derived α words
    → Derived (Rule value ∷ α) (operand_words left ++ SignWord (op_sign op) ∷ (operand_words right ++ words))
unfolding productions
computed_derived op (Var x) right α words first second d =
    by 3 refl (word (by 1 refl (op_derived op (operand_derived right α words second d))))
computed_derived op (Num false n) right α words first second d =
    by 4 refl (positive_derived n first (by 0 refl (op_derived op (operand_derived right α words second d))))
computed_derived op (Num true n) right α words first second d =
    by 4 refl (negative_derived n (by 0 refl (op_derived op (operand_derived right α words second d))))

-- what is assigned to a variable
assigned_derived : {α : List Symbol} {tokens : List ℕ} → Leads productions (Rule value ∷ α) tokens → Leads productions (Rule statement ∷ α) (name ∷ becomes ∷ tokens)
unfolding productions
assigned_derived leads = by 5 refl (word (word leads))

-- the operand of a call, and the bracket after it
argument_derived : (x : Operand) (α : List Symbol) (words : List Word) → OperandFits x → Derived α words
    → Derived (Rule base ∷ Token close_paren ∷ α) ((operand_words x ++ SignWord CloseParen ∷ []) ++ words)
argument_derived x α words fits d = rw (append_assoc (operand_words x) (SignWord CloseParen ∷ []) words) (operand_derived x _ _ fits (word d))

-- the condition of a branch, and its targets
branch_derived : (x : Operand) (taken other : ℕ) (α : List Symbol) (words : List Word) → LineFits (If x taken other) → Derived α words
    → Derived (Rule base ∷ Token goto_word ∷ Token index ∷ Token else_word ∷ Token index ∷ α) ((operand_words x ++ KeywordWord GotoWord ∷ Number taken ∷ KeywordWord ElseWord ∷ Number other ∷ []) ++ words)
branch_derived x taken other α words fits d =
    rw (append_assoc (operand_words x) (KeywordWord GotoWord ∷ Number taken ∷ KeywordWord ElseWord ∷ Number other ∷ []) words)
    (operand_derived x _ _ fits.0 (word (target_derived taken fits.1 (word (target_derived other fits.2 d)))))

line_derived : (line : Line) (α : List Symbol) (words : List Word) → LineFits line → Derived α words → Derived (Rule statement ∷ α) (line_words line ++ words)
unfolding productions
line_derived Skip α words fits d = by 0 refl (word d)
line_derived (Copy to from) α words fits d = assigned_derived (value_derived from α words fits.1 d)
line_derived (Address to of) α words fits d =
    assigned_derived (by 1 refl (word (word d)))
line_derived (Load to from) α words fits d =
    assigned_derived (by 2 refl (word (word d)))
line_derived (Compute to op left right) α words fits d =
    assigned_derived
    (rw (append_assoc (operand_words left) (SignWord (op_sign op) ∷ operand_words right) words) (computed_derived op left right α words fits.1 fits.2 d))
line_derived (Write to from) α words fits d =
    by 4 refl (word (word (word (operand_derived from α words fits.1 d))))
line_derived (New to) α words fits d = assigned_derived (by 0 refl (word d))
line_derived (Call to called arg) α words fits d =
    assigned_derived (by 3 refl (word (by 0 refl (word (argument_derived arg α words fits.2 d)))))
line_derived (Goto to) α words fits d = by 1 refl (word (target_derived to fits d))
line_derived (If x taken other) α words fits d = by 2 refl (word (branch_derived x taken other α words fits d))
line_derived (Return x) α words fits d =
    by 3 refl (word (operand_derived x α words fits d))

-- statements, each with its `;`
body_derived : (lines : List Line) (α : List Symbol) (words : List Word) → AllByRecursion LineFits lines → Derived α words → Derived (Rule body ∷ α) (flat_map closed_words lines ++ words)
unfolding productions
body_derived [] α words fits d = by 1 refl d
body_derived (line ∷ lines) α words fits d =
    rw (append_assoc (closed_words line) (flat_map closed_words lines) words, append_assoc (line_words line) (SignWord Semicolon ∷ []) (flat_map closed_words lines ++ words))
    (by 0 refl (line_derived line _ _ fits.0 (word (body_derived lines α words fits.1 d))))

-- names after commas
more_derived : (names : List (List ℕ)) (α : List Symbol) (words : List Word) → Derived α words → Derived (Rule more_locals ∷ α) (more_words names ++ words)
unfolding productions
more_derived [] α words d = by 1 refl d
more_derived (n ∷ ns) α words d = by 0 refl (word (word (more_derived ns α words d)))

locals_derived : (names : List (List ℕ)) (α : List Symbol) (words : List Word) → Derived α words → Derived (Rule locals ∷ α) (locals_words names ++ words)
unfolding productions
locals_derived [] α words d = by 1 refl d
locals_derived (n ∷ ns) α words d = by 0 refl (word (word (more_derived ns α words d)))

procedure_derived : (called : List ℕ) (vars : List (List ℕ)) (lines : List Line) (α : List Symbol) (words : List Word) → 0 < length vars → AllByRecursion LineFits lines → Derived α words
    → Derived (Rule procedure ∷ α) (source_words (record { name = called; vars = vars; body = lines }) ++ words)
unfolding productions
procedure_derived called [] lines α words some fits d = absurd (omega arith)
procedure_derived called (param ∷ names) lines α words some fits d =
    rw (sym (regroup (locals_words names) (flat_map closed_words lines) words))
    (by 0 refl
    (word
    (word
    (word
    (word
    (locals_derived names _ _
    (word (body_derived lines _ _ fits (word d)))))))))

file_derived : (sources : List Source) (α : List Symbol) (words : List Word) → AllByRecursion SourceFits sources → Derived α words → Derived (Rule program ∷ α) (file_words sources ++ words)
unfolding productions
file_derived [] α words fits d = by 1 refl d
file_derived (p ∷ ps) α words fits d =
    subst (Derived (Rule program ∷ α)) (sym (append_assoc (source_words p) (file_words ps) words))
    (by 0 refl (procedure_derived p.name p.vars p.body _ _ fits.0.param fits.0.lines (file_derived ps α words fits.1 d)))

-- the words of procedures whose numbers fit are words of a program
pub words_derivable : (sources : List Source) → AllByRecursion SourceFits sources → Derivable productions program (classes_of (file_words sources))
words_derivable sources fits =
    subst (Derived (Rule program ∷ [])) (append-nil (file_words sources)) (file_derived sources [] [] fits ([], done))
