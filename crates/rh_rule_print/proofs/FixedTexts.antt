-- The fixed texts of a printed rule file: signs, and words of the grammar, with the spaces round them.
use Rattle.std.proofs.Common.{◌^◌, ◌≡◌, ℕ, Bool, true, ◌&&◌, List, [], ◌∷◌, length, refl, codes}
use Rattle.std.proofs.lemmas.Bool.{and_parts, leb-true}
use Rattle.std.specs.Prelude.{nat_le, slice_index}
use Rattle.std.specs.List.{list_all}
use Rattle.std.specs.Char.{is_ascii_alphabetic}
use Rattle.rh_text.specs.declared.sign.Sign.{Sign}
use Rattle.rh_text.specs.declared.sign.Sign.TheVariants.{Becomes, Equal, Differ, Arrow, Semicolon, Comma, OpenParen, CloseParen, OpenBrace, CloseBrace, Plus, Minus, Star, Less, Ampersand, At, Underscore}
use Rattle.rh_text.specs.Pieces.{is_space, is_word_byte, Space, Word, Digits, Mark, Stops, IsPiece}
use Rattle.rh_text.proofs.Printing.{space_piece, sign_piece, word_piece}
use Rattle.rh_il.specs.declared.value.Op.{Op}
use Rattle.rh_il.specs.declared.value.Op.TheVariants.{Add, Sub, Mul, Less as LessOp, Equal as EqualOp}
use Rattle.rh_il.specs.declared.program.Slot.{Slot}
use Rattle.rh_il.specs.declared.program.Slot.TheVariants.{Out, Then, Else}
use Rattle.rh_print.specs.Operators.{op_text}
use Rattle.rh_rule.specs.declared.schema.Kind.{Kind}
use Rattle.rh_rule.specs.declared.schema.Kind.TheVariants.{Var, Const}
use Rattle.rh_rule_source.specs.declared.word.Word.TheVariants.{Fixed, Number}
use Rattle.rh_rule_source.specs.Grammar.{BECOMES, EQUAL, DIFFER, ARROW, SEMICOLON, COMMA, OPEN_PAREN, CLOSE_PAREN, OPEN_BRACE, CLOSE_BRACE, STAR, AMPERSAND, AT, UNDERSCORE, RHODIUM, FACT, MEANS, AND, NUMBER_OF, POINTER, UNALIASED, RULE, WHEN, ENTRY, GOTO, SKIP, IF, RETURN, NEW, CALL, IN, TRANSFORM}
use Rattle.rh_rule_source.specs.Source.{op_word, kind_word, slot_word}
use Rattle.rh_rule_print.specs.Text.{kind_text, slot_text}
use Rattle.rh_rule_print.proofs.Prints.{Prints, Exactly, Always, Ends, fixed}

-- a space or the end of a line
gap : {b : ℕ} {after : List ℕ} → is_space b ≡ true → IsPiece (Space b) after
gap {b} {after} space = space_piece b after space

space : {after : List ℕ} → IsPiece (Space 32) after
space {after} = space_piece 32 after refl

sign : {s : Sign} {after : List ℕ} → IsPiece (Mark s) after
sign {s} {after} = sign_piece s after

abbrev is_word : List ℕ → Bool
is_word bytes = is_ascii_alphabetic (slice_index bytes 0) && (list_all is_word_byte bytes && nat_le (length bytes) 32)

-- a word before what goes on with no byte of a word
word : {bytes after : List ℕ} → is_word bytes ≡ true → Stops is_word_byte after → IsPiece (Word bytes) after
word {bytes} {after} is stops =
    let parts = and_parts _ _ is in
    let rest = and_parts _ _ parts.1 in
    word_piece bytes after (parts.0, rest.0) (leb-true (length bytes) 32 rest.1) stops

-- ---- signs

pub open_text : Prints Always (codes "(") (Exactly (Fixed OPEN_PAREN ∷ []))
open_text = fixed (Mark OpenParen ∷ []) (Fixed OPEN_PAREN ∷ []) (λ rest h. (sign, tt)) (λ at. refl)

pub close_text : Prints Always (codes ")") (Exactly (Fixed CLOSE_PAREN ∷ []))
close_text = fixed (Mark CloseParen ∷ []) (Fixed CLOSE_PAREN ∷ []) (λ rest h. (sign, tt)) (λ at. refl)

pub comma_text : Prints Always (codes ", ") (Exactly (Fixed COMMA ∷ []))
comma_text = fixed (Mark Comma ∷ Space 32 ∷ []) (Fixed COMMA ∷ []) (λ rest h. (sign, (space, tt))) (λ at. refl)

pub ampersand_text : Prints Always (codes "&") (Exactly (Fixed AMPERSAND ∷ []))
ampersand_text = fixed (Mark Ampersand ∷ []) (Fixed AMPERSAND ∷ []) (λ rest h. (sign, tt)) (λ at. refl)

pub star_text : Prints Always (codes "*") (Exactly (Fixed STAR ∷ []))
star_text = fixed (Mark Star ∷ []) (Fixed STAR ∷ []) (λ rest h. (sign, tt)) (λ at. refl)

pub underscore_text : Prints Always (codes "_") (Exactly (Fixed UNDERSCORE ∷ []))
underscore_text = fixed (Mark Underscore ∷ []) (Fixed UNDERSCORE ∷ []) (λ rest h. (sign, tt)) (λ at. refl)

pub becomes_text : Prints Always (codes " := ") (Exactly (Fixed BECOMES ∷ []))
becomes_text = fixed (Space 32 ∷ Mark Becomes ∷ Space 32 ∷ []) (Fixed BECOMES ∷ []) (λ rest h. (space, (sign, (space, tt)))) (λ at. refl)

pub same_text : Prints Always (codes " == ") (Exactly (Fixed EQUAL ∷ []))
same_text = fixed (Space 32 ∷ Mark Equal ∷ Space 32 ∷ []) (Fixed EQUAL ∷ []) (λ rest h. (space, (sign, (space, tt)))) (λ at. refl)

pub differ_text : Prints Always (codes " != ") (Exactly (Fixed DIFFER ∷ []))
differ_text = fixed (Space 32 ∷ Mark Differ ∷ Space 32 ∷ []) (Fixed DIFFER ∷ []) (λ rest h. (space, (sign, (space, tt)))) (λ at. refl)

pub arrow_text : Prints Always (codes " => ") (Exactly (Fixed ARROW ∷ []))
arrow_text = fixed (Space 32 ∷ Mark Arrow ∷ Space 32 ∷ []) (Fixed ARROW ∷ []) (λ rest h. (space, (sign, (space, tt)))) (λ at. refl)

pub at_text : Prints Always (codes " @ ") (Exactly (Fixed AT ∷ []))
at_text = fixed (Space 32 ∷ Mark At ∷ Space 32 ∷ []) (Fixed AT ∷ []) (λ rest h. (space, (sign, (space, tt)))) (λ at. refl)

pub open_brace_text : Prints Always (codes " { ") (Exactly (Fixed OPEN_BRACE ∷ []))
open_brace_text = fixed (Space 32 ∷ Mark OpenBrace ∷ Space 32 ∷ []) (Fixed OPEN_BRACE ∷ []) (λ rest h. (space, (sign, (space, tt)))) (λ at. refl)

pub close_brace_text : Prints Always (codes " }\n") (Exactly (Fixed CLOSE_BRACE ∷ []))
close_brace_text = fixed (Space 32 ∷ Mark CloseBrace ∷ Space 10 ∷ []) (Fixed CLOSE_BRACE ∷ []) (λ rest h. (space, (sign, (gap refl, tt)))) (λ at. refl)

pub semicolon_text : Prints Always (codes ";\n") (Exactly (Fixed SEMICOLON ∷ []))
semicolon_text = fixed (Mark Semicolon ∷ Space 10 ∷ []) (Fixed SEMICOLON ∷ []) (λ rest h. (sign, (gap refl, tt))) (λ at. refl)

pub space_text : Prints Always (codes " ") (Exactly [])
space_text = fixed (Space 32 ∷ []) [] (λ rest h. (space, tt)) (λ at. refl)

pub op_printed : (op : Op) → Prints Always (op_text op) (Exactly (op_word op ∷ []))
op_printed Add = fixed (Mark Plus ∷ []) (op_word Add ∷ []) (λ rest h. (sign, tt)) (λ at. refl)
op_printed Sub = fixed (Mark Minus ∷ []) (op_word Sub ∷ []) (λ rest h. (sign, tt)) (λ at. refl)
op_printed Mul = fixed (Mark Star ∷ []) (op_word Mul ∷ []) (λ rest h. (sign, tt)) (λ at. refl)
op_printed LessOp = fixed (Mark Less ∷ []) (op_word LessOp ∷ []) (λ rest h. (sign, tt)) (λ at. refl)
op_printed EqualOp = fixed (Mark Equal ∷ []) (op_word EqualOp ∷ []) (λ rest h. (sign, tt)) (λ at. refl)

-- ---- words

pub header_text : Prints Always (codes "rhodium 1;\n") (Exactly (Fixed RHODIUM ∷ Number 1 ∷ Fixed SEMICOLON ∷ []))
header_text =
    fixed (Word (codes "rhodium") ∷ Space 32 ∷ Digits (codes "1") ∷ Mark Semicolon ∷ Space 10 ∷ []) (Fixed RHODIUM ∷ Number 1 ∷ Fixed SEMICOLON ∷ [])
    (λ rest h. (word refl refl, (space, (record { form = (leb-true 1 1 refl, refl); longest = refl; within = leb-true 1 (2 ^ 63) refl }, (sign, (gap refl, tt)))))) (λ at. refl)

pub fact_word_text : Prints Always (codes "fact ") (Exactly (Fixed FACT ∷ []))
fact_word_text = fixed (Word (codes "fact") ∷ Space 32 ∷ []) (Fixed FACT ∷ []) (λ rest h. (word refl refl, (space, tt))) (λ at. refl)

pub rule_word_text : Prints Always (codes "rule ") (Exactly (Fixed RULE ∷ []))
rule_word_text = fixed (Word (codes "rule") ∷ Space 32 ∷ []) (Fixed RULE ∷ []) (λ rest h. (word refl refl, (space, tt))) (λ at. refl)

pub means_text : Prints Always (codes " means ") (Exactly (Fixed MEANS ∷ []))
means_text = fixed (Space 32 ∷ Word (codes "means") ∷ Space 32 ∷ []) (Fixed MEANS ∷ []) (λ rest h. (space, (word refl refl, (space, tt)))) (λ at. refl)

pub and_text : Prints Always (codes " and ") (Exactly (Fixed AND ∷ []))
and_text = fixed (Space 32 ∷ Word (codes "and") ∷ Space 32 ∷ []) (Fixed AND ∷ []) (λ rest h. (space, (word refl refl, (space, tt)))) (λ at. refl)

pub when_text : Prints Always (codes " when ") (Exactly (Fixed WHEN ∷ []))
when_text = fixed (Space 32 ∷ Word (codes "when") ∷ Space 32 ∷ []) (Fixed WHEN ∷ []) (λ rest h. (space, (word refl refl, (space, tt)))) (λ at. refl)

pub transform_text : Prints Always (codes "transform ") (Exactly (Fixed TRANSFORM ∷ []))
transform_text = fixed (Word (codes "transform") ∷ Space 32 ∷ []) (Fixed TRANSFORM ∷ []) (λ rest h. (word refl refl, (space, tt))) (λ at. refl)

pub if_text : Prints Always (codes "if ") (Exactly (Fixed IF ∷ []))
if_text = fixed (Word (codes "if") ∷ Space 32 ∷ []) (Fixed IF ∷ []) (λ rest h. (word refl refl, (space, tt))) (λ at. refl)

pub return_text : Prints Always (codes "return ") (Exactly (Fixed RETURN ∷ []))
return_text = fixed (Word (codes "return") ∷ Space 32 ∷ []) (Fixed RETURN ∷ []) (λ rest h. (word refl refl, (space, tt))) (λ at. refl)

pub number_text : Prints Always (codes "number(") (Exactly (Fixed NUMBER_OF ∷ Fixed OPEN_PAREN ∷ []))
number_text = fixed (Word (codes "number") ∷ Mark OpenParen ∷ []) (Fixed NUMBER_OF ∷ Fixed OPEN_PAREN ∷ []) (λ rest h. (word refl refl, (sign, tt))) (λ at. refl)

pub pointer_text : Prints Always (codes "pointer(") (Exactly (Fixed POINTER ∷ Fixed OPEN_PAREN ∷ []))
pointer_text = fixed (Word (codes "pointer") ∷ Mark OpenParen ∷ []) (Fixed POINTER ∷ Fixed OPEN_PAREN ∷ []) (λ rest h. (word refl refl, (sign, tt))) (λ at. refl)

pub unaliased_text : Prints Always (codes "unaliased(") (Exactly (Fixed UNALIASED ∷ Fixed OPEN_PAREN ∷ []))
unaliased_text = fixed (Word (codes "unaliased") ∷ Mark OpenParen ∷ []) (Fixed UNALIASED ∷ Fixed OPEN_PAREN ∷ []) (λ rest h. (word refl refl, (sign, tt))) (λ at. refl)

pub entry_text : Prints Always (codes "entry(") (Exactly (Fixed ENTRY ∷ Fixed OPEN_PAREN ∷ []))
entry_text = fixed (Word (codes "entry") ∷ Mark OpenParen ∷ []) (Fixed ENTRY ∷ Fixed OPEN_PAREN ∷ []) (λ rest h. (word refl refl, (sign, tt))) (λ at. refl)

pub call_text : Prints Always (codes "call(") (Exactly (Fixed CALL ∷ Fixed OPEN_PAREN ∷ []))
call_text = fixed (Word (codes "call") ∷ Mark OpenParen ∷ []) (Fixed CALL ∷ Fixed OPEN_PAREN ∷ []) (λ rest h. (word refl refl, (sign, tt))) (λ at. refl)

pub goto_text : Prints Ends (codes "goto") (Exactly (Fixed GOTO ∷ []))
goto_text = fixed (Word (codes "goto") ∷ []) (Fixed GOTO ∷ []) (λ rest h. (word refl h, tt)) (λ at. refl)

pub skip_text : Prints Ends (codes "skip") (Exactly (Fixed SKIP ∷ []))
skip_text = fixed (Word (codes "skip") ∷ []) (Fixed SKIP ∷ []) (λ rest h. (word refl h, tt)) (λ at. refl)

pub new_text : Prints Ends (codes "new") (Exactly (Fixed NEW ∷ []))
new_text = fixed (Word (codes "new") ∷ []) (Fixed NEW ∷ []) (λ rest h. (word refl h, tt)) (λ at. refl)

-- where premises stand
pub at_in_text : Prints Ends (codes " @ in") (Exactly (Fixed AT ∷ Fixed IN ∷ []))
at_in_text =
    fixed (Space 32 ∷ Mark At ∷ Space 32 ∷ Word (codes "in") ∷ []) (Fixed AT ∷ Fixed IN ∷ [])
    (λ rest h. (space, (sign, (space, (word refl h, tt))))) (λ at. refl)

pub slot_printed : (slot : Slot) → Prints Ends (slot_text slot) (Exactly (slot_word slot ∷ []))
slot_printed Out = fixed (Word (codes "out") ∷ []) (slot_word Out ∷ []) (λ rest h. (word refl h, tt)) (λ at. refl)
slot_printed Then = fixed (Word (codes "then") ∷ []) (slot_word Then ∷ []) (λ rest h. (word refl h, tt)) (λ at. refl)
slot_printed Else = fixed (Word (codes "else") ∷ []) (slot_word Else ∷ []) (λ rest h. (word refl h, tt)) (λ at. refl)

-- the kind of a parameter, before its name
pub kind_printed : (kind : Kind) → Prints Always (kind_text kind) (Exactly (kind_word kind ∷ []))
kind_printed Var = fixed (Word (codes "var") ∷ Space 32 ∷ []) (kind_word Var ∷ []) (λ rest h. (word refl refl, (space, tt))) (λ at. refl)
kind_printed Const = fixed (Word (codes "const") ∷ Space 32 ∷ []) (kind_word Const ∷ []) (λ rest h. (word refl refl, (space, tt))) (λ at. refl)
