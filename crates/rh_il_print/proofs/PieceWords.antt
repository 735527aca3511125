-- The tokens of pieces say the words of the procedures that they spell.
use Rattle.std.proofs.Common.{◌≡◌, ℕ, ◌≤◌, ◌<◌, ◌^◌, ◌+◌, true, false, cond, List, [], ◌∷◌, ◌++◌, map, Option, Some, None, refl, sym, ap, ◌∙◌, arith, append_assoc, length}
use Rattle.std.proofs.lemmas.Bool.{and_parts, false≢true}
use Rattle.std.specs.Prelude.{slice_index}
use Rattle.std.specs.List.{AllByRecursion, flat_map}
use Rattle.std.specs.Option.{is_none}
use Rattle.std.specs.Char.{is_ascii_lowercase}
use Rattle.rh_text.specs.declared.sign.Sign.TheVariants.{Becomes, Semicolon, Comma, OpenParen, CloseParen, OpenBrace, CloseBrace, Minus, Star, Ampersand}
use Rattle.rh_text.specs.declared.token.Token.{Token}
use Rattle.rh_text.specs.declared.token.TokenKind.{TokenKind}
use Rattle.rh_text.specs.declared.token.TokenKind.TheVariants.{Lower, Upper, Number as NumberKind, Sign as SignKind}
use Rattle.rh_text.specs.Pieces.{Piece, Word as WordPiece, Mark, spelled, kind_of, name_kind, decimal_value, tokens_from}
use Rattle.rh_text.specs.Words.{spelling}
use Rattle.rh_text.proofs.Printing.{told, told_of, tokens_tell, decimal_value-decimal}
use Rattle.rh_il.specs.declared.value.Op.{Op}
use Rattle.rh_il.specs.Name.{is_lower_name, is_name}
use Rattle.rh_il.specs.declared.keyword.Keyword.{Keyword}
use Rattle.rh_il.specs.declared.keyword.Keyword.TheVariants.{Goto as GotoWord, If as IfWord, Else as ElseWord, Return as ReturnWord, New as NewWord, Var as VarWord}
use Rattle.rh_il_source.specs.declared.word.Word.{Word}
use Rattle.rh_il_source.specs.declared.word.Word.TheVariants.{Sign as SignWord, Keyword as KeywordWord, Name, Number, Other}
use Rattle.rh_il_source.specs.declared.source.Operand.{Operand}
use Rattle.rh_il_source.specs.declared.source.Operand.TheVariants.{Var, Num}
use Rattle.rh_il_source.specs.declared.source.Line.{Line}
use Rattle.rh_il_source.specs.declared.source.Line.TheVariants.{Skip, Copy, Address, Load, Compute, Write, New, Call, Goto, If, Return}
use Rattle.rh_il_source.specs.declared.source.Source.{Source}
use Rattle.rh_il.specs.Keywords.{keyword_of}
use Rattle.rh_il_source.specs.Words.{lower_word, word_as, words_of}
use Rattle.rh_il_source.specs.Source.{op_sign, operand_words, line_words, closed_words, more_words, locals_words, source_words, file_words}
use Rattle.rh_il_text.proofs.Proper.{vars_words}
use Rattle.rh_il_source.proofs.Joined.{regroup}
use Rattle.rh_il_print.proofs.Fits.{IsProper, OperandFits, LineFits, SourceFits}
use Rattle.rh_il_print.proofs.Pieced.{space, line_end, keyword, number, operand_onto, to_onto, line_onto, body_onto, more_onto, locals_onto, vars_onto, source_onto, sources_onto}

-- what a token of a kind says, wherever it stands
abbrev say : TokenKind → List ℕ → ℕ → Word
say Lower bytes at = lower_word (keyword_of bytes) bytes
say Upper bytes at = Other
say NumberKind bytes at = Number (decimal_value bytes)
say (SignKind sign) bytes at = SignWord sign

abbrev said_of : Piece → List Word
said_of p = told_of say 0 (spelled p) (kind_of p)

abbrev pub said : List Piece → List Word
said [] = []
said (p ∷ ps) = said_of p ++ said ps

same_said : (at : ℕ) (bytes : List ℕ) (kind : Option TokenKind) → told_of say at bytes kind ≡ told_of say 0 bytes kind
same_said at bytes None = refl
same_said at bytes (Some Lower) = refl
same_said at bytes (Some Upper) = refl
same_said at bytes (Some NumberKind) = refl
same_said at bytes (Some (SignKind sign)) = refl

told_said : (at : ℕ) (ps : List Piece) → told say at ps ≡ said ps
told_said at [] = refl
told_said at (p ∷ ps) = λ i. same_said at (spelled p) (kind_of p) i ++ told_said (at + length (spelled p)) ps i

word_said : (text : List ℕ) (token : Token) (kind : TokenKind) → word_as kind text token ≡ say kind (spelling text token) token.start
word_said text token Lower = refl
word_said text token Upper = refl
word_said text token NumberKind = refl
word_said text token (SignKind sign) = refl

words_told : (text : List ℕ) (tokens : List Token) → words_of text tokens ≡ map (λ (t : Token). say t.kind (spelling text t) t.start) tokens
words_told text [] = refl
words_told text (t ∷ ts) = λ i. word_said text t t.kind i ∷ words_told text ts i

-- the words of the tokens of pieces
pub words_said : (ps : List Piece) → words_of (flat_map spelled ps) (tokens_from 0 ps) ≡ said ps
words_said ps = words_told (flat_map spelled ps) (tokens_from 0 ps) ∙ tokens_tell say ps ∙ told_said 0 ps

-- ---- names and numbers

first_small : (name : List ℕ) → is_lower_name name ≡ true → is_ascii_lowercase (slice_index name 0) ≡ true
first_small [] lower = absurd (false≢true lower)
first_small (b ∷ bs) lower = (and_parts (is_ascii_lowercase b) (is_name (b ∷ bs)) lower).0

not_reserved : (k : Option Keyword) → is_none k ≡ true → k ≡ None
not_reserved None e = refl
not_reserved (Some keyword) e = absurd cc

name_said : (name : List ℕ) (ps : List Piece) → IsProper name → said (WordPiece name ∷ ps) ≡ Name name ∷ said ps
name_said name ps proper =
    let parts = and_parts (is_lower_name name) (is_none (keyword_of name)) proper in
    let kind : name_kind name ≡ Lower = ap (λ b. cond b Lower Upper) (first_small name parts.0) in
    let word : lower_word (keyword_of name) name ≡ Name name =
    ap (λ (k : Option Keyword). lower_word k name) (not_reserved (keyword_of name) parts.1) ∙ ap (λ b. cond b (Name name) Other) proper in
    ap (λ (k : TokenKind). say k name 0 ∷ said ps) kind ∙ ap (λ (w : Word). w ∷ said ps) word

number_said : (n : ℕ) (ps : List Piece) → n ≤ 2 ^ 63 → said (number n ∷ ps) ≡ Number n ∷ said ps
number_said n ps small = ap (λ m. Number m ∷ said ps) (decimal_value-decimal n small)

operand_said : (x : Operand) (ps : List Piece) → OperandFits x → said (operand_onto x ps) ≡ operand_words x ++ said ps
operand_said (Var name) ps fits = name_said name ps fits
operand_said (Num false n) ps fits = number_said n ps (omega arith)
operand_said (Num true n) ps fits = ap (λ (ws : List Word). SignWord Minus ∷ ws) (number_said n ps fits)

to_said : (to : List ℕ) (ps : List Piece) (words : List Word) → IsProper to → said ps ≡ words → said (to_onto to ps) ≡ Name to ∷ SignWord Becomes ∷ words
to_said to ps words proper is =
    name_said to (space ∷ Mark Becomes ∷ space ∷ ps) proper ∙ ap (λ (ws : List Word). Name to ∷ SignWord Becomes ∷ ws) is

-- two operands and the operator between them
computed_said : (op : Op) (left right : Operand) (ps : List Piece) → OperandFits left → OperandFits right
    → said (operand_onto left (space ∷ Mark (op_sign op) ∷ space ∷ operand_onto right ps)) ≡ (operand_words left ++ SignWord (op_sign op) ∷ operand_words right) ++ said ps
computed_said op left right ps first second =
    operand_said left (space ∷ Mark (op_sign op) ∷ space ∷ operand_onto right ps) first
    ∙ ap (λ (ws : List Word). operand_words left ++ SignWord (op_sign op) ∷ ws) (operand_said right ps second)
    ∙ sym (append_assoc (operand_words left) (SignWord (op_sign op) ∷ operand_words right) (said ps))

called_said : (called : List ℕ) (arg : Operand) (ps : List Piece) → IsProper called → OperandFits arg
    → said (WordPiece called ∷ Mark OpenParen ∷ operand_onto arg (Mark CloseParen ∷ ps)) ≡ Name called ∷ SignWord OpenParen ∷ ((operand_words arg ++ SignWord CloseParen ∷ []) ++ said ps)
called_said called arg ps proper fits =
    name_said called (Mark OpenParen ∷ operand_onto arg (Mark CloseParen ∷ ps)) proper
    ∙ ap (λ (ws : List Word). Name called ∷ SignWord OpenParen ∷ ws)
    (operand_said arg (Mark CloseParen ∷ ps) fits ∙ sym (append_assoc (operand_words arg) (SignWord CloseParen ∷ []) (said ps)))

targets_said : (taken other : ℕ) (ps : List Piece) → taken < 2 ^ 32 → other < 2 ^ 32
    → said (space ∷ keyword GotoWord ∷ space ∷ number taken ∷ space ∷ keyword ElseWord ∷ space ∷ number other ∷ ps) ≡ KeywordWord GotoWord ∷ Number taken ∷ KeywordWord ElseWord ∷ Number other ∷ said ps
targets_said taken other ps first second =
    ap (λ (ws : List Word). KeywordWord GotoWord ∷ ws)
    (number_said taken (space ∷ keyword ElseWord ∷ space ∷ number other ∷ ps) (omega arith)
    ∙ ap (λ (ws : List Word). Number taken ∷ KeywordWord ElseWord ∷ ws) (number_said other ps (omega arith)))

branch_said : (x : Operand) (taken other : ℕ) (ps : List Piece) → LineFits (If x taken other)
    → said (line_onto (If x taken other) ps) ≡ line_words (If x taken other) ++ said ps
branch_said x taken other ps fits =
    let targets = space ∷ keyword GotoWord ∷ space ∷ number taken ∷ space ∷ keyword ElseWord ∷ space ∷ number other ∷ ps in
    ap (λ (ws : List Word). KeywordWord IfWord ∷ ws)
    (operand_said x targets fits.0 ∙ ap (λ (ws : List Word). operand_words x ++ ws) (targets_said taken other ps fits.1 fits.2)
    ∙ sym (append_assoc (operand_words x) (KeywordWord GotoWord ∷ Number taken ∷ KeywordWord ElseWord ∷ Number other ∷ []) (said ps)))

line_said : (line : Line) (ps : List Piece) → LineFits line → said (line_onto line ps) ≡ line_words line ++ said ps
line_said Skip ps fits = refl
line_said (Copy to from) ps fits = to_said to (operand_onto from ps) (operand_words from ++ said ps) fits.0 (operand_said from ps fits.1)
line_said (Address to of) ps fits =
    to_said to (Mark Ampersand ∷ WordPiece of ∷ ps) (SignWord Ampersand ∷ Name of ∷ said ps) fits.0
    (ap (λ (ws : List Word). SignWord Ampersand ∷ ws) (name_said of ps fits.1))
line_said (Load to from) ps fits =
    to_said to (Mark Star ∷ WordPiece from ∷ ps) (SignWord Star ∷ Name from ∷ said ps) fits.0
    (ap (λ (ws : List Word). SignWord Star ∷ ws) (name_said from ps fits.1))
line_said (Compute to op left right) ps fits =
    to_said to (operand_onto left (space ∷ Mark (op_sign op) ∷ space ∷ operand_onto right ps)) ((operand_words left ++ SignWord (op_sign op) ∷ operand_words right) ++ said ps) fits.0
    (computed_said op left right ps fits.1 fits.2)
line_said (Write to from) ps fits =
    ap (λ (ws : List Word). SignWord Star ∷ ws) (to_said to (operand_onto from ps) (operand_words from ++ said ps) fits.0 (operand_said from ps fits.1))
line_said (New to) ps fits = to_said to (keyword NewWord ∷ ps) (KeywordWord NewWord ∷ said ps) fits refl
line_said (Call to called arg) ps fits =
    to_said to (WordPiece called ∷ Mark OpenParen ∷ operand_onto arg (Mark CloseParen ∷ ps)) (Name called ∷ SignWord OpenParen ∷ ((operand_words arg ++ SignWord CloseParen ∷ []) ++ said ps)) fits.0
    (called_said called arg ps fits.1 fits.2)
line_said (Goto to) ps fits = ap (λ (ws : List Word). KeywordWord GotoWord ∷ ws) (number_said to ps (omega arith))
line_said (If x taken other) ps fits = branch_said x taken other ps fits
line_said (Return x) ps fits = ap (λ (ws : List Word). KeywordWord ReturnWord ∷ ws) (operand_said x ps fits)

body_said : (lines : List Line) (ps : List Piece) → AllByRecursion LineFits lines → said (body_onto lines ps) ≡ flat_map closed_words lines ++ said ps
body_said [] ps fits = refl
body_said (line ∷ lines) ps fits =
    line_said line (Mark Semicolon ∷ line_end ∷ body_onto lines ps) fits.0
    ∙ ap (λ (ws : List Word). line_words line ++ SignWord Semicolon ∷ ws) (body_said lines ps fits.1)
    ∙ sym (append_assoc (line_words line) (SignWord Semicolon ∷ []) (flat_map closed_words lines ++ said ps))
    ∙ sym (append_assoc (closed_words line) (flat_map closed_words lines) (said ps))

more_said : (names : List (List ℕ)) (ps : List Piece) → AllByRecursion IsProper names → said (more_onto names ps) ≡ more_words names ++ said ps
more_said [] ps proper = refl
more_said (n ∷ ns) ps proper =
    ap (λ (ws : List Word). SignWord Comma ∷ ws) (name_said n (more_onto ns ps) proper.0 ∙ ap (λ (ws : List Word). Name n ∷ ws) (more_said ns ps proper.1))

locals_said : (names : List (List ℕ)) (ps : List Piece) → AllByRecursion IsProper names → said (locals_onto names ps) ≡ locals_words names ++ said ps
locals_said [] ps proper = refl
locals_said (n ∷ ns) ps proper =
    ap (λ (ws : List Word). KeywordWord VarWord ∷ ws) (name_said n (more_onto ns ps) proper.0 ∙ ap (λ (ws : List Word). Name n ∷ ws) (more_said ns ps proper.1))

vars_said : (names : List (List ℕ)) (ps : List Piece) → AllByRecursion IsProper names → said (vars_onto names ps) ≡ vars_words names ++ said ps
vars_said [] ps proper = refl
vars_said (n ∷ ns) ps proper =
    name_said n (Mark CloseParen ∷ locals_onto ns ps) proper.0 ∙ ap (λ (ws : List Word). Name n ∷ SignWord CloseParen ∷ ws) (locals_said ns ps proper.1)

source_said : (p : Source) (ps : List Piece) → SourceFits p → said (source_onto p ps) ≡ source_words p ++ said ps
source_said p ps fits =
    let behind = Mark CloseBrace ∷ line_end ∷ ps in
    let block = space ∷ Mark OpenBrace ∷ line_end ∷ body_onto p.body behind in
    name_said p.name (Mark OpenParen ∷ vars_onto p.vars block) fits.name
    ∙ ap (λ (ws : List Word). Name p.name ∷ SignWord OpenParen ∷ ws)
    (vars_said p.vars block fits.vars ∙ ap (λ (ws : List Word). vars_words p.vars ++ SignWord OpenBrace ∷ ws) (body_said p.body behind fits.lines)
    ∙ regroup (vars_words p.vars) (flat_map closed_words p.body) (said ps))

-- the pieces of procedures say the words that spell them
pub sources_said : (sources : List Source) (ps : List Piece) → AllByRecursion SourceFits sources → said (sources_onto sources ps) ≡ file_words sources ++ said ps
sources_said [] ps fits = refl
sources_said (p ∷ others) ps fits =
    source_said p (sources_onto others ps) fits.0 ∙ ap (λ (ws : List Word). source_words p ++ ws) (sources_said others ps fits.1)
    ∙ sym (append_assoc (source_words p) (file_words others) (said ps))
