-- The pieces of procedures stand as pieces in their text: each goes on as long as it can.
use Rattle.std.proofs.Common.{◌≡◌, ℕ, ◌≤◌, ◌^◌, Bool, true, false, ◌&&◌, ◌||◌, List, [], ◌∷◌, ◌++◌, length, refl, arith}
use Rattle.std.proofs.lemmas.Bool.{and_parts, and_from, or_left, false≢true, leb-true}
use Rattle.std.specs.Prelude.{nat_le, ◌==◌}
use Rattle.std.specs.List.{AllByRecursion, flat_map, list_all}
use Rattle.std.specs.Char.{is_ascii_alphabetic, is_ascii_digit, is_ascii_lowercase}
use Rattle.std.specs.Int.{is_in_range}
use Rattle.std.specs.Option.{is_none}
use Rattle.rh_text.specs.declared.sign.Sign.{Sign}
use Rattle.rh_text.specs.declared.sign.Sign.TheVariants.{Becomes, Semicolon, Comma, OpenParen, CloseParen, OpenBrace, CloseBrace, Minus, Star, Ampersand}
use Rattle.rh_text.specs.Pieces.{Piece, Word, Mark, spelled, is_word_byte, IsWord, Stops, IsPiece, ArePieces}
use Rattle.rh_text.proofs.Printing.{space_piece, sign_piece, word_piece, number_piece}
use Rattle.rh_il.specs.Keywords.{keyword_of}
use Rattle.rh_il.specs.Name.{is_lower_name, is_name, is_word_byte as is_name_byte}
use Rattle.rh_il.specs.declared.keyword.Keyword.{Keyword}
use Rattle.rh_il.specs.declared.keyword.Keyword.TheVariants.{Skip as SkipWord, Goto as GotoWord, If as IfWord, Else as ElseWord, Return as ReturnWord, New as NewWord, Var as VarWord}
use Rattle.rh_il_source.specs.declared.source.Operand.{Operand}
use Rattle.rh_il_source.specs.declared.source.Operand.TheVariants.{Var, Num}
use Rattle.rh_il_source.specs.declared.source.Line.{Line}
use Rattle.rh_il_source.specs.declared.source.Line.TheVariants.{Skip, Copy, Address, Load, Compute, Write, New, Call, Goto, If, Return}
use Rattle.rh_il_source.specs.declared.source.Source.{Source}
use Rattle.rh_il_source.specs.Source.{op_sign}
use Rattle.rh_il_print.proofs.Fits.{IsProper, OperandFits, LineFits, SourceFits}
use Rattle.rh_il_print.proofs.Pieced.{space, line_end, keyword, keyword_text, number, operand_onto, to_onto, line_onto, body_onto, more_onto, locals_onto, vars_onto, source_onto, sources_onto}

-- no name and no number goes on into these pieces
abbrev Ends : List Piece → List ℕ → Type 0
Ends ps rest = Stops is_word_byte (flat_map spelled ps ++ rest)

-- the letters, digits and `_` of names are those of texts
same_test : (digit upper lower other : Bool) → (((digit || upper) || lower) || other) ≡ true → (((upper || lower) || digit) || other) ≡ true
same_test true true lower other e = refl
same_test true false true other e = refl
same_test true false false other e = refl
same_test false true lower other e = refl
same_test false false true other e = refl
same_test false false false other e = e

same_bytes : (bs : List ℕ) → list_all is_name_byte bs ≡ true → list_all is_word_byte bs ≡ true
same_bytes [] all = refl
same_bytes (b ∷ bs) all =
    let parts = and_parts (is_name_byte b) (list_all is_name_byte bs) all in
    and_from (is_word_byte b) (list_all is_word_byte bs) (same_test (is_in_range 48 57 b) (is_in_range 65 90 b) (is_in_range 97 122 b) (b == 95) parts.0) (same_bytes bs parts.1)

-- a name that programs may have is a word
proper_word : (name : List ℕ) → is_lower_name name ≡ true → IsWord name × (length name ≤ 32)
proper_word [] lower = absurd (false≢true lower)
proper_word (b ∷ bs) lower =
    let named = (and_parts (is_ascii_lowercase b) (is_name (b ∷ bs)) lower).1 in
    let first = and_parts (is_ascii_alphabetic b) (nat_le (length bs) 31 && list_all is_name_byte bs) named in
    let rest = and_parts (nat_le (length bs) 31) (list_all is_name_byte bs) first.1 in
    let short = leb-true (length bs) 31 rest.0 in
    let letter : is_word_byte b ≡ true =
    or_left (is_ascii_alphabetic b || is_ascii_digit b) (b == 95) (or_left (is_ascii_alphabetic b) (is_ascii_digit b) first.0) in
    ((first.0, and_from (is_word_byte b) (list_all is_word_byte bs) letter (same_bytes bs rest.1)), omega arith)

name : (bytes : List ℕ) {after : List ℕ} → IsProper bytes → Stops is_word_byte after → IsPiece (Word bytes) after
name bytes {after} proper stops =
    let word = proper_word bytes (and_parts (is_lower_name bytes) (is_none (keyword_of bytes)) proper).0 in
    word_piece bytes after word.0 word.1 stops

known : (k : Keyword) {after : List ℕ} → Stops is_word_byte after → IsPiece (keyword k) after
known SkipWord {after} stops = word_piece (keyword_text SkipWord) after (refl, refl) (omega arith) stops
known GotoWord {after} stops = word_piece (keyword_text GotoWord) after (refl, refl) (omega arith) stops
known IfWord {after} stops = word_piece (keyword_text IfWord) after (refl, refl) (omega arith) stops
known ElseWord {after} stops = word_piece (keyword_text ElseWord) after (refl, refl) (omega arith) stops
known ReturnWord {after} stops = word_piece (keyword_text ReturnWord) after (refl, refl) (omega arith) stops
known NewWord {after} stops = word_piece (keyword_text NewWord) after (refl, refl) (omega arith) stops
known VarWord {after} stops = word_piece (keyword_text VarWord) after (refl, refl) (omega arith) stops

digits : (n : ℕ) {after : List ℕ} → n ≤ 2 ^ 63 → Stops is_word_byte after → IsPiece (number n) after
digits n {after} small stops = number_piece n after small stops

gap : {after : List ℕ} → IsPiece space after
gap {after} = space_piece 32 after refl

end : {after : List ℕ} → IsPiece line_end after
end {after} = space_piece 10 after refl

mark : (sign : Sign) {after : List ℕ} → IsPiece (Mark sign) after
mark sign {after} = sign_piece sign after

-- each part stands there, if what is after it does
module _ (rest : List ℕ) where
  operand_are : (x : Operand) (ps : List Piece) → OperandFits x → Ends ps rest → ArePieces ps rest → ArePieces (operand_onto x ps) rest
  operand_are (Var bytes) ps fits ends are = (name bytes fits ends, are)
  operand_are (Num false n) ps fits ends are = let small : n ≤ 2 ^ 63 = omega arith in (digits n small ends, are)
  operand_are (Num true n) ps fits ends are = (mark Minus, (digits n fits ends, are))

  to_are : (to : List ℕ) (ps : List Piece) → IsProper to → ArePieces ps rest → ArePieces (to_onto to ps) rest
  to_are to ps proper are = (name to proper refl, (gap, (mark Becomes, (gap, are))))

  branch_are : (x : Operand) (taken other : ℕ) (ps : List Piece) → LineFits (If x taken other) → Ends ps rest → ArePieces ps rest → ArePieces (line_onto (If x taken other) ps) rest
  branch_are x taken other ps fits ends are =
      let first : taken ≤ 2 ^ 63 = omega (arith, fits.1) in
      let second : other ≤ 2 ^ 63 = omega (arith, fits.2) in (
        known IfWord refl,
        (
          gap,
          operand_are x (space ∷ keyword GotoWord ∷ space ∷ number taken ∷ space ∷ keyword ElseWord ∷ space ∷ number other ∷ ps) fits.0 refl
              (gap, (known GotoWord refl, (gap, (digits taken first refl, (gap, (known ElseWord refl, (gap, (digits other second ends, are)))))))),
        ),
      )

  line_are : (line : Line) (ps : List Piece) → LineFits line → Ends ps rest → ArePieces ps rest → ArePieces (line_onto line ps) rest
  line_are Skip ps fits ends are = (known SkipWord ends, are)
  line_are (Copy to from) ps fits ends are = to_are to (operand_onto from ps) fits.0 (operand_are from ps fits.1 ends are)
  line_are (Address to of) ps fits ends are = to_are to (Mark Ampersand ∷ Word of ∷ ps) fits.0 (mark Ampersand, (name of fits.1 ends, are))
  line_are (Load to from) ps fits ends are = to_are to (Mark Star ∷ Word from ∷ ps) fits.0 (mark Star, (name from fits.1 ends, are))
  line_are (Compute to op left right) ps fits ends are =
      let behind = space ∷ Mark (op_sign op) ∷ space ∷ operand_onto right ps in
      to_are to (operand_onto left behind) fits.0 (operand_are left behind fits.1 refl (gap, (mark (op_sign op), (gap, operand_are right ps fits.2 ends are))))
  line_are (Write to from) ps fits ends are = (mark Star, to_are to (operand_onto from ps) fits.0 (operand_are from ps fits.1 ends are))
  line_are (New to) ps fits ends are = to_are to (keyword NewWord ∷ ps) fits (known NewWord ends, are)
  line_are (Call to called arg) ps fits ends are =
      to_are to (Word called ∷ Mark OpenParen ∷ operand_onto arg (Mark CloseParen ∷ ps)) fits.0
      (name called fits.1 refl, (mark OpenParen, operand_are arg (Mark CloseParen ∷ ps) fits.2 refl (mark CloseParen, are)))
  line_are (Goto to) ps fits ends are = let small : to ≤ 2 ^ 63 = omega (arith, fits) in (known GotoWord refl, (gap, (digits to small ends, are)))
  line_are (If x taken other) ps fits ends are = branch_are x taken other ps fits ends are
  line_are (Return x) ps fits ends are = (known ReturnWord refl, (gap, operand_are x ps fits ends are))

  body_are : (lines : List Line) (ps : List Piece) → AllByRecursion LineFits lines → ArePieces ps rest → ArePieces (body_onto lines ps) rest
  body_are [] ps fits are = are
  body_are (line ∷ lines) ps fits are =
      (gap, (gap, line_are line (Mark Semicolon ∷ line_end ∷ body_onto lines ps) fits.0 refl (mark Semicolon, (end, body_are lines ps fits.1 are))))

  more_end : (names : List (List ℕ)) (ps : List Piece) → Ends ps rest → Ends (more_onto names ps) rest
  more_end [] ps ends = ends
  more_end (n ∷ ns) ps ends = refl

  more_are : (names : List (List ℕ)) (ps : List Piece) → AllByRecursion IsProper names → Ends ps rest → ArePieces ps rest → ArePieces (more_onto names ps) rest
  more_are [] ps proper ends are = are
  more_are (n ∷ ns) ps proper ends are = (mark Comma, (gap, (name n proper.0 (more_end ns ps ends), more_are ns ps proper.1 ends are)))

  locals_are : (names : List (List ℕ)) (ps : List Piece) → AllByRecursion IsProper names → Ends ps rest → ArePieces ps rest → ArePieces (locals_onto names ps) rest
  locals_are [] ps proper ends are = are
  locals_are (n ∷ ns) ps proper ends are = (gap, (known VarWord refl, (gap, (name n proper.0 (more_end ns ps ends), more_are ns ps proper.1 ends are))))

  vars_are : (names : List (List ℕ)) (ps : List Piece) → AllByRecursion IsProper names → Ends ps rest → ArePieces ps rest → ArePieces (vars_onto names ps) rest
  vars_are [] ps proper ends are = (mark CloseParen, are)
  vars_are (n ∷ ns) ps proper ends are = (name n proper.0 refl, (mark CloseParen, locals_are ns ps proper.1 ends are))

  source_are : (p : Source) (ps : List Piece) → SourceFits p → ArePieces ps rest → ArePieces (source_onto p ps) rest
  source_are p ps fits are =
      let behind = Mark CloseBrace ∷ line_end ∷ ps in (
        name p.name fits.name refl,
        (
          mark OpenParen,
          vars_are p.vars (space ∷ Mark OpenBrace ∷ line_end ∷ body_onto p.body behind) fits.vars refl
              (gap, (mark OpenBrace, (end, body_are p.body behind fits.lines (mark CloseBrace, (end, are))))),
        ),
      )

  pub sources_are : (sources : List Source) (ps : List Piece) → AllByRecursion SourceFits sources → ArePieces ps rest → ArePieces (sources_onto sources ps) rest
  sources_are [] ps fits are = are
  sources_are (p ∷ others) ps fits are = source_are p (sources_onto others ps) fits.0 (sources_are others ps fits.1 are)
