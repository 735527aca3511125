-- A text that is printed piece by piece has the tokens that were printed.
use Rattle.std.proofs.Common.{◌≡◌, ℕ, ◌+◌, ◌≤◌, ◌^◌, Bool, true, false, cond, List, [], ◌∷◌, ◌++◌, length, map, Option, Some, None, refl, sym, ap, subst, ◌∙◌, arith, append_assoc, append-nil, length-append}
use Rattle.std.specs.Prelude.{nat_le}
use Rattle.std.specs.List.{prefix_len, list_all, flat_map, slice_range}
use Rattle.std.specs.Char.{is_ascii_digit}
use Rattle.std.specs.Fmt.{decimal}
use Rattle.std.specs.Str.Parse.{IsNumeral}
use Rattle.std.proofs.lemmas.Bool.{and_parts, and_from, leb-true, le-leb, or_parts}
use Rattle.std.proofs.lemmas.Fmt.{decimal_is_IsNumeral}
use Rattle.std.proofs.lemmas.Str.Parse.{IsDigitsTest, IsNumeralModel, FoldsDigits, numerals_by_fold}
use Rattle.rh_text.specs.declared.sign.Sign.{Sign}
use Rattle.rh_text.specs.declared.token.TokenKind.{TokenKind}
use Rattle.rh_text.specs.declared.token.Token.{Token}
use Rattle.rh_text.specs.Pieces.{is_space, is_word_byte, decimal_after, decimal_value, Piece, Space, Word, Digits, Mark, spelled, IsWord, IsDigits, Stops, IsPiece, ArePieces, AreTokens, kind_of, token_at, tokens_from}
use Rattle.rh_text.specs.Words.{spelling}
use Rattle.rh_text.proofs.TokenLemmas.{between}

-- ---- what the tokens of pieces say

-- what a token says by its kind, its spelling and its offset; a piece that is none says nothing
abbrev pub told_of : {X : Type 0} → (TokenKind → List ℕ → ℕ → X) → ℕ → List ℕ → Option TokenKind → List X
told_of say at bytes None = []
told_of say at bytes (Some kind) = say kind bytes at ∷ []

-- what the tokens of pieces say, the first of which stands at an offset
abbrev pub told : {X : Type 0} → (TokenKind → List ℕ → ℕ → X) → ℕ → List Piece → List X
told say at [] = []
told say at (p ∷ ps) = told_of say at (spelled p) (kind_of p) ++ told say (at + length (spelled p)) ps

module _ {X : Type 0} (say : TokenKind → List ℕ → ℕ → X) where
  pub told_append : (at : ℕ) (ps qs : List Piece) → told say at (ps ++ qs) ≡ told say at ps ++ told say (at + length (flat_map spelled ps)) qs
  told_append at [] qs = ap (λ n. told say n qs) (omega arith)
  told_append at (p ∷ ps) qs =
      let first = told_of say at (spelled p) (kind_of p) in
      let next = at + length (spelled p) in
      let place : next + length (flat_map spelled ps) ≡ at + length (spelled p ++ flat_map spelled ps) = omega (arith, length-append (spelled p) (flat_map spelled ps)) in
      ap (λ (l : List X). first ++ l) (told_append next ps qs ∙ ap (λ n. told say next ps ++ told say n qs) place)
      ∙ sym (append_assoc first (told say next ps) (told say (at + length (spelled p ++ flat_map spelled ps)) qs))

  -- what a token of a text says
  abbrev said : List ℕ → Token → X
  said text token = say token.kind (spelling text token) token.start

  one_tells : (text : List ℕ) (at len : ℕ) (bytes : List ℕ) (kind : Option TokenKind) (rest : List Token) → slice_range text at (at + len) ≡ bytes
      → map (said text) (token_at at len kind ++ rest) ≡ told_of say at bytes kind ++ map (said text) rest
  one_tells text at len bytes None rest is = refl
  one_tells text at len bytes (Some kind) rest is = ap (λ (b : List ℕ). say kind b at ∷ map (said text) rest) is

  -- the pieces stand behind other bytes
  pub tokens_tell_behind : (text before : List ℕ) (pieces : List Piece) → text ≡ before ++ flat_map spelled pieces → map (said text) (tokens_from (length before) pieces) ≡ told say (length before) pieces
  tokens_tell_behind text before [] whole = refl
  tokens_tell_behind text before (p ∷ ps) whole =
      let at = length before in
      let len = length (spelled p) in
      let here : slice_range text at (at + len) ≡ spelled p =
      ap (λ (t : List ℕ). slice_range t at (at + len)) whole ∙ between before (spelled p) (flat_map spelled ps) at (at + len) refl refl in
      let longer : text ≡ (before ++ spelled p) ++ flat_map spelled ps = whole ∙ sym (append_assoc before (spelled p) (flat_map spelled ps)) in
      let others : map (said text) (tokens_from (at + len) ps) ≡ told say (at + len) ps =
      subst (λ n. map (said text) (tokens_from n ps) ≡ told say n ps) (length-append before (spelled p)) (tokens_tell_behind text (before ++ spelled p) ps longer) in
      one_tells text at len (spelled p) (kind_of p) (tokens_from (at + len) ps) here
      ∙ ap (λ (l : List X). told_of say at (spelled p) (kind_of p) ++ l) others

  pub tokens_tell : (pieces : List Piece) → map (λ (t : Token). say t.kind (spelling (flat_map spelled pieces) t) t.start) (tokens_from 0 pieces) ≡ told say 0 pieces
  tokens_tell pieces = tokens_tell_behind (flat_map spelled pieces) [] pieces refl

-- ---- pieces one after another

flat_append : (ps qs : List Piece) (rest : List ℕ) → flat_map spelled ps ++ (flat_map spelled qs ++ rest) ≡ flat_map spelled (ps ++ qs) ++ rest
flat_append [] qs rest = refl
flat_append (p ∷ ps) qs rest =
    append_assoc (spelled p) (flat_map spelled ps) (flat_map spelled qs ++ rest)
    ∙ ap (λ (l : List ℕ). spelled p ++ l) (flat_append ps qs rest)
    ∙ sym (append_assoc (spelled p) (flat_map spelled (ps ++ qs)) rest)

pub are_pieces_append : (ps qs : List Piece) (rest : List ℕ) → ArePieces ps (flat_map spelled qs ++ rest) → ArePieces qs rest → ArePieces (ps ++ qs) rest
are_pieces_append [] qs rest first second = second
are_pieces_append (p ∷ ps) qs rest first second =
    (subst (IsPiece p) (flat_append ps qs rest) first.0, are_pieces_append ps qs rest first.1 second)

pub printed_tokens : (pieces : List Piece) → ArePieces pieces [] → AreTokens (flat_map spelled pieces) (tokens_from 0 pieces)
printed_tokens pieces are = record {
  pieces = pieces;
  split = record { whole = sym (append-nil (flat_map spelled pieces)); each = are };
  told = refl;
}

-- ---- single pieces

pub space_piece : (b : ℕ) (after : List ℕ) → is_space b ≡ true → IsPiece (Space b) after
space_piece b after space = record { form = space; longest = tt; within = tt }

pub sign_piece : (sign : Sign) (after : List ℕ) → IsPiece (Mark sign) after
sign_piece sign after = record { form = tt; longest = tt; within = tt }

pub word_piece : (bytes after : List ℕ) → IsWord bytes → length bytes ≤ 32 → Stops is_word_byte after → IsPiece (Word bytes) after
word_piece bytes after word short stops = record { form = word; longest = stops; within = short }

no_more : (t : Bool) (n : ℕ) → cond t (1 + n) 0 ≡ 0 → t ≡ false
no_more true n e = absurd (omega (arith, e))
no_more false n e = refl

-- where no word goes on, no number does
pub stops_digits : (after : List ℕ) → Stops is_word_byte after → Stops is_ascii_digit after
stops_digits [] stops = refl
stops_digits (b ∷ bs) stops =
    let no_byte : is_word_byte b ≡ false = no_more (is_word_byte b) (prefix_len is_word_byte bs) stops in
    ap (λ t. cond t (1 + prefix_len is_ascii_digit bs) 0) (or_parts _ _ (or_parts _ _ no_byte).0).1

abbrev AreDigits : List ℕ → Type 0
AreDigits digits = list_all is_ascii_digit digits ≡ true

tells_digits : IsDigitsTest AreDigits
tells_digits = record {
  empty = refl;
  parts = λ digit digits all.
      let both = and_parts (is_ascii_digit digit) (list_all is_ascii_digit digits) all in
      let range = and_parts (nat_le 48 digit) (nat_le digit 57) both.0 in
      ((leb-true 48 digit range.0, leb-true digit 57 range.1), both.1);
  more = λ digit digits range all.
      and_from (is_ascii_digit digit) (list_all is_ascii_digit digits)
      (and_from (nat_le 48 digit) (nat_le digit 57) (le-leb 48 digit range.0) (le-leb digit 57 range.1)) all;
}

folds_digits : FoldsDigits decimal_after
folds_digits = record { empty = λ n. refl; more = λ n digit digits range. ap (λ m. decimal_after m digits) (omega arith) }

numerals : IsNumeralModel AreDigits decimal_value
numerals = numerals_by_fold AreDigits tells_digits decimal_after folds_digits

numeral : (n : ℕ) → n ≤ 2 ^ 63 → IsNumeral 10 (decimal n)
numeral n small = (decimal_is_IsNumeral n (omega (arith, small))).0

-- the digits of a number
pub decimal_digits : (n : ℕ) → n ≤ 2 ^ 63 → IsDigits (decimal n)
decimal_digits n small = let is = numeral n small in (is.0, numerals.from (decimal n) is.1)

-- and the number that they stand for
pub decimal_value-decimal : (n : ℕ) → n ≤ 2 ^ 63 → decimal_value (decimal n) ≡ n
decimal_value-decimal n small = numerals.same (decimal n) (numeral n small).1 ∙ (decimal_is_IsNumeral n (omega (arith, small))).1

pub number_piece : (n : ℕ) (after : List ℕ) → n ≤ 2 ^ 63 → Stops is_word_byte after → IsPiece (Digits (decimal n)) after
number_piece n after small stops = record {
  form = decimal_digits n small;
  longest = stops_digits after stops;
  within = subst (λ m. m ≤ 2 ^ 63) (sym (decimal_value-decimal n small)) small;
}
