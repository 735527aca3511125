-- A text as a list of pieces: gaps, names, numbers and signs, each as long as it goes.
use Rattle.std.specs.Prelude.{◌≡◌, ℕ, ◌+◌, ◌-◌, ◌*◌, ◌^◌, ◌<◌, ◌≤◌, Bool, not, ◌||◌, List, [], ◌∷◌, ◌++◌, length, ◌==◌, if◌then◌else◌, slice_index, Option, Some, None, true}
use Rattle.std.specs.List.{prefix_len, list_all, flat_map}
use Rattle.std.specs.Char.{is_ascii_alphabetic, is_ascii_digit, is_ascii_lowercase}
use Rattle.rh_text.specs.declared.sign.Sign.{Sign}
use Rattle.rh_text.specs.declared.token.TokenKind.{TokenKind}
use Rattle.rh_text.specs.declared.token.TokenKind.TheVariants.{Lower, Upper, Number, Sign as SignKind}
use Rattle.rh_text.specs.declared.token.Token.{Token}
use Rattle.rh_text.specs.declared.token.LexFault.{LexFault}
use Rattle.rh_text.specs.declared.token.LexFault.TheVariants.{BadByte, NumberRange, LongName, NoMemory}
use Rattle.rh_text.specs.Signs.{sign_text}

-- space, tab, CR and LF
abbrev pub is_space : ℕ → Bool
is_space b = (((b == 32) || (b == 9)) || (b == 13)) || (b == 10)

-- a letter, a digit or `_`
abbrev pub is_word_byte : ℕ → Bool
is_word_byte b = (is_ascii_alphabetic b || is_ascii_digit b) || (b == 95)

-- any byte but LF
abbrev pub is_comment_byte : ℕ → Bool
is_comment_byte b = not (b == 10)

-- the number that digits stand for, after the number so far
abbrev pub decimal_after : ℕ → List ℕ → ℕ
decimal_after n [] = n
decimal_after n (d ∷ ds) = decimal_after (10 * n + (d - 48)) ds

-- the number that digits stand for
abbrev pub decimal_value : List ℕ → ℕ
decimal_value ds = decimal_after 0 ds

-- what a text consists of
pub data Piece : Type 0 where
  Space : ℕ → Piece
  Comment : List ℕ → Piece
  Word : List ℕ → Piece
  Digits : List ℕ → Piece
  Mark : Sign → Piece

-- the bytes of a piece; a comment begins with `#`
abbrev pub spelled : Piece → List ℕ
spelled (Space b) = b ∷ []
spelled (Comment bs) = 35 ∷ bs
spelled (Word bs) = bs
spelled (Digits bs) = bs
spelled (Mark s) = sign_text s

-- a letter, and then letters, digits and `_`
abbrev pub IsWord : List ℕ → Type 0
IsWord bs = (is_ascii_alphabetic (slice_index bs 0) ≡ true) × (list_all is_word_byte bs ≡ true)

-- one digit or more
abbrev pub IsDigits : List ℕ → Type 0
IsDigits bs = (0 < length bs) × (list_all is_ascii_digit bs ≡ true)

-- no byte of this kind stands at the front: a run of them has come to its end
abbrev pub Stops : (ℕ → Bool) → List ℕ → Type 0
Stops p after = prefix_len p after ≡ 0

-- the piece has the form of its kind
abbrev pub HasForm : Piece → Type 0
HasForm (Space b) = is_space b ≡ true
HasForm (Comment bs) = list_all is_comment_byte bs ≡ true
HasForm (Word bs) = IsWord bs
HasForm (Digits bs) = IsDigits bs
HasForm (Mark s) = Unit {0}

-- the piece goes on as long as it can before what comes after it
abbrev pub IsLongest : Piece → List ℕ → Type 0
IsLongest (Space b) after = Unit {0}
IsLongest (Comment bs) after = Stops is_comment_byte after
IsLongest (Word bs) after = Stops is_word_byte after
IsLongest (Digits bs) after = Stops is_ascii_digit after
IsLongest (Mark s) after = Unit {0}

-- a name has at most 32 bytes, and a number is at most 2 ^ 63
abbrev pub IsWithin : Piece → Type 0
IsWithin (Space b) = Unit {0}
IsWithin (Comment bs) = Unit {0}
IsWithin (Word bs) = length bs ≤ 32
IsWithin (Digits bs) = decimal_value bs ≤ 2 ^ 63
IsWithin (Mark s) = Unit {0}

-- the piece stands before the bytes after it
pub record IsPiece (piece : Piece) (after : List ℕ) : Type 0 where
  pub form : HasForm piece
  pub longest : IsLongest piece after
  pub within : IsWithin piece

-- pieces one after another, up to the rest of a text
abbrev pub ArePieces : List Piece → List ℕ → Type 0
ArePieces [] rest = Unit {0}
ArePieces (p ∷ ps) rest = IsPiece p (flat_map spelled ps ++ rest) × ArePieces ps rest

-- the text is these pieces, and then the rest
pub record Splits (text : List ℕ) (pieces : List Piece) (rest : List ℕ) : Type 0 where
  pub whole : text ≡ flat_map spelled pieces ++ rest
  pub each : ArePieces pieces rest

-- the kind of a name goes by its first letter
abbrev pub name_kind : List ℕ → TokenKind
name_kind bs = if is_ascii_lowercase (slice_index bs 0) then Lower else Upper

-- the kind of token that a piece is, if it is one
abbrev pub kind_of : Piece → Option TokenKind
kind_of (Space b) = None
kind_of (Comment bs) = None
kind_of (Word bs) = Some (name_kind bs)
kind_of (Digits bs) = Some Number
kind_of (Mark s) = Some (SignKind s)

-- the token of a kind at an offset, of a length
abbrev pub token_at : ℕ → ℕ → Option TokenKind → List Token
token_at at len None = []
token_at at len (Some kind) = record { kind = kind; start = at; end = at + len } ∷ []

-- the tokens of pieces, the first of which stands at an offset
abbrev pub tokens_from : ℕ → List Piece → List Token
tokens_from at [] = []
tokens_from at (p ∷ ps) = token_at at (length (spelled p)) (kind_of p) ++ tokens_from (at + length (spelled p)) ps

-- these are the tokens of the text
pub record AreTokens (text : List ℕ) (tokens : List Token) : Type 0 where
  pub pieces : List Piece
  pub split : Splits text pieces []
  pub told : tokens ≡ tokens_from 0 pieces

-- a number or a name, as long as it goes, stands before the bytes after it and is too large
pub record IsTooLarge (piece : Piece) (after rest : List ℕ) : Type 0 where
  pub whole : rest ≡ spelled piece ++ after
  pub form : HasForm piece
  pub longest : IsLongest piece after
  pub large : IsWithin piece → ⊥

-- what stands at the offset is the fault
abbrev pub IsFaultAt : ℕ → List ℕ → LexFault → Type 0
IsFaultAt at rest (BadByte offset) =
    (offset ≡ at) × (0 < length rest) × ((piece : Piece) (after : List ℕ) → rest ≡ spelled piece ++ after → HasForm piece → ⊥)
IsFaultAt at rest (NumberRange offset) =
    (offset ≡ at) × (bs : List ℕ) × (after : List ℕ) × IsTooLarge (Digits bs) after rest
IsFaultAt at rest (LongName offset) =
    (offset ≡ at) × (bs : List ℕ) × (after : List ℕ) × IsTooLarge (Word bs) after rest
IsFaultAt at rest NoMemory = ⊥

-- the text is pieces up to an offset, and there is the fault
pub record IsFirstFault (text : List ℕ) (fault : LexFault) : Type 0 where
  pub pieces : List Piece
  pub rest : List ℕ
  pub split : Splits text pieces rest
  pub there : IsFaultAt (length (flat_map spelled pieces)) rest fault
