-- What a token says: a name its bytes, a number its value.
use Rattle.std.specs.Prelude.{ℕ, ◌<◌, ◌≤◌, List, length}
use Rattle.std.specs.List.{slice_range}
use Rattle.rh_text.specs.declared.sign.Sign.{Sign}
use Rattle.rh_text.specs.declared.sign.Sign.TheVariants.{Becomes, Equal, Differ, Arrow, Semicolon, Comma, OpenParen, CloseParen, OpenBrace, CloseBrace, Plus, Minus, Star, Less, Ampersand, At, Underscore}
use Rattle.rh_text.specs.declared.token.TokenKind.{TokenKind}
use Rattle.rh_text.specs.declared.token.TokenKind.TheVariants.{Lower, Upper, Number, Sign as SignKind}
use Rattle.rh_text.specs.declared.token.Token.{Token}
use Rattle.rh_text.specs.Pieces.{Piece, Word, Digits, Mark, HasForm, IsWithin, decimal_value}

-- the bytes of a token
abbrev pub spelling : List ℕ → Token → List ℕ
spelling text token = slice_range text token.start token.end

-- the value of a token that is a number
abbrev pub value_of : List ℕ → Token → ℕ
value_of text token = decimal_value (spelling text token)

-- what bytes are as a token of the kind
abbrev pub piece_as : TokenKind → List ℕ → Piece
piece_as Lower bytes = Word bytes
piece_as Upper bytes = Word bytes
piece_as Number bytes = Digits bytes
piece_as (SignKind sign) bytes = Mark sign

-- the token stands in the text
pub record IsTokenOf (text : List ℕ) (token : Token) : Type 0 where
  pub ordered : token.start < token.end
  pub inside : token.end ≤ length text
  pub form : HasForm (piece_as token.kind (spelling text token))
  pub within : IsWithin (piece_as token.kind (spelling text token))

-- the number of a sign, from 0
abbrev pub sign_number : Sign → ℕ
sign_number Becomes = 0
sign_number Equal = 1
sign_number Differ = 2
sign_number Arrow = 3
sign_number Semicolon = 4
sign_number Comma = 5
sign_number OpenParen = 6
sign_number CloseParen = 7
sign_number OpenBrace = 8
sign_number CloseBrace = 9
sign_number Plus = 10
sign_number Minus = 11
sign_number Star = 12
sign_number Less = 13
sign_number Ampersand = 14
sign_number At = 15
sign_number Underscore = 16
