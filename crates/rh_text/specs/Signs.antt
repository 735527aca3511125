-- The signs, and which of them a text begins with.
use Rattle.std.specs.Prelude.{ℕ, List, [], ◌∷◌, Option, Some, None, slice_index, ◌==◌, ◌&&◌, if◌then◌else◌}
use Rattle.rh_text.specs.declared.sign.Sign.{Sign}
use Rattle.rh_text.specs.declared.sign.Sign.TheVariants.{Becomes, Equal, Differ, Arrow, Semicolon, Comma, OpenParen, CloseParen, OpenBrace, CloseBrace, Plus, Minus, Star, Less, Ampersand, At, Underscore}

-- the bytes of a sign: `:=` `==` `!=` `=>` `;` `,` `(` `)` `{` `}` `+` `-` `*` `<` `&` `@` `_`
abbrev pub sign_text : Sign → List ℕ
sign_text Becomes = 58 ∷ 61 ∷ []
sign_text Equal = 61 ∷ 61 ∷ []
sign_text Differ = 33 ∷ 61 ∷ []
sign_text Arrow = 61 ∷ 62 ∷ []
sign_text Semicolon = 59 ∷ []
sign_text Comma = 44 ∷ []
sign_text OpenParen = 40 ∷ []
sign_text CloseParen = 41 ∷ []
sign_text OpenBrace = 123 ∷ []
sign_text CloseBrace = 125 ∷ []
sign_text Plus = 43 ∷ []
sign_text Minus = 45 ∷ []
sign_text Star = 42 ∷ []
sign_text Less = 60 ∷ []
sign_text Ampersand = 38 ∷ []
sign_text At = 64 ∷ []
sign_text Underscore = 95 ∷ []

-- the sign of two bytes
abbrev pub two_byte_sign : ℕ → ℕ → Option Sign
two_byte_sign a b =
    if (a == 58) && (b == 61) then Some Becomes
    else (if (a == 61) && (b == 61) then Some Equal
    else (if (a == 33) && (b == 61) then Some Differ
    else (if (a == 61) && (b == 62) then Some Arrow
    else None)))

-- the sign of one byte
abbrev pub one_byte_sign : ℕ → Option Sign
one_byte_sign a =
    if a == 59 then Some Semicolon
    else (if a == 44 then Some Comma
    else (if a == 40 then Some OpenParen
    else (if a == 41 then Some CloseParen
    else (if a == 123 then Some OpenBrace
    else (if a == 125 then Some CloseBrace
    else (if a == 43 then Some Plus
    else (if a == 45 then Some Minus
    else (if a == 42 then Some Star
    else (if a == 60 then Some Less
    else (if a == 38 then Some Ampersand
    else (if a == 64 then Some At
    else (if a == 95 then Some Underscore
    else None))))))))))))

-- a sign with its length, or what stands in its place
abbrev pub with_len : ℕ → Option Sign → Option (Sign × ℕ) → Option (Sign × ℕ)
with_len n None other = other
with_len n (Some s) other = Some (s, n)

-- the sign at the front of a text, two bytes before one, and its length
unfoldable pub sign_at : List ℕ → Option (Sign × ℕ)
sign_at bytes = with_len 2 (two_byte_sign (slice_index bytes 0) (slice_index bytes 1)) (with_len 1 (one_byte_sign (slice_index bytes 0)) None)
