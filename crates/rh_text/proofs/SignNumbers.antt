-- A sign is told by its number.
use Rattle.std.proofs.Common.{◌≡◌, ◌<◌, List, [], ◌∷◌, Option, Some, refl, sym, ap, ◌∙◌, arith}
use Rattle.std.proofs.lemmas.Option.{same_Some}
use Rattle.std.specs.Prelude.{slice_get}
use Rattle.rh_text.specs.declared.sign.Sign.{Sign}
use Rattle.rh_text.specs.declared.sign.Sign.TheVariants.{Becomes, Equal, Differ, Arrow, Semicolon, Comma, OpenParen, CloseParen, OpenBrace, CloseBrace, Plus, Minus, Star, Less, Ampersand, At, Underscore}
use Rattle.rh_text.specs.Words.{sign_number}

abbrev signs : List Sign
signs =
    Becomes ∷ Equal ∷ Differ ∷ Arrow ∷ Semicolon ∷ Comma ∷ OpenParen ∷ CloseParen ∷ OpenBrace ∷ CloseBrace ∷ Plus ∷ Minus ∷ Star ∷ Less ∷ Ampersand ∷ At ∷ Underscore ∷ []

numbered : (sign : Sign) → slice_get signs (sign_number sign) ≡ Some sign
numbered Becomes = refl
numbered _ = refl

-- two signs of one number are one
pub sign_number-inj : (a b : Sign) → sign_number a ≡ sign_number b → a ≡ b
sign_number-inj a b e = same_Some a b (sym (numbered a) ∙ ap (slice_get signs) e ∙ numbered b)

pub sign_number-lt : (sign : Sign) → sign_number sign < 17
sign_number-lt Becomes = omega arith
sign_number-lt _ = omega arith
