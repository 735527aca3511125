-- The signs and reserved words, in the order of their classes.
use Rattle.std.specs.Prelude.{ℕ, List, [], ◌∷◌, map, slice_get, unwrap_or, ◌++◌}
use Rattle.rh_text.specs.declared.sign.Sign.{Sign}
use Rattle.rh_text.specs.declared.sign.Sign.TheVariants.{Becomes, Equal, Differ, Arrow, Semicolon, Comma, OpenParen, CloseParen, OpenBrace, CloseBrace, Plus, Minus, Star, Less, Ampersand, At, Underscore}
use Rattle.rh_il.specs.declared.keyword.Keyword.{Keyword}
use Rattle.rh_il.specs.declared.keyword.Keyword.TheVariants.{Skip, Goto, If, Else, Return, New, Var}
use Rattle.rh_il_source.specs.declared.word.Word.{Word}
use Rattle.rh_il_source.specs.declared.word.Word.TheVariants.{Sign as SignWord, Keyword as KeywordWord, Other}

abbrev pub signs : List Sign
signs = Becomes ∷ Equal ∷ Differ ∷ Arrow ∷ Semicolon ∷ Comma ∷ OpenParen ∷ CloseParen ∷ OpenBrace ∷ CloseBrace ∷ Plus ∷ Minus ∷ Star ∷ Less ∷ Ampersand ∷ At ∷ Underscore ∷ []

abbrev pub keywords : List Keyword
keywords = Skip ∷ Goto ∷ If ∷ Else ∷ Return ∷ New ∷ Var ∷ []

-- the word of a class
abbrev pub fixed_word : ℕ → Word
fixed_word class = unwrap_or (slice_get (map (λ (s : Sign). SignWord s) signs ++ map (λ (k : Keyword). KeywordWord k) keywords) class) Other
