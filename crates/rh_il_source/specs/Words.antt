-- The words of program texts, and their classes in the grammar.
use Rattle.std.specs.Prelude.{ℕ, ◌^◌, List, map, Option, Some, None, nat_lt, if◌then◌else◌}
use Rattle.rh_text.specs.declared.token.Token.{Token}
use Rattle.rh_text.specs.declared.token.TokenKind.{TokenKind}
use Rattle.rh_text.specs.declared.token.TokenKind.TheVariants.{Lower, Upper, Number as NumberKind, Sign as SignKind}
use Rattle.rh_text.specs.Words.{spelling, value_of, sign_number}
use Rattle.rh_il.specs.Keywords.{keyword_of}
use Rattle.rh_il.specs.Checks.{is_proper}
use Rattle.rh_il.specs.declared.keyword.Keyword.{Keyword}
use Rattle.rh_il.specs.declared.keyword.Keyword.TheVariants.{Skip, Goto, If, Else, Return, New, Var}
use Rattle.rh_il_source.specs.declared.word.Word.{Word}
use Rattle.rh_il_source.specs.declared.word.Word.TheVariants.{Sign, Keyword as KeywordWord, Name, Number, Other}
use Rattle.rh_il_source.specs.Grammar.{skip_word, goto_word, if_word, else_word, return_word, new_word, var_word, name, index, size, least, other}

-- the classes of reserved words come after those of the signs
abbrev pub keyword_number : Keyword → ℕ
keyword_number Skip = skip_word
keyword_number Goto = goto_word
keyword_number If = if_word
keyword_number Else = else_word
keyword_number Return = return_word
keyword_number New = new_word
keyword_number Var = var_word

-- a name that programs may have, or another one
abbrev pub name_word : List ℕ → Word
name_word bytes = if is_proper bytes then Name bytes else Other

-- a name, unless the word is reserved
abbrev pub lower_word : Option Keyword → List ℕ → Word
lower_word (Some keyword) bytes = KeywordWord keyword
lower_word None bytes = name_word bytes

-- what a token of a kind says
abbrev pub word_as : TokenKind → List ℕ → Token → Word
word_as Lower text token = lower_word (keyword_of (spelling text token)) (spelling text token)
word_as Upper text token = Other
word_as NumberKind text token = Number (value_of text token)
word_as (SignKind sign) text token = Sign sign

-- what a token says
abbrev pub word_of : List ℕ → Token → Word
word_of text token = word_as token.kind text token

-- the class of a number: a target or an operand, an operand, or an operand that may only follow `-`
abbrev pub number_class : ℕ → ℕ
number_class n = if nat_lt n (2 ^ 32) then index else (if nat_lt n (2 ^ 63) then size else least)

-- the class of a word; no production has the last one
abbrev pub class_of : Word → ℕ
class_of (Sign sign) = sign_number sign
class_of (KeywordWord keyword) = keyword_number keyword
class_of (Name bytes) = name
class_of (Number n) = number_class n
class_of Other = other

-- the words of tokens of a text
abbrev pub words_of : List ℕ → List Token → List Word
words_of text tokens = map (word_of text) tokens

-- the classes of words
abbrev pub classes_of : List Word → List ℕ
classes_of words = map class_of words
