-- What the tokens of a rule file say.
use Rattle.std.specs.Prelude.{ℕ, ◌^◌, ◌==◌, nat_lt, List, Option, if◌then◌else◌, unwrap_or}
use Rattle.std.specs.Option.{option_map}
use Rattle.rh_text.specs.declared.token.TokenKind.{TokenKind}
use Rattle.rh_text.specs.declared.token.TokenKind.TheVariants.{Lower as LowerKind, Upper as UpperKind, Number as NumberKind, Sign as SignKind}
use Rattle.rh_text.specs.declared.token.Token.{Token}
use Rattle.rh_text.specs.Words.{spelling, sign_number}
use Rattle.rh_text.specs.Pieces.{decimal_value}
use Rattle.rh_il.specs.Name.{is_upper_name}
use Rattle.rh_rule.specs.declared.keyword.RuleKeyword.{RuleKeyword}
use Rattle.rh_rule.specs.declared.keyword.RuleKeyword.TheVariants.{Rhodium as RhodiumWord, Fact as FactWord, Var as VarWord, Const as ConstWord, Means as MeansWord, And as AndWord, Number as NumberWord, Pointer as PointerWord, Unaliased as UnaliasedWord, Rule as RuleWord, When as WhenWord, In as InWord, Out as OutWord, Then as ThenWord, Else as ElseWord, Transform as TransformWord, Entry as EntryWord, Goto as GotoWord, Skip as SkipWord, If as IfWord, Return as ReturnWord, New as NewWord, Call as CallWord}
use Rattle.rh_rule.specs.Keywords.{keyword_of}
use Rattle.rh_rule.specs.Words.{is_proper}
use Rattle.rh_rule_source.specs.declared.word.Word.{Word}
use Rattle.rh_rule_source.specs.declared.word.Word.TheVariants.{Fixed, Lower, Upper, Number}
use Rattle.rh_rule_source.specs.Grammar.{LOWER, UPPER, ONE, NUMBER, LARGEST, RHODIUM, FACT, MEANS, AND, NUMBER_OF, POINTER, UNALIASED, RULE, WHEN, ENTRY, GOTO, SKIP, IF, RETURN, NEW, CALL, VAR, CONST, IN, OUT, THEN, ELSE, TRANSFORM}

-- the class of a number
abbrev pub number_class : ℕ → ℕ
number_class n = if n == 1 then ONE else (if n == 2 ^ 63 then LARGEST else NUMBER)

-- the class of a word
abbrev pub class_of : Word → ℕ
class_of (Fixed class) = if nat_lt class LOWER then class else 255
class_of (Lower name) = LOWER
class_of (Upper name) = UPPER
class_of (Number n) = number_class n

-- the class of a reserved word
abbrev pub keyword_class : RuleKeyword → ℕ
keyword_class RhodiumWord = RHODIUM
keyword_class FactWord = FACT
keyword_class VarWord = VAR
keyword_class ConstWord = CONST
keyword_class MeansWord = MEANS
keyword_class AndWord = AND
keyword_class NumberWord = NUMBER_OF
keyword_class PointerWord = POINTER
keyword_class UnaliasedWord = UNALIASED
keyword_class RuleWord = RULE
keyword_class WhenWord = WHEN
keyword_class InWord = IN
keyword_class OutWord = OUT
keyword_class ThenWord = THEN
keyword_class ElseWord = ELSE
keyword_class TransformWord = TRANSFORM
keyword_class EntryWord = ENTRY
keyword_class GotoWord = GOTO
keyword_class SkipWord = SKIP
keyword_class IfWord = IF
keyword_class ReturnWord = RETURN
keyword_class NewWord = NEW
keyword_class CallWord = CALL

-- the class of a word, if it is reserved
abbrev pub word_class : List ℕ → Option ℕ
word_class bytes = option_map keyword_class (keyword_of bytes)

-- What a name says at an offset: a name with a capital letter, the name of a fact or a rule, or a reserved
-- word.
abbrev pub name_word : List ℕ → ℕ → Word
name_word bytes at =
    if is_upper_name bytes then Upper (record { name = bytes; at = at })
    else (if is_proper bytes then Lower (record { name = bytes; at = at }) else Fixed (unwrap_or (word_class bytes) 255))

-- what a token says
abbrev pub said : TokenKind → List ℕ → ℕ → Word
said LowerKind bytes at = name_word bytes at
said UpperKind bytes at = name_word bytes at
said NumberKind bytes at = Number (decimal_value bytes)
said (SignKind sign) bytes at = Fixed (sign_number sign)

abbrev pub word_of : List ℕ → Token → Word
word_of text token = said token.kind (spelling text token) token.start
