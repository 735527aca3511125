-- The grammar of programs: the classes of words, the nonterminals, and the alternatives of each.
use Rattle.std.specs.Prelude.{ℕ, ◌+◌, [], ◌∷◌}
use Rattle.rh_grammar.specs.declared.grammar.Symbol.TheVariants.{Token, Rule}
use Rattle.rh_grammar.specs.Derivation.{Rules}

abbrev pub becomes : ℕ
becomes = 0

abbrev pub equal : ℕ
equal = 1

abbrev pub semicolon : ℕ
semicolon = 4

abbrev pub comma : ℕ
comma = 5

abbrev pub open_paren : ℕ
open_paren = 6

abbrev pub close_paren : ℕ
close_paren = 7

abbrev pub open_brace : ℕ
open_brace = 8

abbrev pub close_brace : ℕ
close_brace = 9

abbrev pub plus : ℕ
plus = 10

abbrev pub minus : ℕ
minus = 11

abbrev pub star : ℕ
star = 12

abbrev pub less : ℕ
less = 13

abbrev pub ampersand : ℕ
ampersand = 14

-- how many signs there are
abbrev pub signs : ℕ
signs = 17

abbrev pub skip_word : ℕ
skip_word = signs

abbrev pub goto_word : ℕ
goto_word = signs + 1

abbrev pub if_word : ℕ
if_word = signs + 2

abbrev pub else_word : ℕ
else_word = signs + 3

abbrev pub return_word : ℕ
return_word = signs + 4

abbrev pub new_word : ℕ
new_word = signs + 5

abbrev pub var_word : ℕ
var_word = signs + 6

abbrev pub name : ℕ
name = signs + 7

abbrev pub index : ℕ
index = signs + 8

abbrev pub size : ℕ
size = signs + 9

abbrev pub least : ℕ
least = signs + 10

-- no alternative has this class
abbrev pub other : ℕ
other = signs + 11

abbrev pub program : ℕ
program = 0

abbrev pub procedure : ℕ
procedure = 1

abbrev pub locals : ℕ
locals = 2

abbrev pub more_locals : ℕ
more_locals = 3

abbrev pub body : ℕ
body = 4

abbrev pub statement : ℕ
statement = 5

abbrev pub value : ℕ
value = 6

abbrev pub behind_name : ℕ
behind_name = 7

abbrev pub behind_base : ℕ
behind_base = 8

abbrev pub base : ℕ
base = 9

abbrev pub number : ℕ
number = 10

abbrev pub magnitude : ℕ
magnitude = 11

abbrev pub operator : ℕ
operator = 12

-- What each nonterminal may be replaced by, in the order of their numbers.
unfoldable pub productions : Rules
productions =
    -- program
    ((Rule procedure ∷ Rule program ∷ []) ∷ [] ∷ []) ∷
    -- procedure
    ((Token name ∷ Token open_paren ∷ Token name ∷ Token close_paren ∷ Rule locals ∷ Token open_brace ∷ Rule body ∷ Token close_brace ∷ []) ∷ []) ∷
    -- locals
    ((Token var_word ∷ Token name ∷ Rule more_locals ∷ []) ∷ [] ∷ []) ∷
    -- more_locals
    ((Token comma ∷ Token name ∷ Rule more_locals ∷ []) ∷ [] ∷ []) ∷
    -- body
    ((Rule statement ∷ Token semicolon ∷ Rule body ∷ []) ∷ [] ∷ []) ∷
    -- statement
    ((Token skip_word ∷ []) ∷ (Token goto_word ∷ Token index ∷ []) ∷ (Token if_word ∷ Rule base ∷ Token goto_word ∷ Token index ∷ Token else_word ∷ Token index ∷ []) ∷ (Token return_word ∷ Rule base ∷ []) ∷ (Token star ∷ Token name ∷ Token becomes ∷ Rule base ∷ []) ∷ (Token name ∷ Token becomes ∷ Rule value ∷ []) ∷ []) ∷
    -- value
    ((Token new_word ∷ []) ∷ (Token ampersand ∷ Token name ∷ []) ∷ (Token star ∷ Token name ∷ []) ∷ (Token name ∷ Rule behind_name ∷ []) ∷ (Rule number ∷ Rule behind_base ∷ []) ∷ []) ∷
    -- behind_name
    ((Token open_paren ∷ Rule base ∷ Token close_paren ∷ []) ∷ (Rule operator ∷ Rule base ∷ []) ∷ [] ∷ []) ∷
    -- behind_base
    ((Rule operator ∷ Rule base ∷ []) ∷ [] ∷ []) ∷
    -- base
    ((Token name ∷ []) ∷ (Rule number ∷ []) ∷ []) ∷
    -- number
    ((Token index ∷ []) ∷ (Token size ∷ []) ∷ (Token minus ∷ Rule magnitude ∷ []) ∷ []) ∷
    -- magnitude
    ((Token index ∷ []) ∷ (Token size ∷ []) ∷ (Token least ∷ []) ∷ []) ∷
    -- operator
    ((Token plus ∷ []) ∷ (Token minus ∷ []) ∷ (Token star ∷ []) ∷ (Token less ∷ []) ∷ (Token equal ∷ []) ∷ []) ∷
    []
