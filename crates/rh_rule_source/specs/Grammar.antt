-- The grammar of rule files: the classes of words, the nonterminals, and what each of them may be replaced by.
use Rattle.std.specs.Prelude.{ℕ, [], ◌∷◌}
use Rattle.rh_grammar.specs.declared.grammar.Symbol.TheVariants.{Token, Rule}
use Rattle.rh_grammar.specs.Derivation.{Rules}

-- the signs, and the words of the grammar
abbrev pub BECOMES : ℕ
BECOMES = 0

abbrev pub EQUAL : ℕ
EQUAL = 1

abbrev pub DIFFER : ℕ
DIFFER = 2

abbrev pub ARROW : ℕ
ARROW = 3

abbrev pub SEMICOLON : ℕ
SEMICOLON = 4

abbrev pub COMMA : ℕ
COMMA = 5

abbrev pub OPEN_PAREN : ℕ
OPEN_PAREN = 6

abbrev pub CLOSE_PAREN : ℕ
CLOSE_PAREN = 7

abbrev pub OPEN_BRACE : ℕ
OPEN_BRACE = 8

abbrev pub CLOSE_BRACE : ℕ
CLOSE_BRACE = 9

abbrev pub PLUS : ℕ
PLUS = 10

abbrev pub MINUS : ℕ
MINUS = 11

abbrev pub STAR : ℕ
STAR = 12

abbrev pub LESS : ℕ
LESS = 13

abbrev pub AMPERSAND : ℕ
AMPERSAND = 14

abbrev pub AT : ℕ
AT = 15

abbrev pub UNDERSCORE : ℕ
UNDERSCORE = 16

abbrev pub RHODIUM : ℕ
RHODIUM = 17

abbrev pub FACT : ℕ
FACT = 18

abbrev pub MEANS : ℕ
MEANS = 19

abbrev pub AND : ℕ
AND = 20

abbrev pub NUMBER_OF : ℕ
NUMBER_OF = 21

abbrev pub POINTER : ℕ
POINTER = 22

abbrev pub UNALIASED : ℕ
UNALIASED = 23

abbrev pub RULE : ℕ
RULE = 24

abbrev pub WHEN : ℕ
WHEN = 25

abbrev pub ENTRY : ℕ
ENTRY = 26

abbrev pub GOTO : ℕ
GOTO = 27

abbrev pub SKIP : ℕ
SKIP = 28

abbrev pub IF : ℕ
IF = 29

abbrev pub RETURN : ℕ
RETURN = 30

abbrev pub NEW : ℕ
NEW = 31

abbrev pub CALL : ℕ
CALL = 32

abbrev pub VAR : ℕ
VAR = 33

abbrev pub CONST : ℕ
CONST = 34

abbrev pub IN : ℕ
IN = 35

abbrev pub OUT : ℕ
OUT = 36

abbrev pub THEN : ℕ
THEN = 37

abbrev pub ELSE : ℕ
ELSE = 38

abbrev pub TRANSFORM : ℕ
TRANSFORM = 39

-- the other names, by their first letter
abbrev pub LOWER : ℕ
LOWER = 40

abbrev pub UPPER : ℕ
UPPER = 41

-- the number 1, the other numbers below 2 ^ 63, and 2 ^ 63
abbrev pub ONE : ℕ
ONE = 42

abbrev pub NUMBER : ℕ
NUMBER = 43

abbrev pub LARGEST : ℕ
LARGEST = 44

-- the nonterminals
abbrev pub file : ℕ
file = 0

abbrev pub items : ℕ
items = 1

abbrev pub item : ℕ
item = 2

abbrev pub fact : ℕ
fact = 3

abbrev pub param : ℕ
param = 4

abbrev pub params : ℕ
params = 5

abbrev pub atoms : ℕ
atoms = 6

abbrev pub atom : ℕ
atom = 7

abbrev pub relation : ℕ
relation = 8

abbrev pub mterm : ℕ
mterm = 9

abbrev pub mbase : ℕ
mbase = 10

abbrev pub num : ℕ
num = 11

abbrev pub size : ℕ
size = 12

abbrev pub op : ℕ
op = 13

abbrev pub rule : ℕ
rule = 14

abbrev pub metas : ℕ
metas = 15

abbrev pub pattern : ℕ
pattern = 16

abbrev pub form : ℕ
form = 17

abbrev pub right : ℕ
right = 18

abbrev pub operation : ℕ
operation = 19

abbrev pub wbase : ℕ
wbase = 20

abbrev pub when : ℕ
when = 21

abbrev pub conds : ℕ
conds = 22

abbrev pub cond : ℕ
cond = 23

abbrev pub fact_use : ℕ
fact_use = 24

abbrev pub args : ℕ
args = 25

abbrev pub sterm : ℕ
sterm = 26

abbrev pub conclusion : ℕ
conclusion = 27

abbrev pub slot : ℕ
slot = 28

-- What each nonterminal may be replaced by, in the order of their numbers.
unfoldable pub productions : Rules
productions =
    -- file = "rhodium" 1 ";" items | item items | nothing
    ((Token RHODIUM ∷ Token ONE ∷ Token SEMICOLON ∷ Rule items ∷ []) ∷ (Rule item ∷ Rule items ∷ []) ∷ [] ∷ []) ∷
    -- items = item items | nothing
    ((Rule item ∷ Rule items ∷ []) ∷ [] ∷ []) ∷
    -- item = fact | rule
    ((Rule fact ∷ []) ∷ (Rule rule ∷ []) ∷ []) ∷
    -- fact = "fact" Lower "(" param params ")" "means" atom atoms ";"
    ((Token FACT ∷ Token LOWER ∷ Token OPEN_PAREN ∷ Rule param ∷ Rule params ∷ Token CLOSE_PAREN ∷ Token MEANS ∷ Rule atom ∷ Rule atoms ∷ Token SEMICOLON ∷ []) ∷ []) ∷
    -- param = "var" Upper | "const" Upper
    ((Token VAR ∷ Token UPPER ∷ []) ∷ (Token CONST ∷ Token UPPER ∷ []) ∷ []) ∷
    -- params = "," param params | nothing
    ((Token COMMA ∷ Rule param ∷ Rule params ∷ []) ∷ [] ∷ []) ∷
    -- atoms = "and" atom atoms | nothing
    ((Token AND ∷ Rule atom ∷ Rule atoms ∷ []) ∷ [] ∷ []) ∷
    -- atom = "number" "(" mterm ")" | "pointer" "(" mterm ")" | "unaliased" "(" Upper ")" | mterm relation mterm
    ((Token NUMBER_OF ∷ Token OPEN_PAREN ∷ Rule mterm ∷ Token CLOSE_PAREN ∷ []) ∷ (Token POINTER ∷ Token OPEN_PAREN ∷ Rule mterm ∷ Token CLOSE_PAREN ∷ []) ∷ (Token UNALIASED ∷ Token OPEN_PAREN ∷ Token UPPER ∷ Token CLOSE_PAREN ∷ []) ∷ (Rule mterm ∷ Rule relation ∷ Rule mterm ∷ []) ∷ []) ∷
    -- relation = "==" | "!="
    ((Token EQUAL ∷ []) ∷ (Token DIFFER ∷ []) ∷ []) ∷
    -- mterm = "&" Upper | "*" Upper | "(" mbase op mbase ")" | mbase
    ((Token AMPERSAND ∷ Token UPPER ∷ []) ∷ (Token STAR ∷ Token UPPER ∷ []) ∷ (Token OPEN_PAREN ∷ Rule mbase ∷ Rule op ∷ Rule mbase ∷ Token CLOSE_PAREN ∷ []) ∷ (Rule mbase ∷ []) ∷ []) ∷
    -- mbase = Upper | num
    ((Token UPPER ∷ []) ∷ (Rule num ∷ []) ∷ []) ∷
    -- num = "-" size | 1 | NUMBER
    ((Token MINUS ∷ Rule size ∷ []) ∷ (Token ONE ∷ []) ∷ (Token NUMBER ∷ []) ∷ []) ∷
    -- size = 1 | NUMBER | 2^63
    ((Token ONE ∷ []) ∷ (Token NUMBER ∷ []) ∷ (Token LARGEST ∷ []) ∷ []) ∷
    -- op = "+" | "-" | "*" | "<" | "=="
    ((Token PLUS ∷ []) ∷ (Token MINUS ∷ []) ∷ (Token STAR ∷ []) ∷ (Token LESS ∷ []) ∷ (Token EQUAL ∷ []) ∷ []) ∷
    -- rule = "rule" Lower "(" metas ")" "{" pattern when "=>" conclusion "}"
    ((Token RULE ∷ Token LOWER ∷ Token OPEN_PAREN ∷ Rule metas ∷ Token CLOSE_PAREN ∷ Token OPEN_BRACE ∷ Rule pattern ∷ Rule when ∷ Token ARROW ∷ Rule conclusion ∷ Token CLOSE_BRACE ∷ []) ∷ []) ∷
    -- metas = param params | nothing
    ((Rule param ∷ Rule params ∷ []) ∷ [] ∷ []) ∷
    -- pattern = "entry" "(" Upper ")" | "goto" | form
    ((Token ENTRY ∷ Token OPEN_PAREN ∷ Token UPPER ∷ Token CLOSE_PAREN ∷ []) ∷ (Token GOTO ∷ []) ∷ (Rule form ∷ []) ∷ []) ∷
    -- form = "skip" | "*" Upper ":=" wbase | "if" wbase | "return" wbase | Upper ":=" right
    ((Token SKIP ∷ []) ∷ (Token STAR ∷ Token UPPER ∷ Token BECOMES ∷ Rule wbase ∷ []) ∷ (Token IF ∷ Rule wbase ∷ []) ∷ (Token RETURN ∷ Rule wbase ∷ []) ∷ (Token UPPER ∷ Token BECOMES ∷ Rule right ∷ []) ∷ []) ∷
    -- right = "_" | "new" | "&" Upper | "*" Upper | "call" "(" wbase ")" | mbase operation
    ((Token UNDERSCORE ∷ []) ∷ (Token NEW ∷ []) ∷ (Token AMPERSAND ∷ Token UPPER ∷ []) ∷ (Token STAR ∷ Token UPPER ∷ []) ∷ (Token CALL ∷ Token OPEN_PAREN ∷ Rule wbase ∷ Token CLOSE_PAREN ∷ []) ∷ (Rule mbase ∷ Rule operation ∷ []) ∷ []) ∷
    -- operation = op mbase | nothing
    ((Rule op ∷ Rule mbase ∷ []) ∷ [] ∷ []) ∷
    -- wbase = "_" | mbase
    ((Token UNDERSCORE ∷ []) ∷ (Rule mbase ∷ []) ∷ []) ∷
    -- when = "when" cond conds | nothing
    ((Token WHEN ∷ Rule cond ∷ Rule conds ∷ []) ∷ [] ∷ []) ∷
    -- conds = "," cond conds | nothing
    ((Token COMMA ∷ Rule cond ∷ Rule conds ∷ []) ∷ [] ∷ []) ∷
    -- cond = fact_use "@" "in" | sterm relation sterm
    ((Rule fact_use ∷ Token AT ∷ Token IN ∷ []) ∷ (Rule sterm ∷ Rule relation ∷ Rule sterm ∷ []) ∷ []) ∷
    -- fact_use = Lower "(" mbase args ")"
    ((Token LOWER ∷ Token OPEN_PAREN ∷ Rule mbase ∷ Rule args ∷ Token CLOSE_PAREN ∷ []) ∷ []) ∷
    -- args = "," mbase args | nothing
    ((Token COMMA ∷ Rule mbase ∷ Rule args ∷ []) ∷ [] ∷ []) ∷
    -- sterm = "(" mbase op mbase ")" | mbase
    ((Token OPEN_PAREN ∷ Rule mbase ∷ Rule op ∷ Rule mbase ∷ Token CLOSE_PAREN ∷ []) ∷ (Rule mbase ∷ []) ∷ []) ∷
    -- conclusion = fact_use "@" slot | "transform" form
    ((Rule fact_use ∷ Token AT ∷ Rule slot ∷ []) ∷ (Token TRANSFORM ∷ Rule form ∷ []) ∷ []) ∷
    -- slot = "out" | "then" | "else"
    ((Token OUT ∷ []) ∷ (Token THEN ∷ []) ∷ (Token ELSE ∷ []) ∷ []) ∷
    []
