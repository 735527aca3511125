-- The pieces of the text of procedures: each part of the text, and then other pieces.
use Rattle.std.specs.Prelude.{ℕ, true, false, List, [], ◌∷◌, codes}
use Rattle.std.specs.Fmt.{decimal}
use Rattle.rh_text.specs.declared.sign.Sign.TheVariants.{Becomes, Semicolon, Comma, OpenParen, CloseParen, OpenBrace, CloseBrace, Minus, Star, Ampersand}
use Rattle.rh_text.specs.Pieces.{Piece, Space, Word, Digits, Mark}
use Rattle.rh_il.specs.declared.keyword.Keyword.{Keyword}
use Rattle.rh_il.specs.declared.keyword.Keyword.TheVariants.{Skip as SkipWord, Goto as GotoWord, If as IfWord, Else as ElseWord, Return as ReturnWord, New as NewWord, Var as VarWord}
use Rattle.rh_il_source.specs.declared.source.Operand.{Operand}
use Rattle.rh_il_source.specs.declared.source.Operand.TheVariants.{Var, Num}
use Rattle.rh_il_source.specs.declared.source.Line.{Line}
use Rattle.rh_il_source.specs.declared.source.Line.TheVariants.{Skip, Copy, Address, Load, Compute, Write, New, Call, Goto, If, Return}
use Rattle.rh_il_source.specs.declared.source.Source.{Source}
use Rattle.rh_il_source.specs.Source.{op_sign}

abbrev pub keyword_text : Keyword → List ℕ
keyword_text SkipWord = codes "skip"
keyword_text GotoWord = codes "goto"
keyword_text IfWord = codes "if"
keyword_text ElseWord = codes "else"
keyword_text ReturnWord = codes "return"
keyword_text NewWord = codes "new"
keyword_text VarWord = codes "var"

-- a space, and the end of a line
abbrev pub space : Piece
space = Space 32

abbrev pub line_end : Piece
line_end = Space 10

abbrev pub keyword : Keyword → Piece
keyword k = Word (keyword_text k)

abbrev pub number : ℕ → Piece
number n = Digits (decimal n)

abbrev pub operand_onto : Operand → List Piece → List Piece
operand_onto (Var name) ps = Word name ∷ ps
operand_onto (Num false n) ps = number n ∷ ps
operand_onto (Num true n) ps = Mark Minus ∷ number n ∷ ps

-- the variable to the left of `:=`
abbrev pub to_onto : List ℕ → List Piece → List Piece
to_onto to ps = Word to ∷ space ∷ Mark Becomes ∷ space ∷ ps

abbrev pub line_onto : Line → List Piece → List Piece
line_onto Skip ps = keyword SkipWord ∷ ps
line_onto (Copy to from) ps = to_onto to (operand_onto from ps)
line_onto (Address to of) ps = to_onto to (Mark Ampersand ∷ Word of ∷ ps)
line_onto (Load to from) ps = to_onto to (Mark Star ∷ Word from ∷ ps)
line_onto (Compute to op left right) ps = to_onto to (operand_onto left (space ∷ Mark (op_sign op) ∷ space ∷ operand_onto right ps))
line_onto (Write to from) ps = Mark Star ∷ to_onto to (operand_onto from ps)
line_onto (New to) ps = to_onto to (keyword NewWord ∷ ps)
line_onto (Call to called arg) ps = to_onto to (Word called ∷ Mark OpenParen ∷ operand_onto arg (Mark CloseParen ∷ ps))
line_onto (Goto to) ps = keyword GotoWord ∷ space ∷ number to ∷ ps
line_onto (If x taken other) ps =
    keyword IfWord ∷ space ∷ operand_onto x (space ∷ keyword GotoWord ∷ space ∷ number taken ∷ space ∷ keyword ElseWord ∷ space ∷ number other ∷ ps)
line_onto (Return x) ps = keyword ReturnWord ∷ space ∷ operand_onto x ps

-- statements, each on a line of its own
abbrev pub body_onto : List Line → List Piece → List Piece
body_onto [] ps = ps
body_onto (line ∷ lines) ps = space ∷ space ∷ line_onto line (Mark Semicolon ∷ line_end ∷ body_onto lines ps)

-- the locals after the first one
abbrev pub more_onto : List (List ℕ) → List Piece → List Piece
more_onto [] ps = ps
more_onto (name ∷ names) ps = Mark Comma ∷ space ∷ Word name ∷ more_onto names ps

abbrev pub locals_onto : List (List ℕ) → List Piece → List Piece
locals_onto [] ps = ps
locals_onto (first ∷ names) ps = space ∷ keyword VarWord ∷ space ∷ Word first ∷ more_onto names ps

-- the parameter, and the locals
abbrev pub vars_onto : List (List ℕ) → List Piece → List Piece
vars_onto [] ps = Mark CloseParen ∷ ps
vars_onto (param ∷ names) ps = Word param ∷ Mark CloseParen ∷ locals_onto names ps

abbrev pub source_onto : Source → List Piece → List Piece
source_onto p ps =
    Word p.name ∷ Mark OpenParen ∷ vars_onto p.vars (space ∷ Mark OpenBrace ∷ line_end ∷ body_onto p.body (Mark CloseBrace ∷ line_end ∷ ps))

abbrev pub sources_onto : List Source → List Piece → List Piece
sources_onto [] ps = ps
sources_onto (p ∷ sources) ps = source_onto p (sources_onto sources ps)
