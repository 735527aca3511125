-- Procedures as their text has them, and the words that spell them.
use Rattle.std.specs.Prelude.{ℕ, true, false, List, [], ◌∷◌, ◌++◌}
use Rattle.std.specs.List.{flat_map}
use Rattle.rh_text.specs.declared.sign.Sign.{Sign}
use Rattle.rh_text.specs.declared.sign.Sign.TheVariants.{Becomes, Equal, Semicolon, Comma, OpenParen, CloseParen, OpenBrace, CloseBrace, Plus, Minus, Star, Less, Ampersand}
use Rattle.rh_il.specs.declared.value.Op.{Op}
use Rattle.rh_il.specs.declared.value.Op.TheVariants.{Add, Sub, Mul, Less as LessOp, Equal as EqualOp}
use Rattle.rh_il.specs.declared.keyword.Keyword.TheVariants.{Skip as SkipWord, Goto as GotoWord, If as IfWord, Else as ElseWord, Return as ReturnWord, New as NewWord, Var as VarWord}
use Rattle.rh_il_source.specs.declared.word.Word.{Word}
use Rattle.rh_il_source.specs.declared.word.Word.TheVariants.{Sign as SignWord, Keyword as KeywordWord, Name, Number}
use Rattle.rh_il_source.specs.declared.source.Operand.{Operand}
use Rattle.rh_il_source.specs.declared.source.Operand.TheVariants.{Var, Num}
use Rattle.rh_il_source.specs.declared.source.Line.{Line}
use Rattle.rh_il_source.specs.declared.source.Line.TheVariants.{Skip, Copy, Address, Load, Compute, Write, New, Call, Goto, If, Return}
use Rattle.rh_il_source.specs.declared.source.Source.{Source}

abbrev pub op_sign : Op → Sign
op_sign Add = Plus
op_sign Sub = Minus
op_sign Mul = Star
op_sign LessOp = Less
op_sign EqualOp = Equal

-- What stands in a text, word by word: something for the name of a variable in a statement, something
-- for the name of a called procedure, and something for each other word.
module _ {X : Type 0} (var proc : List ℕ → X) (other : Word → X) where
  abbrev pub operand_entries : Operand → List X
  operand_entries (Var name) = var name ∷ []
  operand_entries (Num false size) = other (Number size) ∷ []
  operand_entries (Num true size) = other (SignWord Minus) ∷ other (Number size) ∷ []

  -- the variable to the left of `:=`, and what is assigned
  abbrev pub assignment : List ℕ → List X → List X
  assignment to value = var to ∷ other (SignWord Becomes) ∷ value

  -- a statement without its `;`
  abbrev pub line_entries : Line → List X
  line_entries Skip = other (KeywordWord SkipWord) ∷ []
  line_entries (Copy to from) = assignment to (operand_entries from)
  line_entries (Address to of) = assignment to (other (SignWord Ampersand) ∷ var of ∷ [])
  line_entries (Load to from) = assignment to (other (SignWord Star) ∷ var from ∷ [])
  line_entries (Compute to op left right) = assignment to (operand_entries left ++ other (SignWord (op_sign op)) ∷ operand_entries right)
  line_entries (Write to from) = other (SignWord Star) ∷ assignment to (operand_entries from)
  line_entries (New to) = assignment to (other (KeywordWord NewWord) ∷ [])
  line_entries (Call to called arg) = assignment to (proc called ∷ other (SignWord OpenParen) ∷ operand_entries arg ++ other (SignWord CloseParen) ∷ [])
  line_entries (Goto to) = other (KeywordWord GotoWord) ∷ other (Number to) ∷ []
  line_entries (If cond taken others) =
      other (KeywordWord IfWord) ∷ operand_entries cond ++ other (KeywordWord GotoWord) ∷ other (Number taken) ∷ other (KeywordWord ElseWord) ∷ other (Number others) ∷ []
  line_entries (Return value) = other (KeywordWord ReturnWord) ∷ operand_entries value

  abbrev pub closed_line : Line → List X
  closed_line line = line_entries line ++ other (SignWord Semicolon) ∷ []

  -- the locals after the first one
  abbrev pub more_entries : List (List ℕ) → List X
  more_entries names = flat_map (λ name. other (SignWord Comma) ∷ other (Name name) ∷ []) names

  abbrev pub locals_entries : List (List ℕ) → List X
  locals_entries [] = []
  locals_entries (first ∷ names) = other (KeywordWord VarWord) ∷ other (Name first) ∷ more_entries names

  -- the parameter, and the locals
  abbrev pub vars_entries : List (List ℕ) → List X
  vars_entries [] = other (SignWord CloseParen) ∷ []
  vars_entries (param ∷ locals) = other (Name param) ∷ other (SignWord CloseParen) ∷ locals_entries locals

  abbrev pub source_entries : Source → List X
  source_entries p =
      other (Name p.name) ∷ other (SignWord OpenParen) ∷ vars_entries p.vars ++ other (SignWord OpenBrace) ∷ flat_map closed_line p.body ++ other (SignWord CloseBrace) ∷ []

-- the words that spell an operand, a statement, a procedure
abbrev pub operand_words : Operand → List Word
operand_words = operand_entries Name Name (λ word. word)

abbrev pub line_words : Line → List Word
line_words = line_entries Name Name (λ word. word)

abbrev pub closed_words : Line → List Word
closed_words = closed_line Name Name (λ word. word)

abbrev pub more_words : List (List ℕ) → List Word
more_words = more_entries Name Name (λ word. word)

abbrev pub comma_words : List ℕ → List Word
comma_words name = SignWord Comma ∷ Name name ∷ []

abbrev pub locals_words : List (List ℕ) → List Word
locals_words = locals_entries Name Name (λ word. word)

abbrev pub source_words : Source → List Word
source_words = source_entries Name Name (λ word. word)

-- the words that spell procedures
abbrev pub file_words : List Source → List Word
file_words sources = flat_map source_words sources
