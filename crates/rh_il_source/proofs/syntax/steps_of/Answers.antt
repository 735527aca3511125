use Rattle.std.proofs.Common.{[], ◌∷◌, refl, arith}
use Rattle.rh_grammar.specs.Tables.{choice, empty, weight}
use Rattle.rh_grammar.specs.Test.{Tables}
use Rattle.rh_grammar.proofs.Passing.{parsable}
use Rattle.rh_il_source.specs.Grammar.{equal, semicolon, close_paren, open_brace, close_brace, plus, minus, star, less, goto_word, name, index, size, other}
use Rattle.rh_il_source.proofs.syntax.steps_of.Goals as goal

-- which classes may follow each nonterminal, an alternative of it that derives something, and its height
tables : Tables
tables = record {
  classes = other;
  follow =
      -- program
      ([]) ∷
      -- procedure
      (name ∷ []) ∷
      -- locals
      (open_brace ∷ []) ∷
      -- more_locals
      (open_brace ∷ []) ∷
      -- body
      (close_brace ∷ []) ∷
      -- statement
      (semicolon ∷ []) ∷
      -- value
      (semicolon ∷ []) ∷
      -- behind_name
      (semicolon ∷ []) ∷
      -- behind_base
      (semicolon ∷ []) ∷
      -- base
      (semicolon ∷ close_paren ∷ goto_word ∷ []) ∷
      -- number
      (equal ∷ semicolon ∷ close_paren ∷ plus ∷ minus ∷ star ∷ less ∷ goto_word ∷ []) ∷
      -- magnitude
      (equal ∷ semicolon ∷ close_paren ∷ plus ∷ minus ∷ star ∷ less ∷ goto_word ∷ []) ∷
      -- operator
      (minus ∷ name ∷ index ∷ size ∷ []) ∷
      [];
  witnesses = 1 ∷ 0 ∷ 1 ∷ 1 ∷ 1 ∷ 0 ∷ 0 ∷ 2 ∷ 1 ∷ 0 ∷ 0 ∷ 0 ∷ 0 ∷ [];
  heights = 1 ∷ 2 ∷ 1 ∷ 1 ∷ 1 ∷ 1 ∷ 1 ∷ 1 ∷ 1 ∷ 1 ∷ 1 ∷ 1 ∷ 1 ∷ [];
}

pub parse-requires : goal.parse-requires
unfolding tables choice empty weight
parse-requires c = parsable _ tables 0 refl (omega arith)
