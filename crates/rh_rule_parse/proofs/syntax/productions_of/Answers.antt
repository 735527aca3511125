use Rattle.std.proofs.Common.{[], ◌∷◌, List, ℕ, refl, subst, ◌∙◌, arith}
use Rattle.rh_grammar.specs.declared.grammar.Symbol.TheVariants.{Rule}
use Rattle.std.specs.Prelude.{IfOk, IfErr}
use Rattle.rh_grammar.specs.Derivation.{Derives, FaultsAs}
use Rattle.rh_grammar.specs.Tables.{choice, empty, weight}
use Rattle.rh_grammar.specs.Test.{Tables}
use Rattle.rh_grammar.proofs.Passing.{parsable}
use Rattle.rh_rule_source.specs.Grammar.{productions, file, EQUAL, DIFFER, ARROW, SEMICOLON, COMMA, OPEN_PAREN, CLOSE_PAREN, CLOSE_BRACE, PLUS, MINUS, STAR, LESS, AMPERSAND, AT, FACT, AND, RULE, WHEN, UPPER, ONE, NUMBER}
use Rattle.rh_rule_parse.proofs.syntax.productions_of.Goals as goal

-- which classes may follow each nonterminal, an alternative of it that derives something, and its height
tables : Tables
tables = record {
  classes = 45;
  follow =
      -- file
      ([]) ∷
      -- items
      ([]) ∷
      -- item
      (FACT ∷ RULE ∷ []) ∷
      -- fact
      (FACT ∷ RULE ∷ []) ∷
      -- param
      (COMMA ∷ CLOSE_PAREN ∷ []) ∷
      -- params
      (CLOSE_PAREN ∷ []) ∷
      -- atoms
      (SEMICOLON ∷ []) ∷
      -- atom
      (SEMICOLON ∷ AND ∷ []) ∷
      -- relation
      (OPEN_PAREN ∷ MINUS ∷ STAR ∷ AMPERSAND ∷ UPPER ∷ ONE ∷ NUMBER ∷ []) ∷
      -- mterm
      (EQUAL ∷ DIFFER ∷ SEMICOLON ∷ CLOSE_PAREN ∷ AND ∷ []) ∷
      -- mbase
      (EQUAL ∷ DIFFER ∷ ARROW ∷ SEMICOLON ∷ COMMA ∷ CLOSE_PAREN ∷ CLOSE_BRACE ∷ PLUS ∷ MINUS ∷ STAR ∷ LESS ∷ AND ∷ WHEN ∷ []) ∷
      -- num
      (EQUAL ∷ DIFFER ∷ ARROW ∷ SEMICOLON ∷ COMMA ∷ CLOSE_PAREN ∷ CLOSE_BRACE ∷ PLUS ∷ MINUS ∷ STAR ∷ LESS ∷ AND ∷ WHEN ∷ []) ∷
      -- size
      (EQUAL ∷ DIFFER ∷ ARROW ∷ SEMICOLON ∷ COMMA ∷ CLOSE_PAREN ∷ CLOSE_BRACE ∷ PLUS ∷ MINUS ∷ STAR ∷ LESS ∷ AND ∷ WHEN ∷ []) ∷
      -- op
      (MINUS ∷ UPPER ∷ ONE ∷ NUMBER ∷ []) ∷
      -- rule
      (FACT ∷ RULE ∷ []) ∷
      -- metas
      (CLOSE_PAREN ∷ []) ∷
      -- pattern
      (ARROW ∷ WHEN ∷ []) ∷
      -- form
      (ARROW ∷ CLOSE_BRACE ∷ WHEN ∷ []) ∷
      -- right
      (ARROW ∷ CLOSE_BRACE ∷ WHEN ∷ []) ∷
      -- operation
      (ARROW ∷ CLOSE_BRACE ∷ WHEN ∷ []) ∷
      -- wbase
      (ARROW ∷ CLOSE_PAREN ∷ CLOSE_BRACE ∷ WHEN ∷ []) ∷
      -- when
      (ARROW ∷ []) ∷
      -- conds
      (ARROW ∷ []) ∷
      -- cond
      (ARROW ∷ COMMA ∷ []) ∷
      -- fact_use
      (AT ∷ []) ∷
      -- args
      (CLOSE_PAREN ∷ []) ∷
      -- sterm
      (EQUAL ∷ DIFFER ∷ ARROW ∷ COMMA ∷ []) ∷
      -- conclusion
      (CLOSE_BRACE ∷ []) ∷
      -- slot
      (CLOSE_BRACE ∷ []) ∷
      [];
  witnesses = 2 ∷ 1 ∷ 0 ∷ 0 ∷ 0 ∷ 1 ∷ 1 ∷ 2 ∷ 0 ∷ 0 ∷ 0 ∷ 1 ∷ 0 ∷ 0 ∷ 0 ∷ 1 ∷ 0 ∷ 0 ∷ 0 ∷ 1 ∷ 0 ∷ 1 ∷ 1 ∷ 0 ∷ 0 ∷ 1 ∷ 0 ∷ 1 ∷ 0 ∷ [];
  heights = 1 ∷ 1 ∷ 3 ∷ 2 ∷ 1 ∷ 1 ∷ 1 ∷ 1 ∷ 1 ∷ 1 ∷ 1 ∷ 1 ∷ 1 ∷ 1 ∷ 3 ∷ 1 ∷ 1 ∷ 1 ∷ 1 ∷ 1 ∷ 1 ∷ 1 ∷ 1 ∷ 3 ∷ 2 ∷ 1 ∷ 2 ∷ 2 ∷ 1 ∷ [];
}

pub parse-requires : goal.parse-requires
unfolding tables choice empty weight
parse-requires c = parsable _ tables 0 refl (omega arith)

pub returns-clause-derives : goal.returns-clause-derives
unfolding productions
returns-clause-derives c =
    subst (λ (classes : List ℕ). IfOk c.parse.result (λ taken. Derives productions (Rule file ∷ []) taken.items classes)) (c.as_slice.ensures.value ∙ c.in_ok-classes.ensures) c.parse.ensures.derives

pub returns-clause-fault : goal.returns-clause-fault
unfolding productions
returns-clause-fault c =
    subst (λ (classes : List ℕ). IfErr c.parse.result (FaultsAs productions file classes)) (c.as_slice.ensures.value ∙ c.in_ok-classes.ensures) c.parse.ensures.fault
