-- What words and a text spell.
use Rattle.std.specs.Prelude.{◌≡◌, ℕ, List, map}
use Rattle.rh_text.specs.declared.token.Token.{Token}
use Rattle.rh_text.specs.Pieces.{AreTokens}
use Rattle.rh_grammar.specs.Derivation.{Derivable}
use Rattle.rh_rule_source.specs.declared.source.SourceFile.{SourceFile}
use Rattle.rh_rule_source.specs.declared.word.Word.{Word}
use Rattle.rh_rule_source.specs.Grammar.{productions, file}
use Rattle.rh_rule_source.specs.Source.{file_words}
use Rattle.rh_rule_source.specs.Words.{class_of, word_of}

-- the words derive a rule file by the grammar, and are those of the source
pub record AreOf (words : List Word) (source : SourceFile) : Type 0 where
  pub derivable : Derivable productions file (map class_of words)
  pub same : words ≡ file_words source

-- the classes of the words that tokens say
abbrev pub classes : List ℕ → List Token → List ℕ
classes text tokens = map class_of (map (word_of text) tokens)

-- the words that the tokens of the text say are those of the source
pub record Spells (text : List ℕ) (source : SourceFile) : Type 0 where
  pub tokens : List Token
  pub are_tokens : AreTokens text tokens
  pub words : AreOf (map (word_of text) tokens) source
