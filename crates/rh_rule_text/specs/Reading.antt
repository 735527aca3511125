-- What a byte list is a text of, and its one fault.
use Rattle.std.specs.Prelude.{◌≡◌, ◌≢◌, ℕ, List, length, Some, None, slice_get}
use Rattle.std.specs.Option.{option_map_or}
use Rattle.rh_text.specs.declared.token.Token.{Token}
use Rattle.rh_text.specs.Pieces.{AreTokens, IsFirstFault}
use Rattle.rh_grammar.specs.Derivation.{IsSyntaxFault}
use Rattle.rh_rule.specs.declared.fault.RuleFault.{RuleFault}
use Rattle.rh_rule.specs.RuleFiles.{Rules}
use Rattle.rh_rule.specs.Checks.{file_fault}
use Rattle.rh_rule_source.specs.declared.source.SourceFile.{SourceFile}
use Rattle.rh_rule_text.specs.declared.fault.RulesFault.{RulesFault}
use Rattle.rh_rule_text.specs.declared.fault.RulesFault.TheVariants.{Lex, Syntax, Unknown, Rules as WrongRules, NoMemory}
use Rattle.rh_rule_source.specs.Grammar.{productions, file}
use Rattle.rh_rule_source.specs.Spelling.{Spells, classes}
use Rattle.rh_rule_text.specs.Resolve.{file_schemas, file_rules}
use Rattle.rh_rule_text.specs.Unknown.{unknown_name}

-- the offset of the token at a place, or the length of the text past the last one
abbrev pub offset_at : List ℕ → List Token → ℕ → ℕ
offset_at text tokens place = option_map_or (λ t. t.start) (slice_get tokens place) (length text)

-- the schemas and the rules of a source
abbrev pub resolved : SourceFile → Rules
resolved source = record { schemas = file_schemas source.items; rules = file_rules source.items }

-- The text spells a source of which every name is known, and these are its schemas and rules, which pass
-- every check.
pub record IsText (text : List ℕ) (rules : Rules) : Type 0 where
  pub source : SourceFile
  pub spells : Spells text source
  pub known : unknown_name source.items ≡ None
  pub told : rules ≡ resolved source
  pub passes : file_fault rules.schemas rules.rules ≡ None

-- at the offset stands the first token that cannot continue the text of a rule file
pub record IsSyntaxAt (text : List ℕ) (offset : ℕ) : Type 0 where
  pub tokens : List Token
  pub are_tokens : AreTokens text tokens
  pub place : ℕ
  pub fault : IsSyntaxFault productions file (classes text tokens) place
  pub told : offset ≡ offset_at text tokens place

-- the text spells a source whose first unknown name stands at the offset
pub record IsUnknownAt (text : List ℕ) (offset : ℕ) : Type 0 where
  pub source : SourceFile
  pub spells : Spells text source
  pub unknown : unknown_name source.items ≡ Some offset

-- the text spells a source of which every name is known, and this is the first check that it fails
pub record FailsCheck (text : List ℕ) (fault : RuleFault) : Type 0 where
  pub source : SourceFile
  pub spells : Spells text source
  pub known : unknown_name source.items ≡ None
  pub fails : file_fault (resolved source).schemas (resolved source).rules ≡ Some fault

-- the fault of the text, unless memory ran out
abbrev pub FaultsAs : List ℕ → RulesFault → Type 0
FaultsAs text (Lex fault) = IsFirstFault text fault
FaultsAs text (Syntax offset) = IsSyntaxAt text offset
FaultsAs text (Unknown offset) = IsUnknownAt text offset
FaultsAs text (WrongRules fault) = FailsCheck text fault
FaultsAs text NoMemory = Unit {0}

-- The bytes are a text of one rule file or have one fault, and never both. To be out of memory is no
-- fault of theirs.
pub record HasOneAnswer (text : List ℕ) : Type 0 where
  pub one_rule_file : (a b : Rules) → IsText text a → IsText text b → a ≡ b
  pub one_fault : (f g : RulesFault) → FaultsAs text f → FaultsAs text g → f ≢ NoMemory → g ≢ NoMemory → f ≡ g
  pub not_both : (rules : Rules) (fault : RulesFault) → IsText text rules → FaultsAs text fault → fault ≡ NoMemory

-- The steps of reading, each with what it tells.

-- the tokens' fault
abbrev pub LexFaultsAs : List ℕ → RulesFault → Type 0
LexFaultsAs text (Lex fault) = IsFirstFault text fault
LexFaultsAs text (Syntax offset) = ⊥
LexFaultsAs text (Unknown offset) = ⊥
LexFaultsAs text (WrongRules fault) = ⊥
LexFaultsAs text NoMemory = Unit {0}

-- the fault of the classes of tokens
abbrev pub ParseFaultsAs : List ℕ → List Token → RulesFault → Type 0
ParseFaultsAs text tokens (Lex fault) = ⊥
ParseFaultsAs text tokens (Syntax offset) =
    (place : ℕ) × IsSyntaxFault productions file (classes text tokens) place × (offset ≡ offset_at text tokens place)
ParseFaultsAs text tokens (Unknown offset) = ⊥
ParseFaultsAs text tokens (WrongRules fault) = ⊥
ParseFaultsAs text tokens NoMemory = Unit {0}

-- these are the schemas and the rules of the source
pub record IsResolved (source : SourceFile) (rules : Rules) : Type 0 where
  pub known : unknown_name source.items ≡ None
  pub told : rules ≡ resolved source
  pub passes : file_fault rules.schemas rules.rules ≡ None

-- the fault of the source
abbrev pub ResolveFaultsAs : SourceFile → RulesFault → Type 0
ResolveFaultsAs source (Lex fault) = ⊥
ResolveFaultsAs source (Syntax offset) = ⊥
ResolveFaultsAs source (Unknown offset) = unknown_name source.items ≡ Some offset
ResolveFaultsAs source (WrongRules fault) =
    (unknown_name source.items ≡ None) × (file_fault (resolved source).schemas (resolved source).rules ≡ Some fault)
ResolveFaultsAs source NoMemory = Unit {0}
