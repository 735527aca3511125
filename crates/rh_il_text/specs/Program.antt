-- What a byte list is a text of, and its one fault.
use Rattle.std.specs.Prelude.{◌≡◌, ◌≢◌, ◌⊎◌, ℕ, not, List, length, Option, Some, None, Result, Ok, Err, slice_get}
use Rattle.std.specs.List.{position}
use Rattle.std.specs.Option.{option_map_or}
use Rattle.rh_text.specs.declared.token.Token.{Token}
use Rattle.rh_text.specs.declared.token.LexFault.{LexFault}
use Rattle.rh_text.specs.declared.token.LexFault.TheVariants.{BadByte, NumberRange, LongName, NoMemory as NoLexMemory}
use Rattle.rh_text.specs.Pieces.{AreTokens, IsFirstFault}
use Rattle.rh_grammar.specs.Derivation.{Derivable, IsSyntaxFault}
use Rattle.rh_il.specs.declared.program.Proc.{Proc}
use Rattle.rh_il.specs.declared.fault.ProgFault.{ProgFault}
use Rattle.rh_il.specs.declared.fault.ProgFault.TheVariants.{Wrong, NoMemory as NoProgMemory}
use Rattle.rh_il.specs.Checks.{program_fault}
use Rattle.rh_il_text.specs.declared.fault.ReadFault.{ReadFault}
use Rattle.rh_il_text.specs.declared.fault.ReadFault.TheVariants.{Lex, Syntax, Unknown, Program, NoMemory}
use Rattle.rh_il_source.specs.declared.source.Source.{Source}
use Rattle.rh_il_source.specs.Grammar.{productions, program}
use Rattle.rh_il_source.specs.Words.{words_of, classes_of}
use Rattle.rh_il_source.specs.Source.{file_words}
use Rattle.rh_il_text.specs.Known.{file_marks, procs_of}

-- these are the tokens of the text, the classes of their words are derived from the grammar, and the
-- words are those that spell the procedures
pub record Spells (text : List ℕ) (tokens : List Token) (sources : List Source) : Type 0 where
  pub are_tokens : AreTokens text tokens
  pub derivable : Derivable productions program (classes_of (words_of text tokens))
  pub spelled : words_of text tokens ≡ file_words sources

-- the first word that is a missing name: a variable that its procedure does not declare, or a called
-- procedure that the file does not have
abbrev pub first_missing : List Source → Option ℕ
first_missing sources = position not (file_marks sources)

-- The text spells procedures, no name is missing, and with numbers in place of names they are the
-- program, which passes the checks.
pub record IsText (text : List ℕ) (procs : List Proc) : Type 0 where
  pub tokens : List Token
  pub sources : List Source
  pub spells : Spells text tokens sources
  pub known : first_missing sources ≡ None
  pub told : procs ≡ procs_of sources
  pub passes : program_fault procs ≡ None

-- the offset of the token of a number, or of the end of the text
abbrev pub start_of : List ℕ → List Token → ℕ → ℕ
start_of text tokens place = option_map_or (λ token. token.start) (slice_get tokens place) (length text)

-- at the offset stands the first token that cannot continue the text of a program
pub record IsSyntaxAt (text : List ℕ) (at : ℕ) : Type 0 where
  pub tokens : List Token
  pub are_tokens : AreTokens text tokens
  pub place : ℕ
  pub fault : IsSyntaxFault productions program (classes_of (words_of text tokens)) place
  pub at_is : at ≡ start_of text tokens place

-- the text spells procedures, and at the offset stands the first missing name
pub record IsUnknownAt (text : List ℕ) (at : ℕ) : Type 0 where
  pub tokens : List Token
  pub sources : List Source
  pub spells : Spells text tokens sources
  pub place : ℕ
  pub missing : first_missing sources ≡ Some place
  pub at_is : at ≡ start_of text tokens place

-- the text spells procedures, no name is missing, and this is the first check that they do not pass
pub record IsWrong (text : List ℕ) (fault : ProgFault) : Type 0 where
  pub tokens : List Token
  pub sources : List Source
  pub spells : Spells text tokens sources
  pub known : first_missing sources ≡ None
  pub wrong : program_fault (procs_of sources) ≡ Some fault

-- the fault is the text's, unless memory ran out
abbrev pub FaultsAs : List ℕ → ReadFault → Type 0
FaultsAs text (Lex fault) = IsFirstFault text fault
FaultsAs text (Syntax at) = IsSyntaxAt text at
FaultsAs text (Unknown at) = IsUnknownAt text at
FaultsAs text (Program (Wrong kind proc item)) = IsWrong text (Wrong kind proc item)
FaultsAs text (Program NoProgMemory) = ⊥
FaultsAs text NoMemory = Unit {0}

-- out of memory, and no fault of the text
abbrev pub of_lexer : LexFault → ReadFault
of_lexer (BadByte at) = Lex (BadByte at)
of_lexer (NumberRange at) = Lex (NumberRange at)
of_lexer (LongName at) = Lex (LongName at)
of_lexer NoLexMemory = NoMemory

abbrev pub of_checks : ProgFault → ReadFault
of_checks (Wrong kind proc item) = Program (Wrong kind proc item)
of_checks NoProgMemory = NoMemory

-- this program, or out of memory
abbrev pub IsProgram : List Proc → Result (List Proc) ReadFault → Type 0
IsProgram procs (Ok read) = read ≡ procs
IsProgram procs (Err fault) = fault ≡ NoMemory

-- this fault, or out of memory
abbrev pub IsFault : ReadFault → Result (List Proc) ReadFault → Type 0
IsFault fault (Ok read) = ⊥
IsFault fault (Err other) = (other ≡ fault) ⊎ (other ≡ NoMemory)

-- The bytes are a text of one program or have one fault, and never both. To be out of memory is no fault
-- of theirs.
pub record HasOneAnswer (text : List ℕ) : Type 0 where
  pub one_program : (a b : List Proc) → IsText text a → IsText text b → a ≡ b
  pub one_fault : (f g : ReadFault) → FaultsAs text f → FaultsAs text g → f ≢ NoMemory → g ≢ NoMemory → f ≡ g
  pub not_both : (procs : List Proc) (fault : ReadFault) → IsText text procs → FaultsAs text fault → fault ≡ NoMemory
