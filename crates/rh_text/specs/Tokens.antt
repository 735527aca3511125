-- The two answers about a text: its tokens, or its first fault.
use Rattle.std.specs.Prelude.{◌≡◌, ◌⊎◌, ℕ, List, Result, Ok, Err}
use Rattle.std.specs.Global.{Vec}
use Rattle.rh_text.specs.declared.token.Token.{Token}
use Rattle.rh_text.specs.declared.token.LexFault.{LexFault}
use Rattle.rh_text.specs.declared.token.LexFault.TheVariants.{BadByte, NumberRange, LongName, NoMemory}
use Rattle.rh_text.specs.Pieces.{AreTokens, IsFirstFault}

-- the fault is the text's first, unless memory ran out
abbrev pub FaultsAs : List ℕ → LexFault → Type 0
FaultsAs text (BadByte at) = IsFirstFault text (BadByte at)
FaultsAs text (NumberRange at) = IsFirstFault text (NumberRange at)
FaultsAs text (LongName at) = IsFirstFault text (LongName at)
FaultsAs text NoMemory = Unit {0}

-- these tokens, or out of memory
abbrev pub IsTokens : List Token → Result (Vec Token) LexFault → Type 0
IsTokens tokens (Ok found) = found.items ≡ tokens
IsTokens tokens (Err fault) = fault ≡ NoMemory

-- this fault, or out of memory
abbrev pub IsFault : LexFault → Result (Vec Token) LexFault → Type 0
IsFault fault (Ok found) = ⊥
IsFault fault (Err other) = (other ≡ fault) ⊎ (other ≡ NoMemory)

-- a text has one list of tokens or one first fault, and never both
pub record HasOneAnswer (text : List ℕ) : Type 0 where
  pub one_list : (a b : List Token) → AreTokens text a → AreTokens text b → a ≡ b
  pub one_fault : (f g : LexFault) → IsFirstFault text f → IsFirstFault text g → f ≡ g
  pub not_both : (tokens : List Token) (fault : LexFault) → AreTokens text tokens → IsFirstFault text fault → ⊥
