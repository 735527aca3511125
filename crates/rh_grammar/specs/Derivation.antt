-- What a grammar derives.
use Rattle.std.specs.Prelude.{slice_get, unwrap_or}
use Rattle.std.specs.Prelude.{◌≡◌, ℕ, ◌+◌, ◌<◌, ◌≤◌, List, [], ◌∷◌, ◌++◌, length, take, Option, Some}
use Rattle.rh_grammar.specs.declared.grammar.Symbol.{Symbol}
use Rattle.rh_grammar.specs.declared.grammar.Symbol.TheVariants.{Token, Rule}
use Rattle.rh_grammar.specs.declared.parser.ParseFault.{ParseFault}
use Rattle.rh_grammar.specs.declared.parser.ParseFault.TheVariants.{Syntax, NoMemory}

-- A grammar: for each nonterminal its alternatives, each a list of symbols.
abbrev pub Rules : Type 0
Rules = List (List (List Symbol))

-- the alternatives of a nonterminal
abbrev pub alternatives : Rules → ℕ → List (List Symbol)
alternatives rules rule = unwrap_or (slice_get rules rule) []

-- the alternative of a number, counted within its nonterminal
abbrev pub alternative : Rules → ℕ → ℕ → Option (List Symbol)
alternative rules rule p = slice_get (alternatives rules rule) p

-- Symbols derive tokens by alternatives, in the order in which they replace the leftmost nonterminal.
pub data Derives (rules : Rules) : List Symbol → List ℕ → List ℕ → Type 0 where
  done : Derives rules [] [] []
  token : {class : ℕ} {symbols : List Symbol} {ps tokens : List ℕ} → Derives rules symbols ps tokens → Derives rules (Token class ∷ symbols) ps (class ∷ tokens)
  expand : {rule p : ℕ} {symbols to : List Symbol} {ps tokens : List ℕ} → alternative rules rule p ≡ Some to → Derives rules (to ++ symbols) ps tokens → Derives rules (Rule rule ∷ symbols) (p ∷ ps) tokens

-- symbols derive the tokens
abbrev pub Leads : Rules → List Symbol → List ℕ → Type 0
Leads rules symbols tokens = (ps : List ℕ) × Derives rules symbols ps tokens

-- a nonterminal derives the tokens
abbrev pub Derivable : Rules → ℕ → List ℕ → Type 0
Derivable rules rule tokens = (ps : List ℕ) × Derives rules (Rule rule ∷ []) ps tokens

-- some list that a nonterminal derives begins with the tokens
abbrev pub BeginsDerivable : Rules → ℕ → List ℕ → Type 0
BeginsDerivable rules rule tokens = (more : List ℕ) × Derivable rules rule (tokens ++ more)

-- The tokens before the place begin some derivable list. Those up to and with the one at the place begin
-- none, or the place is the end and all tokens are no derivable list.
pub record IsSyntaxFault (rules : Rules) (rule : ℕ) (tokens : List ℕ) (place : ℕ) : Type 0 where
  pub within : place ≤ length tokens
  pub before : BeginsDerivable rules rule (take place tokens)
  pub here : place < length tokens → BeginsDerivable rules rule (take (place + 1) tokens) → ⊥
  pub at_end : place ≡ length tokens → Derivable rules rule tokens → ⊥

-- the fault of tokens, unless memory ran out
abbrev pub FaultsAs : Rules → ℕ → List ℕ → ParseFault → Type 0
FaultsAs rules rule tokens (Syntax place) = IsSyntaxFault rules rule tokens place
FaultsAs rules rule tokens NoMemory = Unit {0}
