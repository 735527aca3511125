-- What a parser keeps true from token to token.
use Rattle.rh_grammar.specs.Tables.{rules_of}
use Rattle.std.specs.Prelude.{◌≡◌, ℕ, ◌<◌, Bool, true, false, List, [], ◌∷◌, ◌++◌, length, reverse, Option, Some, None}
use Rattle.rh_grammar.specs.declared.grammar.Symbol.{Symbol}
use Rattle.rh_grammar.specs.declared.grammar.Symbol.TheVariants.{Token, Rule}
use Rattle.rh_grammar.specs.declared.grammar.Grammar.{Grammar}
use Rattle.rh_grammar.specs.Tables.{chosen}
use Rattle.rh_grammar.specs.Derivation.{Derives, IsSyntaxFault}
use Rattle.rh_grammar.specs.Deterministic.{Evidence, begins, AreKnown, IsDeterministic}

-- what follows each nonterminal of symbols may do so
abbrev pub IsContext : Grammar → Evidence → List Symbol → Type 0
IsContext g e [] = Unit {0}
IsContext g e (Token class ∷ α) = IsContext g e α
IsContext g e (Rule rule ∷ α) = ((class : ℕ) → begins g α class ≡ true → e.follows rule class ≡ true) × IsContext g e α

-- what is known of the tokens that come: nothing, the next of them, or that there is none
pub data Ahead : Type 0 where
  Any : Ahead
  Next : ℕ → Ahead
  End : Ahead

abbrev pub Come : Ahead → List ℕ → Type 0
Come Any tokens = Unit {0}
Come (Next class) [] = ⊥
Come (Next class) (other ∷ tokens) = other ≡ class
Come End [] = Unit {0}
Come End (other ∷ tokens) = ⊥

-- The tokens so far were taken by productions, and the symbols are what is left to derive.
pub record IsParsed (g : Grammar) (e : Evidence) (start : ℕ) (ahead : Ahead) (tokens : List ℕ) (symbols : List Symbol) (ps : List ℕ) : Type 0 where
  pub sound : (qs more : List ℕ) → Derives (rules_of g) symbols qs more → Derives (rules_of g) (Rule start ∷ []) (ps ++ qs) (tokens ++ more)
  pub complete : (qs more : List ℕ) → Come ahead more → Derives (rules_of g) (Rule start ∷ []) qs (tokens ++ more) → (rs : List ℕ) × Derives (rules_of g) symbols rs more
  pub context : IsContext g e symbols
  pub known : AreKnown e symbols

-- the symbols derive nothing that begins with the token
abbrev pub IsStuck : Grammar → List Symbol → ℕ → Type 0
IsStuck g symbols class = (rs more : List ℕ) → Derives (rules_of g) symbols rs (class ∷ more) → ⊥

-- the symbol with which those on a stack begin
abbrev pub IsTop : List Symbol → Option Symbol → Type 0
IsTop stack (Some symbol) = (others : List Symbol) × (reverse stack ≡ symbol ∷ others)
IsTop stack None = reverse stack ≡ []

-- the symbols on a stack begin with a nonterminal
abbrev pub IsNextRule : List Symbol → Option ℕ → Type 0
IsNextRule stack (Some rule) = (others : List Symbol) × (reverse stack ≡ Rule rule ∷ others)
IsNextRule stack None = (rule : ℕ) (others : List Symbol) → reverse stack ≡ Rule rule ∷ others → ⊥

-- whatever was parsed before is parsed, with the token ahead, and no nonterminal can be replaced
pub record Settles (g : Grammar) (class : ℕ) (old : List Symbol) (ps : List ℕ) (new : List Symbol) (qs : List ℕ) : Type 0 where
  pub parsed : (e : Evidence) (start : ℕ) (tokens : List ℕ) → IsDeterministic g e → IsParsed g e start Any tokens (reverse old) ps → IsParsed g e start (Next class) tokens (reverse new) qs
  pub stopped : (rule : ℕ) (others : List Symbol) → reverse new ≡ Rule rule ∷ others → chosen g rule class ≡ None

-- the token is taken, or the symbols are stuck there
abbrev pub Takes : Grammar → ℕ → List Symbol → List ℕ → Bool → List Symbol → List ℕ → Type 0
Takes g class old ps true new qs =
    (e : Evidence) (start : ℕ) (tokens : List ℕ) → IsDeterministic g e → IsParsed g e start Any tokens (reverse old) ps → IsParsed g e start Any (tokens ++ class ∷ []) (reverse new) qs
Takes g class old ps false new qs =
    (e : Evidence) (start : ℕ) (tokens : List ℕ) → IsDeterministic g e → IsParsed g e start Any tokens (reverse old) ps → IsParsed g e start (Next class) tokens (reverse new) qs × IsStuck g (reverse new) class

-- at the end of the tokens they are derived, or the fault is there
abbrev pub Finishes : Grammar → List Symbol → List ℕ → Bool → List ℕ → Type 0
Finishes g old ps true qs =
    (e : Evidence) (start : ℕ) (tokens : List ℕ) → IsDeterministic g e → IsParsed g e start Any tokens (reverse old) ps → Derives (rules_of g) (Rule start ∷ []) qs tokens
Finishes g old ps false qs =
    (e : Evidence) (start : ℕ) (tokens : List ℕ) → IsDeterministic g e → IsParsed g e start Any tokens (reverse old) ps → IsSyntaxFault (rules_of g) start tokens (length tokens)

-- the grammar is decided by one token, and the nonterminal is one of its
abbrev pub IsParsable : Grammar → ℕ → Type 0
IsParsable g rule = (e : Evidence) × IsDeterministic g e × (rule < e.count)
