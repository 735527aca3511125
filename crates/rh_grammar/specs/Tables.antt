-- What a grammar says of its nonterminals.
use Rattle.std.specs.Borrow.{Bor}
use Rattle.std.specs.Prelude.{◌≡◌, ℕ, Bool, ◌==◌, List, length, Option, Some, None, map, slice_get, nat_lt, if◌then◌else◌}
use Rattle.std.specs.List.{list_any, position}
use Rattle.std.specs.Option.{option_and_then, option_or, option_map_or}
use Rattle.rh_grammar.specs.declared.grammar.Symbol.{Symbol}
use Rattle.rh_grammar.specs.declared.grammar.Alternative.{Alternative}
use Rattle.rh_grammar.specs.declared.grammar.Nonterminal.{Nonterminal}
use Rattle.rh_grammar.specs.declared.grammar.Grammar.{Grammar}
use Rattle.rh_grammar.specs.Derivation.{Rules, alternative}

-- the alternative is to be taken at a token of the class
abbrev pub is_taken_at : ℕ → Alternative → Bool
is_taken_at class a = list_any (λ c. c == class) a.at.now

-- the alternative has no symbols
abbrev pub is_empty : Alternative → Bool
is_empty a = length a.to.now == 0

-- a number of eight bits
abbrev pub byte : Option ℕ → Option ℕ
byte None = None
byte (Some n) = if nat_lt n 256 then Some n else None

-- the alternative to take for a nonterminal at a token of a class
unfoldable pub choice : Grammar → ℕ → ℕ → Option ℕ
choice g rule class = option_and_then (λ n. byte (position (is_taken_at class) n.alternatives.now)) (slice_get g.nonterminals.now rule)

-- the alternative of no symbols
unfoldable pub empty : Grammar → ℕ → Option ℕ
empty g rule = option_and_then (λ n. byte (position is_empty n.alternatives.now)) (slice_get g.nonterminals.now rule)

-- the lists of symbols that may replace a nonterminal
abbrev pub sides_of : Nonterminal → List (List Symbol)
sides_of n = map (λ a. a.to.now) n.alternatives.now

-- the grammar as lists
abbrev pub rules_of : Grammar → Rules
rules_of g = map sides_of g.nonterminals.now

-- what replaces a nonterminal by the alternative of a number
abbrev pub production_at : Grammar → ℕ → ℕ → Option (List Symbol)
production_at g rule number = alternative (rules_of g) rule number

-- these are the symbols, where there are any
abbrev pub SymbolsOf : Option (Bor (List Symbol)) → Option (List Symbol) → Type 0
SymbolsOf None None = Unit {0}
SymbolsOf (Some symbols) (Some to) = symbols.now ≡ to
SymbolsOf (Some symbols) None = ⊥
SymbolsOf None (Some to) = ⊥

-- the alternative to take at a token: that of the table, or else the one of no symbols
unfoldable pub chosen : Grammar → ℕ → ℕ → Option ℕ
chosen g rule class = option_or (choice g rule class) (empty g rule)

-- the weight of a nonterminal
unfoldable pub weight : Grammar → ℕ → ℕ
weight g rule = option_map_or (λ n. n.weight) (slice_get g.nonterminals.now rule) 0
