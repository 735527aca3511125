-- A test that a grammar is decided by one token and that each nonterminal derives something.
use Rattle.std.specs.Prelude.{ℕ, zero, suc, Bool, true, false, ◌&&◌, ◌==◌, nat_lt, List, [], ◌∷◌, length, Option, Some, None, is_none, slice_get, slice_index, unwrap_or}
use Rattle.std.specs.List.{list_all, list_any}
use Rattle.rh_grammar.specs.declared.grammar.Symbol.{Symbol}
use Rattle.rh_grammar.specs.declared.grammar.Symbol.TheVariants.{Token, Rule}
use Rattle.rh_grammar.specs.declared.grammar.Alternative.{Alternative}
use Rattle.rh_grammar.specs.declared.grammar.Nonterminal.{Nonterminal}
use Rattle.rh_grammar.specs.declared.grammar.Grammar.{Grammar}
use Rattle.rh_grammar.specs.Tables.{choice, empty, weight, production_at, rules_of}
use Rattle.rh_grammar.specs.Derivation.{alternatives}
use Rattle.rh_grammar.specs.Deterministic.{vanishes, begins, load, Evidence}

-- What the test goes by: for each nonterminal the classes that may follow it, an alternative and a height.
pub record Tables : Type 0 where
  pub classes : ℕ
  pub follow : List (List ℕ)
  pub witnesses : List ℕ
  pub heights : List ℕ

abbrev pub follows_in : Tables → ℕ → ℕ → Bool
follows_in t rule class = nat_lt class t.classes && list_any (λ c. c == class) (unwrap_or (slice_get t.follow rule) [])

abbrev pub evidence_of : Tables → Evidence
evidence_of t = record {
  follows = follows_in t;
  count = length t.witnesses;
  witness = slice_index t.witnesses;
  height = slice_index t.heights;
}

-- the test passes at each number below the bound
abbrev pub all_below : ℕ → (ℕ → Bool) → Bool
all_below zero test = true
all_below (suc n) test = test n && all_below n test

abbrev pub implies : Bool → Bool → Bool
implies true b = b
implies false b = true

abbrev pub is_number : Option ℕ → ℕ → Bool
is_number None n = false
is_number (Some m) n = m == n

-- tokens of the symbols are of classes below the bound, and their nonterminals are known
abbrev pub symbols_known : Tables → List Symbol → Bool
symbols_known t [] = true
symbols_known t (Token class ∷ symbols) = nat_lt class t.classes && symbols_known t symbols
symbols_known t (Rule rule ∷ symbols) = nat_lt rule (length t.witnesses) && symbols_known t symbols

abbrev pub symbols_lower : Tables → ℕ → List Symbol → Bool
symbols_lower t height [] = true
symbols_lower t height (Token class ∷ symbols) = symbols_lower t height symbols
symbols_lower t height (Rule rule ∷ symbols) =
    nat_lt rule (length t.witnesses) && (nat_lt (slice_index t.heights rule) height && symbols_lower t height symbols)

abbrev pub symbols_followed : Grammar → Tables → ℕ → List Symbol → Bool
symbols_followed g t of [] = true
symbols_followed g t of (Token class ∷ symbols) = symbols_followed g t of symbols
symbols_followed g t of (Rule rule ∷ symbols) =
    all_below t.classes (λ class. implies (begins g symbols class) (follows_in t rule class))
    && (implies (vanishes g symbols) (all_below t.classes (λ class. implies (follows_in t of class) (follows_in t rule class)))
    && symbols_followed g t of symbols)

-- one alternative
abbrev pub production_passes : Grammar → Tables → ℕ → ℕ → List Symbol → Bool
production_passes g t rule p to =
    all_below t.classes (λ class. implies (begins g to class) (is_number (choice g rule class) p))
    && (implies (vanishes g to) (is_number (empty g rule) p)
    && (symbols_followed g t rule to
    && (nat_lt (load g to) (weight g rule)
    && symbols_known t to)))

-- the alternatives of a nonterminal from a number on
abbrev pub productions_pass : Grammar → Tables → ℕ → ℕ → List (List Symbol) → Bool
productions_pass g t rule p [] = true
productions_pass g t rule p (to ∷ others) = production_passes g t rule p to && productions_pass g t rule (suc p) others

-- what follows a nonterminal that may be empty is told from what that begins with
abbrev pub empty_passes : Grammar → Tables → ℕ → Option ℕ → Bool
empty_passes g t rule None = true
empty_passes g t rule (Some p) = all_below t.classes (λ class. implies (follows_in t rule class) (is_none (choice g rule class)))

abbrev pub lower_passes : Tables → ℕ → Option (List Symbol) → Bool
lower_passes t rule None = false
lower_passes t rule (Some to) = symbols_lower t (slice_index t.heights rule) to

-- the classes at which alternatives are taken are below the bound
abbrev pub classes_known : Tables → Alternative → Bool
classes_known t a = list_all (λ class. nat_lt class t.classes) a.at.now

abbrev pub nonterminal_known : Tables → Nonterminal → Bool
nonterminal_known t n = list_all (classes_known t) n.alternatives.now

-- the whole test
abbrev pub is_deterministic : Grammar → Tables → Bool
is_deterministic g t =
    all_below (length g.nonterminals.now) (λ rule. productions_pass g t rule 0 (alternatives (rules_of g) rule))
    && (list_all (nonterminal_known t) g.nonterminals.now
    && (all_below (length g.nonterminals.now) (λ rule. empty_passes g t rule (empty g rule))
    && all_below (length t.witnesses) (λ rule. lower_passes t rule (production_at g rule (slice_index t.witnesses rule)))))
