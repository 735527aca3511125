-- When one token of lookahead decides, and every nonterminal derives something.
use Rattle.std.specs.Prelude.{◌≡◌, ℕ, ◌+◌, ◌<◌, Bool, true, false, ◌&&◌, ◌||◌, ◌==◌, List, [], ◌∷◌, Some, None, is_some, if◌then◌else◌}
use Rattle.rh_grammar.specs.declared.grammar.Symbol.{Symbol}
use Rattle.rh_grammar.specs.declared.grammar.Symbol.TheVariants.{Token, Rule}
use Rattle.rh_grammar.specs.declared.grammar.Grammar.{Grammar}
use Rattle.rh_grammar.specs.Tables.{choice, empty, weight, production_at}

-- symbols that may derive no token
abbrev pub vanishes : Grammar → List Symbol → Bool
vanishes g [] = true
vanishes g (Token class ∷ symbols) = false
vanishes g (Rule rule ∷ symbols) = is_some (empty g rule) && vanishes g symbols

-- what symbols derive may begin with a token of the class
abbrev pub begins : Grammar → List Symbol → ℕ → Bool
begins g [] class = false
begins g (Token other ∷ symbols) class = other == class
begins g (Rule rule ∷ symbols) class = is_some (choice g rule class) || (is_some (empty g rule) && begins g symbols class)

-- What the test of a grammar goes by: which classes may follow a nonterminal, and for each of so
-- many nonterminals an alternative of lower ones.
pub record Evidence : Type 0 where
  pub follows : ℕ → ℕ → Bool
  pub count : ℕ
  pub witness : ℕ → ℕ
  pub height : ℕ → ℕ

-- the weight of the symbols up to the first that derives a token in any case
abbrev pub load : Grammar → List Symbol → ℕ
load g [] = 0
load g (Token class ∷ symbols) = 0
load g (Rule rule ∷ symbols) = weight g rule + (if is_some (empty g rule) then load g symbols else 0)

-- the nonterminals are numbered below the count
abbrev pub AreKnown : Evidence → List Symbol → Type 0
AreKnown e [] = Unit {0}
AreKnown e (Token class ∷ symbols) = AreKnown e symbols
AreKnown e (Rule rule ∷ symbols) = (rule < e.count) × AreKnown e symbols

-- the nonterminals are lower than a height
abbrev pub AreLower : Evidence → ℕ → List Symbol → Type 0
AreLower e height [] = Unit {0}
AreLower e height (Token class ∷ symbols) = AreLower e height symbols
AreLower e height (Rule rule ∷ symbols) = (rule < e.count) × (e.height rule < height) × AreLower e height symbols

-- in an alternative of a nonterminal, what may come after each nonterminal may follow it
abbrev pub AreFollowed : Grammar → Evidence → ℕ → List Symbol → Type 0
AreFollowed g e of [] = Unit {0}
AreFollowed g e of (Token class ∷ symbols) = AreFollowed g e of symbols
AreFollowed g e of (Rule rule ∷ symbols) =
    ((class : ℕ) → begins g symbols class ≡ true → e.follows rule class ≡ true)
    × (vanishes g symbols ≡ true → (class : ℕ) → e.follows of class ≡ true → e.follows rule class ≡ true)
    × AreFollowed g e of symbols

-- one alternative of a nonterminal
pub record IsDecided (g : Grammar) (e : Evidence) (rule p : ℕ) (to : List Symbol) : Type 0 where
  -- the table has it at each token with which it may begin
  pub chosen : (class : ℕ) → begins g to class ≡ true → choice g rule class ≡ Some p
  -- the table has it as the one of no symbols, if it may derive no token
  pub vanishing : vanishes g to ≡ true → empty g rule ≡ Some p
  pub followed : AreFollowed g e rule to
  pub lighter : load g to < weight g rule
  pub known : AreKnown e to

-- an alternative of the nonterminal has this number
abbrev pub IsProductionOf : Grammar → ℕ → ℕ → Type 0
IsProductionOf g rule p = (to : List Symbol) × (production_at g rule p ≡ Some to)

-- a nonterminal derives something, by alternatives of lower nonterminals
abbrev pub IsProductive : Grammar → Evidence → ℕ → Type 0
IsProductive g e rule = (to : List Symbol) × (production_at g rule (e.witness rule) ≡ Some to) × AreLower e (e.height rule) to

-- one token decides, and each nonterminal derives something
pub record IsDeterministic (g : Grammar) (e : Evidence) : Type 0 where
  pub decided : (rule p : ℕ) (to : List Symbol) → production_at g rule p ≡ Some to → IsDecided g e rule p to
  pub choices : (rule class p : ℕ) → choice g rule class ≡ Some p → IsProductionOf g rule p
  pub empties : (rule p : ℕ) → empty g rule ≡ Some p → production_at g rule p ≡ Some []
  -- where a nonterminal may derive nothing, no token that follows it is one that it begins with
  pub apart : (rule class p : ℕ) → empty g rule ≡ Some p → e.follows rule class ≡ true → choice g rule class ≡ None
  pub productive : (rule : ℕ) → rule < e.count → IsProductive g e rule
