-- The alternatives of lists.
use Rattle.std.specs.Prelude.{◌≡◌, ℕ, ◌+◌, ◌<◌, List, [], ◌∷◌, Some}
use Rattle.rh_grammar.specs.declared.grammar.Symbol.{Symbol}
use Rattle.rh_grammar.specs.declared.grammar.Symbol.TheVariants.{Token, Rule}
use Rattle.rh_grammar.specs.Derivation.{alternative}
use Rattle.rh_rule_source.specs.Grammar.{productions, LOWER}

-- The parts that follow the first one are, by two alternatives in a row, a word and one more part, or nothing.
pub record IsSeparated (part others between more : ℕ) : Type 0 where
  pub one_more : alternative productions others more ≡ Some (Token between ∷ Rule part ∷ Rule others ∷ [])
  pub none_more : alternative productions others (more + 1) ≡ Some []
  pub no_other : (n : ℕ) (to : List Symbol) → alternative productions others n ≡ Some to → (more < n + 1) × (n < more + 2)
  pub fixed : between < LOWER
  pub small : more < 255

-- The parts that follow are, by two alternatives in a row, one more part, or nothing.
pub record IsRepeated (part others more : ℕ) : Type 0 where
  pub one_more : alternative productions others more ≡ Some (Rule part ∷ Rule others ∷ [])
  pub none_more : alternative productions others (more + 1) ≡ Some []
  pub no_other : (n : ℕ) (to : List Symbol) → alternative productions others n ≡ Some to → (more < n + 1) × (n < more + 2)
  pub small : more < 255
